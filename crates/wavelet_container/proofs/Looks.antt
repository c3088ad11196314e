-- Verdicts that come before the operations are looked at, and those that come after.
--     base_looks        once its base is found the operations of a submission decide
--     adds_none         in the empty history: its author isn't added
--     at_zero           it is, and the version is 0: the hash is left to test
--     elsewhere         the version isn't 0
--     another, same     the hash there is another, or that of the submission
use Rattle.std.proofs.Common.{◌≡◌, ℕ, ◌==◌, Bool, true, false, cond, List, [], drop, Option, Some, None, sym, ap, subst, ◌∙◌}
use Rattle.wave_hash.specs.Chain.{zero_hash_of}
use Rattle.wavelet_op.specs.Acts.{Act, meanings}
use Rattle.wavelet_op.specs.Deltas.{DeltaOf}
use Rattle.wavelet_op.specs.Grids.{pass}
use Rattle.wavelet_op.specs.States.{State, run}
use Rattle.wavelet_op.specs.declared.delta.Submission.{Submission}
use Rattle.wavelet_op.specs.declared.role.Role.TheVariants as role
use Rattle.wavelet_op.specs.declared.verdict.Verdict.TheVariants.{NotParticipant, UnknownVersion, WrongHash}
use Rattle.delta_history.specs.Histories.{HistoryOf, head_of}
use Rattle.delta_history.specs.Legal.{adds_first}
use Rattle.delta_history.specs.Passing.{all_acts}
use Rattle.delta_history.specs.Points.{Point, start, next_point}
use Rattle.delta_history.specs.Verdicts.{accepted, is_within, same_hash, judge, judge_author, judge_base, judge_hash, judge_ops, judge_pass, judge_bounds, judge_next}
use Rattle.wavelet_container.specs.Decisions.{judged, IsBase, LooksAtOps}

next_looks : (p : Point) (d : DeltaOf) (o : Option Point) → LooksAtOps (judge_next p d o)
next_looks p d None = tt
next_looks p d (Some q) = tt

bounds_look : (p : Point) (d : DeltaOf) (b : Bool) → LooksAtOps (judge_bounds p d b)
bounds_look p d false = tt
bounds_look p d true = next_looks p d (next_point p d)

pass_looks : (s : Submission) (t : ℕ) (p : Point) (o : Option (List Act)) → LooksAtOps (judge_pass s t p o)
pass_looks s t p None = tt
pass_looks s t p (Some acts) = bounds_look p (accepted p s t acts) (is_within p (meanings s.ops) (accepted p s t acts))

ops_look : (s : Submission) (t : ℕ) (p base : Point) (ds : List DeltaOf) (o : Option State) → LooksAtOps (judge_ops s t p base ds o)
ops_look s t p base ds None = tt
ops_look s t p base ds (Some u) = pass_looks s t p (pass (meanings s.ops) (all_acts ds))

pub base_looks : (h : HistoryOf) (s : Submission) (t k : ℕ) → IsBase h s k → LooksAtOps (judged h s t)
base_looks h s t k b = subst LooksAtOps (sym (b.left t)) (ops_look s t (head_of h) b.base (drop k h.deltas) (run b.base.state (meanings s.ops)))

-- ---- the empty history

module _ (name : List ℕ) (s : Submission) where
  pub adds_none : adds_first (meanings s.ops) s.id.author ≡ false → (t : ℕ) → judge name [] s t ≡ (NotParticipant, None)
  adds_none e t = ap (λ b. judge_author name [] s t (start name) (cond b (Some role.Full) None)) e

  version_left : adds_first (meanings s.ops) s.id.author ≡ true → (t : ℕ) → judge name [] s t ≡ judge_base s t (start name) (cond (0 == s.at.version) (Some (start name, [])) None)
  version_left e t = ap (λ b. judge_author name [] s t (start name) (cond b (Some role.Full) None)) e

  pub elsewhere : adds_first (meanings s.ops) s.id.author ≡ true → 0 == s.at.version ≡ false → (t : ℕ) → judge name [] s t ≡ (UnknownVersion (start name).at, None)
  elsewhere e v t = version_left e t ∙ ap (λ b. judge_base s t (start name) (cond b (Some (start name, [])) None)) v

  pub at_zero : adds_first (meanings s.ops) s.id.author ≡ true → 0 == s.at.version ≡ true → (t : ℕ) → judge name [] s t ≡ judge_hash s t (start name) (start name) [] (same_hash s.at.hash (zero_hash_of name))
  at_zero e v t = version_left e t ∙ ap (λ b. judge_base s t (start name) (cond b (Some (start name, [])) None)) v

  pub another : adds_first (meanings s.ops) s.id.author ≡ true → 0 == s.at.version ≡ true → same_hash s.at.hash (zero_hash_of name) ≡ false → (t : ℕ) → judge name [] s t ≡ (WrongHash (zero_hash_of name), None)
  another e v h t = at_zero e v t ∙ ap (judge_hash s t (start name) (start name) []) h

  pub same : adds_first (meanings s.ops) s.id.author ≡ true → 0 == s.at.version ≡ true → same_hash s.at.hash (zero_hash_of name) ≡ true → (t : ℕ) → LooksAtOps (judge name [] s t)
  same e v h t = subst LooksAtOps (sym (at_zero e v t ∙ ap (judge_hash s t (start name) (start name) []) h)) (ops_look s t (start name) (start name) [] (run (start name).state (meanings s.ops)))
