-- What a submission is answered, and how its history grows.
--     told               the verdict before the submission becomes a delta
--     acknowledged       the delta is after the others
--     turned_down        it can't be next
--     near_moved         in the same state of a history, but for the room
use Rattle.std.proofs.Common.{◌≡◌, ℕ, [], ◌∷◌, ◌++◌, Some, None, refl, sym, ap, subst, ◌∙◌, unwrap_or}
use Rattle.wave_base.specs.Versions.{VersionAt}
use Rattle.wavelet_op.specs.Deltas.{DeltaOf}
use Rattle.wavelet_op.specs.declared.delta.Submission.{Submission}
use Rattle.wavelet_op.specs.declared.verdict.Verdict.{Verdict}
use Rattle.wavelet_op.specs.declared.verdict.Verdict.TheVariants.{Ack}
use Rattle.delta_history.specs.Histories.{HistoryOf, head_of, IsSameHistory, IsGrown}
use Rattle.delta_history.specs.Legal.{IsNext, IsLegal}
use Rattle.delta_history.specs.Points.{start, end_of}
use Rattle.delta_history.specs.Verdicts.{Judged}
use Rattle.delta_history.proofs.Chains.{legal_after}
use Rattle.delta_history.proofs.Points.{replay_more}
use Rattle.wavelet_container.specs.Decisions.{judged, IsBase, IsNear, IsRefusal}
use Rattle.wavelet_container.specs.Stores.{IsGrownBy, IsAnswered}
use Rattle.wavelet_container.proofs.Judging.{near_accepted, near_refused}

answered_by : (g h : HistoryOf) (s : Submission) (t : ℕ) (v : Verdict) (j : Judged) → judged g s t ≡ j → v ≡ j.0 → IsGrownBy g j.1 h → IsAnswered g h s t v
answered_by g h s t v j e is grown = record { verdict = is ∙ ap (λ (z : Judged). z.0) (sym e); grown = subst (λ (z : Judged). IsGrownBy g z.1 h) (sym e) grown }

pub same_here : (g : HistoryOf) → IsSameHistory g g
same_here g = record { name = refl; deltas = refl }

pub told : (g h : HistoryOf) (s : Submission) (t : ℕ) (v : Verdict) → judged g s t ≡ (v, None) → IsSameHistory g h → IsAnswered g h s t v
told g h s t v e same = answered_by g h s t v (v, None) e refl same

pub next_of : (g h : HistoryOf) (d : DeltaOf) → IsGrown g d h → IsLegal h.name h.deltas → IsNext g.name g.deltas d
next_of g h d grown legal =
    let l : IsLegal g.name (g.deltas ++ d ∷ []) = subst (λ n. IsLegal n (g.deltas ++ d ∷ [])) grown.name (subst (λ ds. IsLegal h.name ds) grown.deltas legal) in
    (legal_after g.name [] g.deltas (d ∷ []) l).0

head_after : (g h : HistoryOf) (d : DeltaOf) → IsGrown g d h → (n : IsNext g.name g.deltas d) → head_of h ≡ n.after
head_after g h d grown n =
    (λ i. end_of (grown.name i) (grown.deltas i)) ∙ ap (λ o. unwrap_or o (start g.name)) (replay_more (start g.name) n.here n.after g.deltas d n.is_head n.goes)

pub acknowledged : (g h : HistoryOf) (s : Submission) (t k at : ℕ) (d : DeltaOf) (v : Verdict) → IsNear g s t k d → IsGrown g d h → IsLegal h.name h.deltas → at ≡ d.from.version → v ≡ Ack at (head_of h).at → IsAnswered g h s t v
acknowledged g h s t k at d v n grown legal from is =
    let next = next_of g h d grown legal in
    let head = head_after g h d grown next in
    let version : at ≡ (head_of g).at.version = from ∙ ap (λ (z : VersionAt). z.version) n.submitted.from in
    answered_by g h s t v (Ack (head_of g).at.version next.after.at, Some d) (near_accepted g s t k d n next) (is ∙ (λ i. Ack (version i) (head i).at)) grown

pub accepted_is : (g : HistoryOf) (s : Submission) (t k : ℕ) (d : DeltaOf) → IsNear g s t k d → IsNext g.name g.deltas d → (judged g s t).1 ≡ Some d
accepted_is g s t k d n next = ap (λ (j : Judged). j.1) (near_accepted g s t k d n next)

-- ---- the same history with other room

alike : (g h : HistoryOf) (s : Submission) (k : ℕ) → IsBase g s k → IsBase (record { name = g.name; deltas = g.deltas; spare = h.spare }) s k
alike g h s k b = record { inside = b.inside; base = b.base; leads = b.leads; made = b.made; new = b.new; author = b.author; left = b.left }

path : (g h : HistoryOf) → IsSameHistory g h → record { name = g.name; deltas = g.deltas; spare = h.spare } ≡ h
path g h same = λ i. record { name = sym same.name i; deltas = sym same.deltas i; spare = h.spare }

pub base_moved : (g h : HistoryOf) (s : Submission) (k : ℕ) → IsSameHistory g h → IsBase g s k → IsBase h s k
base_moved g h s k same b = subst (λ z. IsBase z s k) (path g h same) (alike g h s k b)

pub refusal_moved : (g h : HistoryOf) (s : Submission) (k : ℕ) (v : Verdict) → IsSameHistory g h → IsRefusal h s k v → IsRefusal g s k v
refusal_moved g h s k v same r = subst (λ z. IsRefusal z s k v) (sym (path g h same)) r

pub turned_down : (g h i : HistoryOf) (s : Submission) (t k : ℕ) (d : DeltaOf) (v : Verdict) → IsNear g s t k d → (IsLegal g.name (g.deltas ++ d ∷ []) → ⊥) → IsSameHistory g h → IsRefusal h s k v → i ≡ h → IsAnswered g i s t v
turned_down g h i s t k d v n never same r e = told g i s t v (near_refused g s t k d v n never (refusal_moved g h s k v same r)) (subst (IsSameHistory g) (sym e) same)
