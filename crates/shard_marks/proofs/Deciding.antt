-- What came of submissions.
--     outcome_of           after an answer
--     outcome_later        by further marks
--     outcome_since        since an earlier moment
--     outcome_on_later     so since a delta was there
use Rattle.std.proofs.Common.{◌≡◌, inl, inr, ℕ, zero, suc, Bool, true, false, cond, ◌||◌, ◌&&◌, nat_eq, List, [], ◌∷◌, ◌++◌, Contains, Option, Some, None, refl, sym, ap, subst, ◌∙◌, arith, append_assoc, append-nil, true≢false}
use mathlib.Core.List.{IsPrefix}
use Rattle.doc_items.specs.Maps.{Key, same_text}
use Rattle.wave_base.specs.Grammar.{host_of}
use Rattle.wave_base.specs.Versions.{IdOf, same_id}
use Rattle.wavelet_op.specs.Acts.{Act, meanings}
use Rattle.wavelet_op.specs.Deltas.{DeltaOf}
use Rattle.wavelet_op.specs.Grids.{pass}
use Rattle.wavelet_op.specs.States.{State, run}
use Rattle.wavelet_op.specs.declared.delta.Submission.{Submission}
use Rattle.wavelet_op.specs.declared.role.Role.{Role}
use Rattle.wavelet_op.specs.declared.role.Role.TheVariants as role
use Rattle.delta_history.specs.declared.kept.Kept.{Kept}
use Rattle.delta_history.specs.Legal.{has_id, standing}
use Rattle.delta_history.specs.Passing.{all_acts}
use Rattle.delta_history.specs.Points.{Point, start, next_point, replay, cut}
use Rattle.delta_history.specs.Verdicts.{accepted, is_within, same_hash, kept, judge_next, judge_bounds, judge_pass, judge_ops, judge_hash, judge_base, judge_author, judge_head, judge_kept, judge}
use Rattle.wave_base.proofs.Same.{same_id-refl}
use Rattle.session_core.specs.declared.request.SubmitAnswer.{SubmitAnswer}
use Rattle.session_core.specs.declared.request.SubmitAnswer.TheVariants as answer
use Rattle.wavelet_shelf.specs.FileNames.{shard_of}
use Rattle.wavelet_shelf.specs.Hosting.{deltas_in, grown_in}
use Rattle.wavelet_shelf.proofs.Growing.{grows_alone}
use Rattle.shard_marks.specs.declared.mark.Mark.{Mark}
use Rattle.shard_marks.specs.declared.mark.Mark.TheVariants.{Applied, Fault}
use Rattle.shard_marks.specs.Answers.{IsHostAnswer, IsAnswerWhere, IsAnswer}
use Rattle.shard_marks.specs.Marks.{is_of, replayed}
use Rattle.shard_marks.specs.Servers.{ServerOf, is_peer}
use Rattle.shard_marks.specs.Outcomes.{HasOutcome, HasOutcomeOn}
use Rattle.shard_marks.proofs.Following.{ascend_replayed, deltas_follow}
use Rattle.shard_marks.proofs.Replaying.{replayed_more}

no_value : {X T : Type 0} {x : X} → None ≡ Some x → T
no_value e = absurd cc

same_Some : {X : Type 0} {x y : X} → Some x ≡ Some y → x ≡ y
same_Some e = cc

-- ---- a delta that was accepted has the id of its submission

module _ (s : Submission) (t : ℕ) (x : DeltaOf) where
  id_next : (p : Point) (d : DeltaOf) (o : Option Point) → d.id ≡ s.id → (judge_next p d o).1 ≡ Some x → x.id ≡ s.id
  id_next p d None is e = no_value e
  id_next p d (Some q) is e = ap (λ (z : DeltaOf). z.id) (sym (same_Some e)) ∙ is

  id_bounds : (p : Point) (d : DeltaOf) (b : Bool) → d.id ≡ s.id → (judge_bounds p d b).1 ≡ Some x → x.id ≡ s.id
  id_bounds p d false is e = no_value e
  id_bounds p d true is e = id_next p d (next_point p d) is e

  id_pass : (p : Point) (o : Option (List Act)) → (judge_pass s t p o).1 ≡ Some x → x.id ≡ s.id
  id_pass p None e = no_value e
  id_pass p (Some acts) e = id_bounds p (accepted p s t acts) (is_within p (meanings s.ops) (accepted p s t acts)) refl e

  id_ops : (p base : Point) (ds : List DeltaOf) (o : Option State) → (judge_ops s t p base ds o).1 ≡ Some x → x.id ≡ s.id
  id_ops p base ds None e = no_value e
  id_ops p base ds (Some u) e = id_pass p (pass (meanings s.ops) (all_acts ds)) e

  id_hash : (p base : Point) (ds : List DeltaOf) (b : Bool) → (judge_hash s t p base ds b).1 ≡ Some x → x.id ≡ s.id
  id_hash p base ds false e = no_value e
  id_hash p base ds true e = id_ops p base ds (run base.state (meanings s.ops)) e

  id_base : (p : Point) (o : Option (Point × List DeltaOf)) → (judge_base s t p o).1 ≡ Some x → x.id ≡ s.id
  id_base p None e = no_value e
  id_base p (Some c) e = id_hash p c.0 c.1 (same_hash s.at.hash c.0.at.hash) e

  id_author : (name : Key) (ds : List DeltaOf) (p : Point) (o : Option Role) → (judge_author name ds s t p o).1 ≡ Some x → x.id ≡ s.id
  id_author name ds p None e = no_value e
  id_author name ds p (Some role.ReadOnly) e = no_value e
  id_author name ds p (Some role.Full) e = id_base p (cut (start name) s.at.version ds) e

  id_head : (name : Key) (ds : List DeltaOf) (o : Option Point) → (judge_head name ds s t o).1 ≡ Some x → x.id ≡ s.id
  id_head name ds None e = no_value e
  id_head name ds (Some p) e = id_author name ds p (standing ds p s.id.author (meanings s.ops)) e

  id_kept : (name : Key) (ds : List DeltaOf) (o : Option Kept) → (judge_kept name ds s t o).1 ≡ Some x → x.id ≡ s.id
  id_kept name ds (Some k) e = no_value e
  id_kept name ds None e = id_head name ds (replay (start name) ds) e

  judged_id : (name : Key) (ds : List DeltaOf) → (judge name ds s t).1 ≡ Some x → x.id ≡ s.id
  judged_id name ds e = id_kept name ds (kept s.id (start name) ds) e

-- ---- ids that are there

id_more : (i : IdOf) (ds es : List DeltaOf) → has_id i ds ≡ true → has_id i (ds ++ es) ≡ true
id_more i [] es e = absurd (true≢false (sym e))
id_more i (d ∷ ds) es e = go (same_id i d.id) (id_more i ds es) e
  where
    go : (b : Bool) → (has_id i ds ≡ true → has_id i (ds ++ es) ≡ true) → b || has_id i ds ≡ true → b || has_id i (ds ++ es) ≡ true
    go true rest f = refl
    go false rest f = rest f

id_last : (i : IdOf) (ds : List DeltaOf) (d : DeltaOf) → same_id i d.id ≡ true → has_id i (ds ++ d ∷ []) ≡ true
id_last i [] d e = ap (λ b. b || false) e
id_last i (x ∷ ds) d e = go (same_id i x.id) (id_last i ds d e)
  where
    go : (b : Bool) → has_id i (ds ++ d ∷ []) ≡ true → b || has_id i (ds ++ d ∷ []) ≡ true
    go true rest = refl
    go false rest = rest

there_more : {A : Type 0} (xs ys : List A) (x : A) → Contains xs x → Contains (xs ++ ys) x
there_more [] ys x at = let below = at.1 in absurd (omega (arith, below))
there_more (z ∷ xs) ys x (zero, below, e) = (zero, omega arith, e)
there_more (z ∷ xs) ys x (suc i, below, e) = let rest = there_more xs ys x (i, omega (arith, below), e) in let low = rest.1 in (suc rest.0, omega (arith, low), rest.2)

there_last : {A : Type 0} (xs : List A) (x : A) → Contains (xs ++ x ∷ []) x
there_last [] x = (zero, omega arith, refl)
there_last (z ∷ xs) x = let rest = there_last xs x in let low = rest.1 in (suc rest.0, omega (arith, low), rest.2)

prefix_later : {X : Type 0} (xs ys zs : List X) → IsPrefix xs ys → IsPrefix ys zs → IsPrefix xs zs
prefix_later xs ys zs p q = (p.0 ++ q.0, sym (append_assoc xs p.0 q.0) ∙ (ap (λ ws. ws ++ q.0) p.1 ∙ q.1))

first : (a b : Bool) → a && b ≡ true → a ≡ true
first true b e = refl
first false b e = e

module _ (d : Key) (k : ℕ) where
  grown_last : (before : List Mark) (n : Key) (x : DeltaOf) → is_of d k n ≡ true → deltas_in (replayed d k (before ++ Applied n x ∷ [])) n ≡ deltas_in (replayed d k before) n ++ x ∷ []
  grown_last before n x own =
      ap (λ z. deltas_in z n) (replayed_more d k [] before (Applied n x ∷ []) ∙ ap (λ b. cond b (grown_in (replayed d k before) n x) (replayed d k before)) own)
      ∙ grows_alone.there (replayed d k before) n x (ascend_replayed d k before)

  host_outcome : (from ms : List Mark) (n : Key) (s : Submission) (t g : ℕ) (a : SubmitAnswer) → is_of d k n ≡ true → IsPrefix from ms → IsHostAnswer d k ms n s t a g → HasOutcome d k from ms n s
  host_outcome from ms n s t g (answer.Verdict v) own later (inl r) = inr (inl (record { time = t; cut = ms; since = later; begins = ([], append-nil ms); nothing = r.0.nothing }))
  host_outcome from ms n s t g (answer.Verdict v) own later (inr r) =
      let x = r.0.delta in
      let same : x.id ≡ s.id = judged_id s t x n (deltas_in (replayed d k r.0.before) n) r.0.grown in
      inl (subst (λ z. has_id s.id (deltas_in (replayed d k z) n) ≡ true) (sym r.0.last) (ap (has_id s.id) (grown_last r.0.before n x own) ∙ id_last s.id (deltas_in (replayed d k r.0.before) n) x (subst (λ i. same_id i x.id ≡ true) same (same_id-refl x.id))))
  host_outcome from ms n s t g answer.Queued own later a = absurd a
  host_outcome from ms n s t g answer.NoHost own later a = absurd a
  host_outcome from ms n s t g answer.Store own later a = inr (inr (subst (λ z. Contains z (Fault n s.id)) (sym a.0.last) (there_last a.0.before (Fault n s.id))))

  pub outcome_later : (from ms ns : List Mark) (n : Key) (s : Submission) → IsPrefix ms ns → HasOutcome d k from ms n s → HasOutcome d k from ns n s
  outcome_later from ms ns n s later (inl there) = let f = deltas_follow d k n ms ns later in inl (ap (has_id s.id) f.1 ∙ id_more s.id (deltas_in (replayed d k ms) n) f.0 there)
  outcome_later from ms ns n s later (inr (inl down)) = inr (inl (record { time = down.time; cut = down.cut; since = down.since; begins = prefix_later down.cut ms ns down.begins later; nothing = down.nothing }))
  outcome_later from ms ns n s later (inr (inr mark)) = inr (inr (subst (λ z. Contains z (Fault n s.id)) later.1 (there_more ms later.0 (Fault n s.id) mark)))

  pub outcome_since : (from since ms : List Mark) (n : Key) (s : Submission) → IsPrefix from since → HasOutcome d k since ms n s → HasOutcome d k from ms n s
  outcome_since from since ms n s before (inl there) = inl there
  outcome_since from since ms n s before (inr (inl down)) = inr (inl (record { time = down.time; cut = down.cut; since = prefix_later from since down.cut before down.since; begins = down.begins; nothing = down.nothing }))
  outcome_since from since ms n s before (inr (inr mark)) = inr (inr mark)

  pub outcome_on_later : (ms ns : List Mark) (n : Key) (x : DeltaOf) (s : Submission) → IsPrefix ms ns → HasOutcomeOn d k ms n x s → HasOutcomeOn d k ns n x s
  outcome_on_later ms ns n x s later o = record { from = o.from; there = o.there; outcome = outcome_later o.from ms ns n s later o.outcome }

pub outcome_of : (v : ServerOf) (k : ℕ) (from ms : List Mark) (n : Key) (s : Submission) (t g : ℕ) (a : SubmitAnswer) → is_of v.domain k n ≡ true → IsPrefix from ms → IsAnswer v k ms n s t a g → HasOutcome v.domain k from ms n s
outcome_of v k from ms n s t g a own later is =
    let hosted : same_text (host_of n) v.domain ≡ true = first (same_text (host_of n) v.domain) (nat_eq (shard_of n) k) own in
    host_outcome v.domain k from ms n s t g a own later (subst (λ b. IsAnswerWhere v.domain k ms n s t b (is_peer v (host_of n)) a g) hosted is)
