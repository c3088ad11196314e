-- The answers to submissions.
--     judged_noted, judged_fault     at the host: by the verdict, and where the store failed
--     judged_kept                    at a copy: its history has the id
--     judged_waiting                 a submission of the id waits there
--     judged_queued                  it waits from now on
--     judged_elsewhere               where there is neither
use Rattle.std.proofs.Common.{◌≡◌, inl, inr, ℕ, Bool, true, false, List, [], ◌∷◌, ◌++◌, length, Option, Some, None, refl, sym, ap, subst, ◌∙◌, arith, append-nil, length-append}
use Rattle.doc_items.specs.Maps.{Key}
use Rattle.wave_base.specs.Grammar.{host_of}
use Rattle.wavelet_op.specs.Deltas.{DeltaOf}
use Rattle.wavelet_op.specs.declared.delta.Submission.{Submission}
use Rattle.wavelet_op.specs.declared.verdict.Verdict.{Verdict}
use Rattle.wavelet_op.specs.declared.verdict.Verdict.TheVariants.{Ack}
use Rattle.delta_history.specs.declared.kept.Kept.{Kept}
use Rattle.delta_history.specs.Legal.{has_id}
use Rattle.delta_history.specs.Verdicts.{Judged}
use Rattle.session_core.specs.declared.request.SubmitAnswer.{SubmitAnswer}
use Rattle.session_core.specs.declared.request.SubmitAnswer.TheVariants as answer
use Rattle.wavelet_shelf.specs.FileNames.{shard_of}
use Rattle.wavelet_shelf.specs.Hosting.{Hosted, judged_in}
use Rattle.hosted_copies.specs.Domains.{is_hosted_by, hosted_by}
use Rattle.hosted_copies.proofs.Hosts.{own_judged}
use Rattle.replica_store.specs.Worlds.{Worlds, world_at, kept_at, waits_at, with_queued}
use Rattle.shard_marks.specs.declared.mark.Mark.{Mark}
use Rattle.shard_marks.specs.declared.mark.Mark.TheVariants.{Applied, Fault, Queued}
use Rattle.shard_marks.specs.Answers.{IsHostAnswer, IsCopyAnswer, IsNoHost, IsAnswerWhere, IsAnswer, IsJudged}
use Rattle.shard_marks.specs.Marks.{replayed, copied}
use Rattle.shard_marks.specs.Servers.{ServerOf, is_peer}
use Rattle.shard_marks.proofs.Copying.{is_copy, copied_queued, waits_queued}
use Rattle.shard_marks.proofs.Replaying.{noted}

module _ (v : ServerOf) (k : ℕ) (ns : List Mark) (n : Key) (s : Submission) (t : ℕ) where
  abbrev WhereAnswer : Bool → Bool → SubmitAnswer → ℕ → Type 0
  WhereAnswer own peer a g = IsAnswerWhere v.domain k ns n s t own peer a g

  by_host : (a : SubmitAnswer) (g : ℕ) → is_hosted_by v.domain n ≡ true → IsHostAnswer v.domain k ns n s t a g → IsAnswer v k ns n s t a g
  by_host a g own x = subst (λ b. WhereAnswer b (is_peer v (host_of n)) a g) (sym own) x

  by_copy : (a : SubmitAnswer) (g : ℕ) → is_hosted_by v.domain n ≡ false → is_peer v (host_of n) ≡ true → IsCopyAnswer v.domain k ns n s t a g → IsAnswer v k ns n s t a g
  by_copy a g other peer x = subst (λ (z : Bool × Bool). WhereAnswer z.0 z.1 a g) (λ i. (sym other i, sym peer i)) x

  by_none : (a : SubmitAnswer) (g : ℕ) → is_hosted_by v.domain n ≡ false → is_peer v (host_of n) ≡ false → IsNoHost v.domain k ns n s t a g → IsAnswer v k ns n s t a g
  by_none a g other stranger x = subst (λ (z : Bool × Bool). WhereAnswer z.0 z.1 a g) (λ i. (sym other i, sym stranger i)) x

module _ (v : ServerOf) (k : ℕ) (ms ns : List Mark) (n : Key) (s : Submission) (t : ℕ) where
  -- ---- at the host

  pub judged_noted : (hs : List Hosted) (w : Verdict) → hosted_by v.domain hs ≡ replayed v.domain k ms → is_hosted_by v.domain n ≡ true → ns ≡ ms ++ noted n (judged_in hs n s t).1
      → w ≡ (judged_in hs n s t).0 → IsJudged v k ms ns n s t (answer.Verdict w)
  judged_noted hs w is own e f = go (judged_in hs n s t).1 refl
    where
      same : judged_in (replayed v.domain k ms) n s t ≡ judged_in hs n s t
      same = ap (λ gs. judged_in gs n s t) (sym is) ∙ own_judged v.domain hs n s t own

      go : (o : Option DeltaOf) → (judged_in hs n s t).1 ≡ o → IsJudged v k ms ns n s t (answer.Verdict w)
      go None g =
          let stays : ns ≡ ms = e ∙ ap (λ o. ms ++ noted n o) g ∙ append-nil ms in
          let now : judged_in (replayed v.domain k ns) n s t ≡ judged_in hs n s t = ap (λ l. judged_in (replayed v.domain k l) n s t) stays ∙ same in
          let even : length ns ≡ length ms = ap length stays in
          record {
            gained = 0;
            longer = omega (arith, even);
            answer = by_host v k ns n s t (answer.Verdict w) 0 own (inl (record { verdict = f ∙ sym (ap (λ (j : Judged). j.0) now); nothing = ap (λ (j : Judged). j.1) now ∙ g }, refl));
          }
      go (Some x) g =
          let last : ns ≡ ms ++ Applied n x ∷ [] = e ∙ ap (λ o. ms ++ noted n o) g in
          record {
            gained = 1;
            longer = ap length last ∙ length-append ms (Applied n x ∷ []);
            answer = by_host v k ns n s t (answer.Verdict w) 1 own (inr (record { before = ms; delta = x; last = last; verdict = f ∙ sym (ap (λ (j : Judged). j.0) same); grown = ap (λ (j : Judged). j.1) same ∙ g }, refl));
          }

  pub judged_fault : is_hosted_by v.domain n ≡ true → ns ≡ ms ++ Fault n s.id ∷ [] → IsJudged v k ms ns n s t answer.Store
  judged_fault own e = record { gained = 1; longer = ap length e ∙ length-append ms (Fault n s.id ∷ []); answer = by_host v k ns n s t answer.Store 1 own (record { before = ms; last = e }, refl) }

  -- ---- at a copy

  pub judged_queued : (cs : Worlds) → is_hosted_by v.domain n ≡ false → is_peer v (host_of n) ≡ true → shard_of n ≡ k → cs ≡ copied v.domain k ms → ns ≡ ms ++ Queued n s ∷ []
      → kept_at cs n s.id ≡ None → has_id s.id (world_at cs n).replica.deltas ≡ false → waits_at cs n s.id ≡ false → IsJudged v k ms ns n s t answer.Queued
  judged_queued cs other peer shard is e unkept new unwaited =
      let now : with_queued cs n s ≡ copied v.domain k ns = copied_queued v.domain k ms ns n s (is_copy v.domain k n other shard) e cs (with_queued cs n s) is refl in
      let waits : waits_at (copied v.domain k ns) n s.id ≡ true = ap (λ z. waits_at z n s.id) (sym now) ∙ waits_queued cs n s new in
      record {
        gained = 1;
        longer = ap length e ∙ length-append ms (Queued n s ∷ []);
        answer = by_copy v k ns n s t answer.Queued 1 other peer
            (waits, inr (record { before = ms; last = e; unkept = ap (λ z. kept_at z n s.id) (sym is) ∙ unkept; unwaited = ap (λ z. waits_at z n s.id) (sym is) ∙ unwaited }, refl));
      }

module _ (v : ServerOf) (k : ℕ) (ms : List Mark) (n : Key) (s : Submission) (t : ℕ) (other : is_hosted_by v.domain n ≡ false) where
  pub judged_kept : (cs : Worlds) (x : Kept) → is_peer v (host_of n) ≡ true → cs ≡ copied v.domain k ms → kept_at cs n s.id ≡ Some x → IsJudged v k ms ms n s t (answer.Verdict (Ack x.at x.to))
  judged_kept cs x peer is there = record {
    gained = 0;
    longer = omega arith;
    answer = by_copy v k ms n s t (answer.Verdict (Ack x.at x.to)) 0 other peer (record { kept = x; there = ap (λ z. kept_at z n s.id) (sym is) ∙ there; verdict = refl }, refl);
  }

  pub judged_waiting : (cs : Worlds) → is_peer v (host_of n) ≡ true → cs ≡ copied v.domain k ms → waits_at cs n s.id ≡ true → IsJudged v k ms ms n s t answer.Queued
  judged_waiting cs peer is waits = record {
    gained = 0;
    longer = omega arith;
    answer = by_copy v k ms n s t answer.Queued 0 other peer (ap (λ z. waits_at z n s.id) (sym is) ∙ waits, inl refl);
  }

  -- ---- elsewhere

  pub judged_elsewhere : is_peer v (host_of n) ≡ false → IsJudged v k ms ms n s t answer.NoHost
  judged_elsewhere stranger = record { gained = 0; longer = omega arith; answer = by_none v k ms n s t answer.NoHost 0 other stranger refl }
