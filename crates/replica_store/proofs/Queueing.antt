-- What copies by name make of submissions.
--     queued_is           the answer of a copy to a submission, and the copy then
--     each_name, each_answer, each_after, each_same     at a copy that is there, as a call answers: it keeps its name; the answer; the copies then, and
--                         after want of memory
--     first_answer, first_after     at a new one
use Rattle.std.proofs.Common.{◌≡◌, refl, sym, ap, ◌∙◌, Option, None, Some, Result, Ok, Err, IfOk, OnOk, OnErr}
use Rattle.std.specs.FinMap.{get, insert}
use Rattle.doc_items.specs.Maps.{Key}
use Rattle.wavelet_op.specs.declared.delta.Submission.{Submission}
use Rattle.delta_history.specs.declared.kept.Kept.{Kept}
use Rattle.delta_history.specs.Points.{start}
use Rattle.delta_history.specs.Verdicts.{kept}
use Rattle.follower_rules.specs.Replicas.{queue}
use Rattle.replica_store.specs.Copies.{CopyOf, in_world}
use Rattle.replica_store.specs.declared.queued.Queued.{Queued}
use Rattle.replica_store.specs.Settling.{unnoted, kept_by, queue_kept, queue_in as queued_copy}
use Rattle.replica_store.specs.Worlds.{WorldOf, world, world_of, empty_world, world_queued, Copies, worlds_of, world_at, kept_at, queued_by, queued_if, queued_at, queue_in}
use Rattle.replica_store.proofs.Absorbing.{first_is, second_is}
use Rattle.replica_store.proofs.Stored.{worlds-insert, put_itself, world_got, world_there, world_none}

-- the copy in the world after a submission, of which the history keeps so much
abbrev world_if : WorldOf → Submission → Option Kept → WorldOf
world_if w s (Some k) = w
world_if w s None = world_queued w s

queued_is : (b c : CopyOf) (s : Submission) (q : Queued) → (q, c) ≡ queued_copy b s → in_world c ≡ queue (in_world b) s
    → (q ≡ queued_by (kept_by b s.id)) × (world_of c ≡ world_if (world_of b) s (kept_by b s.id)) × (c.history.name ≡ b.history.name)
queued_is b c s q is lined = go (kept_by b s.id) is
  where
    go : (o : Option Kept) → (q, c) ≡ queue_kept b s o → (q ≡ queued_by o) × (world_of c ≡ world_if (world_of b) s o) × (c.history.name ≡ b.history.name)
    go (Some k) e = (first_is e, ap world_of (second_is e), ap (λ (x : CopyOf). x.history.name) (second_is e))
    go None e = (first_is e, (λ i. world (lined i) ((second_is e i).noted)), ap (λ (x : CopyOf). x.history.name) (second_is e))

module _ (m : Copies) (n : Key) (s : Submission) where
  module _ (b : CopyOf) (named : b.history.name ≡ n) (is : world_of b ≡ world_at (worlds_of m) n) where
    kept_is : kept_by b s.id ≡ kept_at (worlds_of m) n s.id
    kept_is i = kept s.id (start (named i)) (is i).replica.deltas

  module _ (b c : CopyOf) (there : get m n ≡ Some b) (named : b.history.name ≡ n) where
    put_if : (o : Option Kept) → insert (worlds_of m) n (world_if (world_of b) s o) ≡ queued_if (worlds_of m) n s o
    put_if (Some k) = put_itself (worlds_of m) n (world_of b) (world_got m n b there)
    put_if None = ap (λ w. insert (worlds_of m) n (world_queued w s)) (sym (world_there m n b there))

    own : kept_by b s.id ≡ kept_at (worlds_of m) n s.id
    own = kept_is b named (sym (world_there m n b there))

    module _ {E : Type 0} (r : Result Queued E) (ok : IfOk r (λ q. (q, c) ≡ queued_copy b s)) (lined : OnOk r (in_world c ≡ queue (in_world b) s)) (same : OnErr r (c ≡ b)) where
      pub each_name : c.history.name ≡ n
      each_name = go r ok lined same
        where
          go : (r : Result Queued E) → IfOk r (λ q. (q, c) ≡ queued_copy b s) → OnOk r (in_world c ≡ queue (in_world b) s) → OnErr r (c ≡ b) → c.history.name ≡ n
          go (Ok q) is world_is unchanged = (queued_is b c s q is world_is).2 ∙ named
          go (Err e) is world_is unchanged = ap (λ (x : CopyOf). x.history.name) unchanged ∙ named

      pub each_answer : IfOk r (λ q. q ≡ queued_at (worlds_of m) n s)
      each_answer = go r ok lined
        where
          go : (r : Result Queued E) → IfOk r (λ q. (q, c) ≡ queued_copy b s) → OnOk r (in_world c ≡ queue (in_world b) s) → IfOk r (λ q. q ≡ queued_at (worlds_of m) n s)
          go (Ok q) is world_is = (queued_is b c s q is world_is).0 ∙ ap queued_by own
          go (Err e) is world_is = tt

      pub each_after : OnOk r (worlds_of (insert m n c) ≡ queue_in (worlds_of m) n s)
      each_after = go r ok lined
        where
          go : (r : Result Queued E) → IfOk r (λ q. (q, c) ≡ queued_copy b s) → OnOk r (in_world c ≡ queue (in_world b) s) → OnOk r (worlds_of (insert m n c) ≡ queue_in (worlds_of m) n s)
          go (Ok q) is world_is =
              worlds-insert m n c ∙ ap (insert (worlds_of m) n) (queued_is b c s q is world_is).1 ∙ put_if (kept_by b s.id) ∙ ap (queued_if (worlds_of m) n s) own
          go (Err e) is world_is = tt

      pub each_same : OnErr r (worlds_of (insert m n c) ≡ worlds_of m)
      each_same = go r same
        where
          go : (r : Result Queued E) → OnErr r (c ≡ b) → OnErr r (worlds_of (insert m n c) ≡ worlds_of m)
          go (Ok q) unchanged = tt
          go (Err e) unchanged = worlds-insert m n c ∙ ap (λ x. insert (worlds_of m) n (world_of x)) unchanged ∙ put_itself (worlds_of m) n (world_of b) (world_got m n b there)

  -- a new copy
  module _ (b c : CopyOf) (none : get m n ≡ None) (named : b.history.name ≡ n) (empty : world_of b ≡ empty_world) where
    new_world : world_of b ≡ world_at (worlds_of m) n
    new_world = empty ∙ sym (world_none m n none)

    nothing : kept_at (worlds_of m) n s.id ≡ None
    nothing = ap (λ (w : WorldOf). kept s.id (start n) w.replica.deltas) (world_none m n none)

    module _ (q : Queued) (ok : (q, c) ≡ queued_copy b s) (lined : in_world c ≡ queue (in_world b) s) where
      pub first_answer : q ≡ queued_at (worlds_of m) n s
      first_answer = (queued_is b c s q ok lined).0 ∙ ap queued_by (kept_is b named new_world)

      pub first_name : c.history.name ≡ n
      first_name = (queued_is b c s q ok lined).2 ∙ named

      pub first_after : worlds_of (insert m n c) ≡ queue_in (worlds_of m) n s
      first_after =
          worlds-insert m n c
          ∙ ap (insert (worlds_of m) n) ((queued_is b c s q ok lined).1 ∙ ap (world_if (world_of b) s) (kept_is b named new_world ∙ nothing) ∙ ap (λ w. world_queued w s) new_world)
          ∙ ap (queued_if (worlds_of m) n s) (sym nothing)
