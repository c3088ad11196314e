-- Copies by name, as they are in the world, with the verdicts that they keep.
--     WorldOf                 one copy: the replica in the world, and the verdicts that were noted
--     world_of c              a copy that is kept, so
--     empty_world             one that is new
--     Worlds, Copies          the copies by name, so and as they are kept
--     AreNamed m              each copy is of its name
--     worlds_of m             copies that are kept, as they are in the world
--     world_at cs n           the copy of a name; an empty one where there is none
--     history_at n r          the history of a copy
--     absorbed_by n r d       the answer of a copy to a delta
--     with_taken, with_queued, with_settled, with_dropped     the copies after a delta, a submission, the host's verdict on one, and a drop
--     waits_at cs n i         a submission of the id waits at the copy of the name
--     kept_at cs n i          what the history of the copy of the name keeps for the id
--     outcome_at cs n i       its outcome there: the acknowledgement of its delta, else the verdict that was noted
--     has_more cs n           there is a copy of the name that isn't dropped
--     answer_at, queued_at    what is answered for a delta and a submission
--     take_in, queue_in, answer_in, drop_in     the copies after a delta, a submission, a verdict and a drop
use Rattle.std.specs.Prelude.{◌≡◌, Bool, true, false, not, IfSome, Option, Some, None, List, [], unwrap_or}
use Rattle.std.specs.FinMap.{get, insert}
use Rattle.std.specs.Option.{option_map_or}
use Rattle.doc_items.specs.Maps.{Key, Map, each}
use Rattle.wave_base.specs.Versions.{IdOf}
use Rattle.wavelet_op.specs.Deltas.{DeltaOf}
use Rattle.wavelet_op.specs.declared.delta.Submission.{Submission}
use Rattle.wavelet_op.specs.declared.verdict.Verdict.{Verdict}
use Rattle.delta_history.specs.declared.kept.Kept.{Kept}
use Rattle.delta_history.specs.Histories.{HistoryOf}
use Rattle.delta_history.specs.Points.{start}
use Rattle.delta_history.specs.Verdicts.{kept}
use Rattle.follower_rules.specs.Receiving.{receive}
use Rattle.follower_rules.specs.Replicas.{ReplicaOf, empty_replica, grown, absorb, is_waiting, queue, settle}
use Rattle.peer_turns.specs.declared.absorbed.Absorbed.{Absorbed}
use Rattle.peer_turns.specs.declared.absorbed.Absorbed.TheVariants.{Old, Gap, Diverged, NotLegal, Took}
use Rattle.replica_store.specs.Absorbing.{onlooker, answer_as}
use Rattle.replica_store.specs.Copies.{CopyOf, in_world}
use Rattle.replica_store.specs.Settling.{unnoted, with_noted, outcome_kept}
use Rattle.replica_store.specs.declared.outcomes.Noted.{Noted}
use Rattle.replica_store.specs.declared.queued.Queued.{Queued}
use Rattle.replica_store.specs.declared.queued.Queued.TheVariants as queued

pub record WorldOf : Type 0 where
  pub replica : ReplicaOf
  pub noted : List Noted

abbrev pub world : ReplicaOf → List Noted → WorldOf
world replica noted = record { replica = replica; noted = noted }

abbrev pub world_of : CopyOf → WorldOf
world_of c = world (in_world c) c.noted

abbrev pub empty_world : WorldOf
empty_world = world empty_replica []

abbrev pub Copies : Type 0
Copies = Map CopyOf

abbrev pub Worlds : Type 0
Worlds = Map WorldOf

abbrev pub AreNamed : Copies → Type 0
AreNamed m = (n : Key) → IfSome (get m n) (λ c. c.history.name ≡ n)

abbrev pub worlds_of : Copies → Worlds
worlds_of m = each world_of m

abbrev pub world_at : Worlds → Key → WorldOf
world_at cs n = unwrap_or (get cs n) empty_world

-- ---- deltas

abbrev pub history_at : Key → ReplicaOf → HistoryOf
history_at n r = record { name = n; deltas = r.deltas; spare = 0 }

abbrev pub absorbed_by : Key → ReplicaOf → DeltaOf → Absorbed
absorbed_by n r d = answer_as (receive (onlooker (history_at n r)) d).0 (absorb n r d)

abbrev pub world_taken : WorldOf → DeltaOf → WorldOf
world_taken w d = world (grown w.replica d) (unnoted d.id w.noted)

abbrev pub with_taken : Worlds → Key → DeltaOf → Worlds
with_taken cs n d = insert cs n (world_taken (world_at cs n) d)

abbrev pub taken_by : Worlds → Key → DeltaOf → Absorbed → Worlds
taken_by cs n d Old = cs
taken_by cs n d Gap = cs
taken_by cs n d (Diverged mine theirs) = cs
taken_by cs n d NotLegal = cs
taken_by cs n d Took = with_taken cs n d

abbrev pub answer_at : Worlds → Key → DeltaOf → Absorbed
answer_at cs n d = absorbed_by n (world_at cs n).replica d

abbrev pub take_in : Worlds → Key → DeltaOf → Worlds
take_in cs n d = taken_by cs n d (answer_at cs n d)

-- ---- submissions

abbrev pub kept_at : Worlds → Key → IdOf → Option Kept
kept_at cs n i = kept i (start n) (world_at cs n).replica.deltas

abbrev pub outcome_at : Worlds → Key → IdOf → Option Verdict
outcome_at cs n i = outcome_kept i (world_at cs n).noted (kept_at cs n i)

abbrev pub world_queued : WorldOf → Submission → WorldOf
world_queued w s = world (queue w.replica s) (unnoted s.id w.noted)

abbrev pub with_queued : Worlds → Key → Submission → Worlds
with_queued cs n s = insert cs n (world_queued (world_at cs n) s)

abbrev pub queued_by : Option Kept → Queued
queued_by (Some k) = queued.Kept k
queued_by None = queued.Waiting

abbrev pub queued_if : Worlds → Key → Submission → Option Kept → Worlds
queued_if cs n s (Some k) = cs
queued_if cs n s None = with_queued cs n s

abbrev pub queued_at : Worlds → Key → Submission → Queued
queued_at cs n s = queued_by (kept_at cs n s.id)

abbrev pub queue_in : Worlds → Key → Submission → Worlds
queue_in cs n s = queued_if cs n s (kept_at cs n s.id)

-- ---- verdicts

abbrev pub world_settled : WorldOf → IdOf → Verdict → WorldOf
world_settled w i v = world (settle w.replica i) (with_noted w.noted i v)

abbrev pub with_settled : Worlds → Key → IdOf → Verdict → Worlds
with_settled cs n i v = insert cs n (world_settled (world_at cs n) i v)

abbrev pub waits_at : Worlds → Key → IdOf → Bool
waits_at cs n i = is_waiting i (world_at cs n).replica.waiting

abbrev pub settled_if : Worlds → Key → IdOf → Verdict → Bool → Worlds
settled_if cs n i v true = with_settled cs n i v
settled_if cs n i v false = cs

abbrev pub answer_in : Worlds → Key → IdOf → Verdict → Worlds
answer_in cs n i v = settled_if cs n i v (waits_at cs n i)

-- ---- drops

abbrev pub dropped : WorldOf → WorldOf
dropped w = record w { replica = record w.replica { dropped = true } }

abbrev pub with_dropped : Worlds → Key → Worlds
with_dropped cs n = insert cs n (dropped (world_at cs n))

abbrev pub has_more : Worlds → Key → Bool
has_more cs n = option_map_or (λ (w : WorldOf). not w.replica.dropped) (get cs n) false

abbrev pub dropped_if : Worlds → Key → Bool → Worlds
dropped_if cs n true = with_dropped cs n
dropped_if cs n false = cs

abbrev pub drop_in : Worlds → Key → Worlds
drop_in cs n = dropped_if cs n (has_more cs n)
