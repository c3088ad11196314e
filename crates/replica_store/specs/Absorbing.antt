-- What a copy makes of a delta of its host's history.
--     Absorbed                as it is declared
--     onlooker h              a follower at the head of the history, with nothing pending
--     absorbed c d            the answer to a delta. It is that of the onlooker, unless the delta starts at the head: then it is taken
--                             exactly where the copy in the world absorbs it
--     IsTaken b d c           the copy after it took the delta: the history ends with it, its id waits no more, nothing is noted for
--                             the id, and the copy isn't dropped; in the world the copy absorbed it
--     IsAfter b d a c         the copy after the answer: only `Took` changes it
use Rattle.std.specs.Prelude.{◌≡◌, false, [], Option, Some, None}
use Rattle.wavelet_op.specs.Deltas.{DeltaOf}
use Rattle.delta_history.specs.Histories.{HistoryOf, head_of, IsGrown}
use Rattle.follower_rules.specs.declared.received.Received.{Received}
use Rattle.follower_rules.specs.declared.received.Received.TheVariants as received
use Rattle.follower_rules.specs.Followers.{FollowerOf}
use Rattle.follower_rules.specs.Receiving.{receive}
use Rattle.follower_rules.specs.Replicas.{ReplicaOf, without, absorb}
use Rattle.peer_turns.specs.declared.absorbed.Absorbed.{Absorbed}
use Rattle.peer_turns.specs.declared.absorbed.Absorbed.TheVariants.{Old, Gap, Diverged, NotLegal, Took}
use Rattle.replica_store.specs.Copies.{CopyOf, in_world, IsSameCopy}
use Rattle.replica_store.specs.Settling.{unnoted}

-- ---- the answer

abbrev pub onlooker : HistoryOf → FollowerOf
onlooker h = record { name = h.name; client = record { author = []; client = 0 }; here = head_of h; flight = None; queue = []; next = 1 }

abbrev pub taken_if : Option ReplicaOf → Absorbed
taken_if None = NotLegal
taken_if (Some r) = Took

abbrev pub answer_as : Received → Option ReplicaOf → Absorbed
answer_as received.Old r = Old
answer_as received.Gap r = Gap
answer_as (received.Diverged mine theirs) r = Diverged mine theirs
answer_as (received.OtherFlight mine theirs) r = taken_if r
answer_as (received.NotNext index) r = taken_if r
answer_as received.Advanced r = taken_if r

abbrev pub absorbed : CopyOf → DeltaOf → Absorbed
absorbed c d = answer_as (receive (onlooker c.history) d).0 (absorb c.history.name (in_world c) d)

-- ---- the copy after it

pub record IsTaken (b : CopyOf) (d : DeltaOf) (c : CopyOf) : Type 0 where
  pub grown : IsGrown b.history d c.history
  pub waiting : c.waiting ≡ without d.id b.waiting
  pub noted : c.noted ≡ unnoted d.id b.noted
  pub dropped : c.dropped ≡ false
  pub world : absorb b.history.name (in_world b) d ≡ Some (in_world c)

abbrev pub IsAfter : CopyOf → DeltaOf → Absorbed → CopyOf → Type 0
IsAfter b d Old c = IsSameCopy b c
IsAfter b d Gap c = IsSameCopy b c
IsAfter b d (Diverged mine theirs) c = IsSameCopy b c
IsAfter b d NotLegal c = IsSameCopy b c
IsAfter b d Took c = IsTaken b d c
