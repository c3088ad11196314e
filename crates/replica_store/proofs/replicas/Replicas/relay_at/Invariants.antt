use Rattle.peer_turns.specs.declared.item.Relay.{Relay}
use Rattle.replica_store.specs.declared.sought.Sought.{Sought}
use Rattle.replica_store.specs.Listings.{IsSought, relays_among}
use Rattle.replica_store.proofs.Stored.{world_entries}
use Rattle.replica_store.proofs.replicas.Replicas.relay_at.Given as goal

-- what is sought among the copies that are left is sought among all
abbrev pub invariant-loop-name : goal.invariant-loop-name
invariant-loop-name l = (s : Sought Relay) → IsSought (relays_among l.domain (world_entries l.name-iterator)) l.left s → IsSought (relays_among l.domain (world_entries l.initial.name-iterator)) l.place s
