use Rattle.std.specs.List.{All}
use Rattle.peer_turns.specs.declared.item.CopyAt.{CopyAt}
use Rattle.replica_store.specs.declared.sought.Sought.{Sought}
use Rattle.replica_store.specs.Listings.{IsSought, reaches_among}
use Rattle.replica_store.proofs.Stored.{IsNamed, world_entries}
use Rattle.replica_store.proofs.replicas.Replicas.reach_at.Given as goal

-- what is sought among the copies that are left is sought among all
abbrev pub invariant-loop-name : goal.invariant-loop-name
invariant-loop-name l = record {
  named : All IsNamed l.name-iterator;
  sought : (s : Sought CopyAt) → IsSought (reaches_among l.domain (world_entries l.name-iterator)) l.left s → IsSought (reaches_among l.domain (world_entries l.initial.name-iterator)) l.place s;
}
