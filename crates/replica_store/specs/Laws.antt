-- The laws of copies.
--     AbsorbsNext, NextIsAbsorbed     the copy in the world absorbs exactly what may come next in its history: one definition of the
--                             next delta
--     NewestOnce              what is let go when each of two verdicts comes is what is let go at the end
--     NewestStay              a verdict is kept while fewer come after it than may be kept
use Rattle.std.specs.Prelude.{◌≡◌, ◌<◌, List, [], ◌∷◌, ◌++◌, length, Some, Contains}
use Rattle.doc_items.specs.Maps.{Key}
use Rattle.wavelet_op.specs.Acts.{AreNormal}
use Rattle.wavelet_op.specs.Deltas.{DeltaOf}
use Rattle.delta_history.specs.Legal.{IsNext}
use Rattle.follower_rules.specs.Replicas.{ReplicaOf, grown, absorb}
use Rattle.replica_store.specs.declared.outcomes.Noted.{Noted}
use Rattle.replica_store.specs.Copies.{most_noted}
use Rattle.replica_store.specs.Settling.{newest}

-- ---- the next delta

abbrev pub AbsorbsNext : Type 0
AbsorbsNext = (name : Key) (r : ReplicaOf) (d : DeltaOf) → IsNext name r.deltas d → absorb name r d ≡ Some (grown r d)

abbrev pub NextIsAbsorbed : Type 0
NextIsAbsorbed = (name : Key) (r s : ReplicaOf) (d : DeltaOf) → AreNormal d.ops → absorb name r d ≡ Some s → IsNext name r.deltas d

-- ---- what is let go

abbrev pub NewestOnce : Type 0
NewestOnce = (ns : List Noted) (n : Noted) → newest (newest ns ++ n ∷ []) ≡ newest (ns ++ n ∷ [])

abbrev pub NewestStay : Type 0
NewestStay = (before after : List Noted) (n : Noted) → length after < most_noted → Contains (newest (before ++ n ∷ after)) n
