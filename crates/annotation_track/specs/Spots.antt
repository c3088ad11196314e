-- Where a key stands, or would stand, in a list of changes with ascending keys.
--     AscendsKey p cs k     the keys of cs ascend after p, and k comes after all of them
--     IsSpot cs k spot      Here i: the change at i is the key's; Before i: none is, and it would stand before that at i
use Rattle.std.specs.Prelude.{◌≡◌, ℕ, ◌+◌, ◌<◌, ◌≤◌, List, [], ◌∷◌, length, take, drop, slice_index_or, true, Option, None, Some}
use Rattle.doc_items.specs.Changes.{ascends, same_key, AscendsFrom}
use Rattle.doc_items.specs.declared.change.Change.{Change}
use Rattle.annotation_track.specs.declared.spot.Spot.{Spot}
use Rattle.annotation_track.specs.declared.spot.Spot.TheVariants.{Here, Before}

abbrev pub AscendsKey : Option (List ℕ) → List Change → List ℕ → Type 0
AscendsKey p [] k = ascends p k ≡ true
AscendsKey p (c ∷ cs) k = (ascends p c.key ≡ true) × AscendsKey (Some c.key) cs k

abbrev pub IsSpot : List Change → List ℕ → Spot → Type 0
IsSpot cs k (Here i) = (i < length cs) × ((d : Change) → same_key (slice_index_or cs i d).key k ≡ true)
IsSpot cs k (Before i) = (i ≤ length cs) × AscendsKey None (take i cs) k × AscendsFrom (Some k) (drop i cs)
