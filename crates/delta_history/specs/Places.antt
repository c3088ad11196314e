-- Where deltas stand in the list of a history, by which they are found without walking it.
--     started_below v ds      how many deltas at the front were applied below a version
--     IsRisingFrom n ds       the versions at which they were applied rise, from n on
--     end_at v head ds        the hashed version at v, where that is the start of one of the deltas or the head after them
--     count_at v head ds      how many deltas lead up to v; None where that is none of these
--     place_from i n ds       the place of the first delta of the id, where the first of the deltas has the place n
--     stands_at head ds k     where the delta at a place stands: its version, and the hashed version after it
--     Places                  a map from ids, by author and then by client and number, to places
--     id_at author n          the id of this author, client and number
--     place_in m i            the place of an id in the map
--     IsIndex m n ds          the map has the places of the first n deltas
--     IsPut m m' i k          the map m' has this place for the id, and the others as m has them
use Rattle.std.specs.Prelude.{◌≡◌, ◌≤◌, ℕ, suc, ◌==◌, cond, nat_lt, List, [], ◌∷◌, slice_get, take, Option, Some, None, option_and_then}
use Rattle.std.specs.Option.{option_map}
use Rattle.std.specs.declared.cmp.Ordering.{Ordering}
use Rattle.std.specs.Ordering.{nat_cmp, ordering_then}
use Rattle.std.specs.Cmp.Lexicographic.{slice_cmp}
use Rattle.std.specs.BTreeMap as tree
use Rattle.doc_items.specs.Maps.{Key}
use Rattle.wave_base.specs.Versions.{IdOf, VersionAt, same_id}
use Rattle.wavelet_op.specs.Deltas.{DeltaOf}
use Rattle.delta_history.specs.declared.kept.Kept.{Kept}

-- ---- by version

abbrev pub started_below : ℕ → List DeltaOf → ℕ
started_below v [] = 0
started_below v (d ∷ ds) = cond (nat_lt d.from.version v) (suc (started_below v ds)) 0

abbrev pub IsRisingFrom : ℕ → List DeltaOf → Type 0
IsRisingFrom n [] = Unit {0}
IsRisingFrom n (d ∷ ds) = n ≤ d.from.version × IsRisingFrom d.from.version ds

abbrev pub from_or : VersionAt → Option DeltaOf → VersionAt
from_or head None = head
from_or head (Some d) = d.from

abbrev pub if_at : ℕ → VersionAt → Option VersionAt
if_at v at = cond (at.version == v) (Some at) None

abbrev pub end_at : ℕ → VersionAt → List DeltaOf → Option VersionAt
end_at v head ds = if_at v (from_or head (slice_get ds (started_below v ds)))

abbrev pub count_at : ℕ → VersionAt → List DeltaOf → Option ℕ
count_at v head ds = option_map (λ at. started_below v ds) (end_at v head ds)

-- ---- by id

abbrev pub place_from : IdOf → ℕ → List DeltaOf → Option ℕ
place_from i n [] = None
place_from i n (d ∷ ds) = cond (same_id i d.id) (Some n) (place_from i (suc n) ds)

abbrev pub stands : VersionAt → List DeltaOf → ℕ → DeltaOf → Kept
stands head ds k d = record { at = d.from.version; to = from_or head (slice_get ds (suc k)) }

abbrev pub stands_at : VersionAt → List DeltaOf → ℕ → Option Kept
stands_at head ds k = option_map (stands head ds k) (slice_get ds k)

abbrev pub pair_cmp : ℕ × ℕ → ℕ × ℕ → Ordering
pair_cmp x y = ordering_then (nat_cmp x.0 y.0) (nat_cmp x.1 y.1)

abbrev pub Places : Type 0
Places = tree.BTreeMap Key (tree.BTreeMap (ℕ × ℕ) ℕ)

abbrev pub number_of : IdOf → ℕ × ℕ
number_of i = (i.client, i.number)

abbrev pub id_at : Key → ℕ × ℕ → IdOf
id_at author n = record { author = author; client = n.0; number = n.1 }

abbrev pub place_in : Places → IdOf → Option ℕ
place_in m i = option_and_then (λ n. tree.get pair_cmp n (number_of i)) (tree.get (slice_cmp nat_cmp) m i.author)

abbrev pub IsIndex : Places → ℕ → List DeltaOf → Type 0
IsIndex m n ds = (i : IdOf) → place_in m i ≡ place_from i 0 (take n ds)

abbrev pub IsPut : Places → Places → IdOf → ℕ → Type 0
IsPut m m' i k = (j : IdOf) → place_in m' j ≡ cond (same_id i j) (Some k) (place_in m j)
