-- The histories that an index takes of copies.
--     deltas_of o            the deltas of a copy; none where there is none
--     with_deltas m n ds     the histories, with these deltas after those of a name, one after the other
--     with_all m ns f        so for each of these names, with the deltas that f gives for it
--     indexed ns f           from no history on
use Rattle.std.specs.Prelude.{List, [], ◌∷◌, Option}
use Rattle.std.specs.FinMap as finite
use Rattle.std.specs.Option.{option_map_or}
use Rattle.doc_items.specs.Maps.{Key}
use Rattle.wavelet_op.specs.Deltas.{DeltaOf}
use Rattle.delta_history.specs.Histories.{HistoryOf}
use Rattle.wave_index.specs.Taken.{Histories, with_delta}

abbrev pub deltas_of : Option HistoryOf → List DeltaOf
deltas_of o = option_map_or (λ h. h.deltas) o []

abbrev pub with_deltas : Histories → Key → List DeltaOf → Histories
with_deltas m n [] = m
with_deltas m n (d ∷ ds) = with_deltas (with_delta m n d) n ds

abbrev pub with_all : Histories → List Key → (Key → List DeltaOf) → Histories
with_all m [] f = m
with_all m (n ∷ ns) f = with_all (with_deltas m n (f n)) ns f

abbrev pub indexed : List Key → (Key → List DeltaOf) → Histories
indexed ns f = with_all finite.empty ns f
