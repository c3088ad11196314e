-- A history as contracts see it.
--     HistoryOf           the name of the wavelet, the deltas in order, and how many more there is room for
--     head_of h           the point at its head
--     IsSameHistory g h   equal but for the room
--     IsGrown g d h       the delta is after the others
--     hash_found h v      the hash at a version; None where it is no delta end
use Rattle.std.specs.Prelude.{◌≡◌, ℕ, List, [], ◌∷◌, ◌++◌, Option}
use Rattle.std.specs.Option.{option_map}
use Rattle.wavelet_op.specs.Deltas.{DeltaOf}
use Rattle.delta_history.specs.Points.{Point, end_of, point_at}

pub record HistoryOf : Type 0 where
  pub name : List ℕ
  pub deltas : List DeltaOf
  pub spare : ℕ

abbrev pub head_of : HistoryOf → Point
head_of h = end_of h.name h.deltas

pub record IsSameHistory (g h : HistoryOf) : Type 0 where
  pub name : h.name ≡ g.name
  pub deltas : h.deltas ≡ g.deltas

pub record IsGrown (g : HistoryOf) (d : DeltaOf) (h : HistoryOf) : Type 0 where
  pub name : h.name ≡ g.name
  pub deltas : h.deltas ≡ g.deltas ++ d ∷ []

abbrev pub hash_found : HistoryOf → ℕ → Option (List ℕ)
hash_found h v = option_map (λ p. p.at.hash) (point_at h.name h.deltas v)
