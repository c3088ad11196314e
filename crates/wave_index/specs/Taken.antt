-- The histories that an index took.
--     TakenOf               a history: the name of the wavelet, and the deltas in order
--     taken_code            its code
--     Histories             the histories by name
--     history_of t          one as a history that has no room
--     point_of t            the point at its head
--     deltas_in m n         the deltas of a name; none where nothing was taken
--     history_in m n        the history of a name
--     with_delta m n d      the histories, with one delta more after those of a name
--     AreNamed m            each history stands at its own name
use Rattle.std.specs.Prelude.{◌≡◌, List, [], ◌∷◌, ◌++◌, refl, IfSome}
use Rattle.std.specs.Coded.{Coded, code_by, coded_list, coded_ℕ, coded×}
use Rattle.std.specs.FinMap.{get, insert}
use Rattle.std.specs.Option.{option_map_or}
use Rattle.doc_items.specs.Maps.{Key, Map}
use Rattle.wavelet_op.specs.Deltas.{DeltaOf}
use Rattle.delta_history.specs.Histories.{HistoryOf, head_of}
use Rattle.delta_history.specs.Points.{Point}

pub record TakenOf : Type 0 where
  pub name : Key
  pub deltas : List DeltaOf

abbrev pub taken_code : Coded DeltaOf → Coded TakenOf
taken_code delta = code_by (Key × List DeltaOf) (coded× (coded_list coded_ℕ) (coded_list delta)) (λ t. (t.name, t.deltas))
    (λ p. record { name = p.0; deltas = p.1 }) (λ _. refl)

abbrev pub Histories : Type 0
Histories = Map TakenOf

abbrev pub history_of : TakenOf → HistoryOf
history_of t = record { name = t.name; deltas = t.deltas; spare = 0 }

abbrev pub point_of : TakenOf → Point
point_of t = head_of (history_of t)

abbrev pub deltas_in : Histories → Key → List DeltaOf
deltas_in m n = option_map_or (λ t. t.deltas) (get m n) []

abbrev pub history_in : Histories → Key → HistoryOf
history_in m n = history_of (record { name = n; deltas = deltas_in m n })

abbrev pub with_delta : Histories → Key → DeltaOf → Histories
with_delta m n d = insert m n (record { name = n; deltas = deltas_in m n ++ d ∷ [] })

abbrev pub AreNamed : Histories → Type 0
AreNamed m = (q : Key) → IfSome (get m q) (λ t. t.name ≡ q)
