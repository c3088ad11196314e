-- Hosted histories, in byte order of their names.
--     Hosted                      a history that has a delta
--     names_of hs                 the names
--     deltas_in hs n              the deltas of the name: none where it isn't there
--     grown_in hs n d             the delta after those of the name; a new name takes its place in byte order
--     with_added hs n o           the histories with the delta o after those of the name, where there is one
--     judged_in hs n s t          the verdict on a submission to the name at the time t, and the delta by which its history grows
--     after_submission hs n s t   the histories after it
--     copy_in hs n                the history of the name: None where it isn't there
--     IsCopyOf o p                a history of the same name and with the same deltas, or none in both
--     HaveDeltas hs               each of them has a delta
--     GrowsAlone                  the law: the delta is after those of its name, and the other names, their deltas and the order stay
use Rattle.std.specs.Prelude.{◌≡◌, ◌≢◌, ℕ, cond, List, [], ◌∷◌, ◌++◌, map, Option, Some, None}
use Rattle.std.specs.Cmp.Lexicographic.{slice_cmp}
use Rattle.std.specs.Ordering.{nat_cmp}
use Rattle.std.specs.declared.cmp.Ordering.{Ordering}
use Rattle.std.specs.declared.cmp.Ordering.TheVariants.{Less, Equal, Greater}
use Rattle.doc_items.specs.Maps.{Key, same_text}
use Rattle.wavelet_op.specs.Deltas.{DeltaOf}
use Rattle.wavelet_op.specs.declared.delta.Submission.{Submission}
use Rattle.delta_history.specs.Copying.{AreAscending}
use Rattle.delta_history.specs.Histories.{HistoryOf}
use Rattle.delta_history.specs.Verdicts.{Judged, judge}

pub record Hosted : Type 0 where
  pub name : Key
  pub deltas : List DeltaOf

abbrev pub names_of : List Hosted → List Key
names_of hs = map (λ h. h.name) hs

abbrev pub deltas_in : List Hosted → Key → List DeltaOf
deltas_in [] n = []
deltas_in (h ∷ hs) n = cond (same_text n h.name) h.deltas (deltas_in hs n)

-- ---- a history that grows

abbrev pub begun : Key → DeltaOf → Hosted
begun n d = record { name = n; deltas = d ∷ [] }

abbrev pub grown : Hosted → DeltaOf → Hosted
grown h d = record { name = h.name; deltas = h.deltas ++ d ∷ [] }

-- by how the name compares with the first one; `rest` are the others, where the name isn't before them
abbrev pub grown_by : Ordering → Hosted → List Hosted → List Hosted → Key → DeltaOf → List Hosted
grown_by Less h hs rest n d = begun n d ∷ h ∷ hs
grown_by Equal h hs rest n d = grown h d ∷ hs
grown_by Greater h hs rest n d = h ∷ rest

abbrev pub grown_in : List Hosted → Key → DeltaOf → List Hosted
grown_in [] n d = begun n d ∷ []
grown_in (h ∷ hs) n d = grown_by (slice_cmp nat_cmp n h.name) h hs (grown_in hs n d) n d

abbrev pub with_added : List Hosted → Key → Option DeltaOf → List Hosted
with_added hs n None = hs
with_added hs n (Some d) = grown_in hs n d

-- ---- submissions

abbrev pub judged_in : List Hosted → Key → Submission → ℕ → Judged
judged_in hs n s t = judge n (deltas_in hs n) s t

abbrev pub after_submission : List Hosted → Key → Submission → ℕ → List Hosted
after_submission hs n s t = with_added hs n (judged_in hs n s t).1

-- ---- what sessions see

abbrev pub copy_of : Key → List DeltaOf → Option HistoryOf
copy_of n [] = None
copy_of n (d ∷ ds) = Some (record { name = n; deltas = d ∷ ds; spare = 0 })

abbrev pub copy_in : List Hosted → Key → Option HistoryOf
copy_in hs n = copy_of n (deltas_in hs n)

abbrev pub IsCopyOf : Option HistoryOf → Option HistoryOf → Type 0
IsCopyOf None None = Unit {0}
IsCopyOf None (Some h) = ⊥
IsCopyOf (Some g) None = ⊥
IsCopyOf (Some g) (Some h) = (g.name ≡ h.name) × (g.deltas ≡ h.deltas)

-- ---- the law

abbrev pub HaveDeltas : List Hosted → Type 0
HaveDeltas [] = Unit {0}
HaveDeltas (h ∷ hs) = (h.deltas ≢ []) × HaveDeltas hs

pub record GrowsAlone : Type 0 where
  pub there : (hs : List Hosted) (n : Key) (d : DeltaOf) → AreAscending (names_of hs) → deltas_in (grown_in hs n d) n ≡ deltas_in hs n ++ d
      ∷ []
  pub others : (hs : List Hosted) (n : Key) (d : DeltaOf) (m : Key) → m ≢ n → deltas_in (grown_in hs n d) m ≡ deltas_in hs m
  pub ascending : (hs : List Hosted) (n : Key) (d : DeltaOf) → AreAscending (names_of hs) → AreAscending (names_of (grown_in hs n d))
