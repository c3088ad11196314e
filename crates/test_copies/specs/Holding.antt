-- Copies that are held in memory, in byte order of their names.
--     has_delta ds           there is a delta
--     is_shown h             a held copy is hosted, and has a delta
--     held_of hs n           the held copy of a name
--     shown_copy o           its history, where it has a delta
--     shown_hosts hs         the names of those that are hosted and have a delta
--     is_dropped o           whether it noted a drop
--     noted vs i             the verdict that was noted for an id
--     known o i              the kept acknowledgement, else the verdict that was noted
--     names_of hs            all names
use Rattle.std.specs.Prelude.{◌≡◌, ◌==◌, ℕ, Bool, true, false, ◌&&◌, cond, List, [], ◌∷◌, map, Option, Some, None}
use Rattle.std.specs.Cmp.Lexicographic.{pointwise}
use Rattle.doc_items.specs.Maps.{Key}
use Rattle.wave_base.specs.Versions.{IdOf, same_id}
use Rattle.wavelet_op.specs.Deltas.{DeltaOf}
use Rattle.wavelet_op.specs.declared.verdict.Verdict.{Verdict}
use Rattle.wavelet_op.specs.declared.verdict.Verdict.TheVariants.{Ack}
use Rattle.delta_history.specs.declared.kept.Kept.{Kept}
use Rattle.delta_history.specs.Histories.{HistoryOf}
use Rattle.delta_history.specs.Points.{start}
use Rattle.delta_history.specs.Verdicts.{kept}
use Rattle.test_copies.specs.declared.held.Held.{Held}
use Rattle.test_copies.specs.declared.held.Noted.{Noted}

abbrev pub same_name : Key → Key → Bool
same_name n m = pointwise ◌==◌ n m

abbrev pub has_delta : List DeltaOf → Bool
has_delta [] = false
has_delta (d ∷ ds) = true

abbrev pub is_shown : Held → Bool
is_shown h = h.hosted && has_delta h.history.deltas

abbrev pub held_of : List Held → Key → Option Held
held_of [] n = None
held_of (h ∷ hs) n = cond (same_name n h.history.name) (Some h) (held_of hs n)

abbrev pub shown_copy : Option Held → Option HistoryOf
shown_copy None = None
shown_copy (Some h) = cond (has_delta h.history.deltas) (Some h.history) None

abbrev pub shown_hosts : List Held → List Key
shown_hosts [] = []
shown_hosts (h ∷ hs) = cond (is_shown h) (h.history.name ∷ shown_hosts hs) (shown_hosts hs)

abbrev pub is_dropped : Option Held → Bool
is_dropped None = false
is_dropped (Some h) = h.dropped

abbrev pub noted : List Noted → IdOf → Option Verdict
noted [] i = None
noted (x ∷ xs) i = cond (same_id i x.id) (Some x.verdict) (noted xs i)

abbrev pub known_by : List Noted → IdOf → Option Kept → Option Verdict
known_by xs i (Some k) = Some (Ack k.at k.to)
known_by xs i None = noted xs i

abbrev pub known : Option Held → IdOf → Option Verdict
known None i = None
known (Some h) i = known_by h.noted i (kept i (start h.history.name) h.history.deltas)

abbrev pub names_of : List Held → List Key
names_of [] = []
names_of (h ∷ hs) = h.history.name ∷ names_of hs
