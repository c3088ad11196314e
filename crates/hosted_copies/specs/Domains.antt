-- Hosted histories by their domains. The domain of a wavelet is its host, which stands in its name.
--     is_hosted_by d n      the domain hosts the wavelet of the name
--     hosted_by d hs        the histories that it hosts, in order
--     is_shown_by d h       it hosts this one, which has a delta
--     hosted_from d s i     those on a shelf that it hosts and that have a delta, from a place among all of the shelf's on
--     one_of o              a list of the one, if any
--     copy_by d s n         the history of the name on a shelf, where the domain hosts it
--     outcome_by d s n i    the acknowledgement that it keeps for the id
--     shown_by d s          what the domain hosts on the shelf, as sessions see it
use Rattle.std.specs.Prelude.{ℕ, Bool, not, ◌&&◌, ◌==◌, cond, List, [], ◌∷◌, length, filter, drop, Option, Some, None}
use Rattle.doc_items.specs.Maps.{Key, same_text}
use Rattle.wave_base.specs.Grammar.{host_of}
use Rattle.wave_base.specs.Versions.{IdOf}
use Rattle.wavelet_op.specs.declared.verdict.Verdict.{Verdict}
use Rattle.delta_history.specs.Histories.{HistoryOf}
use Rattle.disk_model.specs.declared.disk.Disk as disk_of
use Rattle.wave_outside.specs.declared.folder.Folder as folder_of
use Rattle.session_core.specs.Access.{Shown, shown}
use Rattle.wavelet_shelf.specs.Entries.{shown as with_deltas}
use Rattle.wavelet_shelf.specs.Hosting.{Hosted, names_of}
use Rattle.wavelet_shelf.specs.Shelves.{hosted_of, copies_of, outcome_of}
use Rattle.wavelet_shelf.specs.Walks.{histories_of}
use Rattle.wavelet_shelf.specs.declared.shelf.Shelf.{Shelf}
use Rattle.hosted_copies.specs.Shown.{nothing_dropped}

abbrev pub is_hosted_by : Key → Key → Bool
is_hosted_by domain name = same_text (host_of name) domain

abbrev pub hosted_by : Key → List Hosted → List Hosted
hosted_by domain hs = filter (λ h. is_hosted_by domain h.name) hs

abbrev pub is_shown_by : Key → Hosted → Bool
is_shown_by domain h = not (length h.deltas == 0) && is_hosted_by domain h.name

abbrev pub one_of : {A : Type 0} → Option A → List A
one_of None = []
one_of (Some x) = x ∷ []

module _ {F D : Type 0} {folder : folder_of.Ghosts F D} {disk : disk_of.Ghosts D} where
  abbrev pub hosted_from : Key → Shelf F D folder disk → ℕ → List Hosted
  hosted_from domain s i = hosted_by domain (with_deltas (drop i (histories_of s)))

  abbrev pub copy_by : Key → Shelf F D folder disk → Key → Option HistoryOf
  copy_by domain s n = cond (is_hosted_by domain n) (copies_of s n) None

  abbrev pub outcome_by : Key → Shelf F D folder disk → Key → IdOf → Option Verdict
  outcome_by domain s n i = cond (is_hosted_by domain n) (outcome_of s n i) None

  abbrev pub shown_by : Key → Shelf F D folder disk → Shown
  shown_by domain s = shown (λ n. copy_by domain s n) (names_of (hosted_by domain (hosted_of s))) nothing_dropped
      (λ n i. outcome_by domain s n i)
