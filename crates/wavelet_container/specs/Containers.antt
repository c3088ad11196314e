-- A history with its journal, as contracts see it.
--     history_of c, journal_of c     its parts; without a journal the second is None
--     OfBoth i j P           where there is a journal before a call, there is one after it, and P holds of the two
--     Moments g s t i j      a crash at any moment from i to j leaves the history g, or that and a delta more: one that was left
--                            over, or the one that is accepted
--     IsHeld c               over a disk that tells its bytes the history stands in the journal
use Rattle.std.specs.Prelude.{◌≡◌, ℕ, Option, Some, None}
use Rattle.wavelet_op.specs.declared.delta.Submission.{Submission}
use Rattle.delta_history.specs.Histories.{HistoryOf}
use Rattle.disk_model.specs.Disk.{LeavesOnly}
use Rattle.disk_model.specs.declared.disk.Disk.{Ghosts}
use Rattle.delta_journal.specs.Journal.{on_disk, left_over}
use Rattle.delta_journal.specs.declared.journal.Journal.{Journal}
use Rattle.wavelet_container.specs.Decisions.{judged}
use Rattle.wavelet_container.specs.Stores.{IsStored, MayFollow, StandsForOneMore}
use Rattle.wavelet_container.specs.declared.container.Container.{Container}

abbrev pub history_of : {K : Type 0} {disk : Ghosts K} → Container K disk → HistoryOf
history_of c = c.wavelet

abbrev pub journal_of : {K : Type 0} {disk : Ghosts K} → Container K disk → Option (Journal K disk)
journal_of c = c.journal

abbrev pub OfBoth : {K : Type 0} {disk : Ghosts K} → Option (Journal K disk) → Option (Journal K disk)
    → (Journal K disk → Journal K disk → Type 0) → Type 0
OfBoth None None P = Unit {0}
OfBoth None (Some j) P = ⊥
OfBoth (Some i) None P = ⊥
OfBoth (Some i) (Some j) P = P i j

abbrev pub Moments : {K : Type 0} {disk : Ghosts K} → HistoryOf → Submission → ℕ → Journal K disk → Journal K disk → Type 0
Moments g s t i j = LeavesOnly (on_disk i) (on_disk j) (StandsForOneMore g.name g.deltas (MayFollow (left_over i) (judged g s t).1))

abbrev pub IsHeld : {K : Type 0} {disk : Ghosts K} → Container K disk → Type 0
IsHeld {K} {disk} c = (j : Journal K disk) × (journal_of c ≡ Some j) × IsStored (history_of c) j
