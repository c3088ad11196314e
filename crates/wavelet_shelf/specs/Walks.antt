-- A walk over the histories of a shelf.
--     histories_of s     all of them, in byte order of their names
--     as_hosted h        a history, as one of these
use Rattle.std.specs.Prelude.{List}
use Rattle.delta_history.specs.Histories.{HistoryOf}
use Rattle.disk_model.specs.declared.disk.Disk as disk_of
use Rattle.wave_outside.specs.declared.folder.Folder as folder_of
use Rattle.wavelet_shelf.specs.Entries.{histories}
use Rattle.wavelet_shelf.specs.Hosting.{Hosted}
use Rattle.wavelet_shelf.specs.Shelves.{entries_of}
use Rattle.wavelet_shelf.specs.declared.shelf.Shelf.{Shelf}

abbrev pub as_hosted : HistoryOf → Hosted
as_hosted h = record { name = h.name; deltas = h.deltas }

abbrev pub histories_of : {F D : Type 0} {folder : folder_of.Ghosts F D} {disk : disk_of.Ghosts D} → Shelf F D folder disk → List Hosted
histories_of s = histories (entries_of s)
