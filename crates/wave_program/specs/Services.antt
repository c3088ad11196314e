-- What a run does over the wavelets of a store.
--     service_of c        the folder and the service that a command names; None where it is over no store, or over a net
--     IsDone              what was read and written over a shelf, and the shelf after it, by the service
use Rattle.std.specs.Prelude.{◌≡◌, ℕ, List, Option, Some, None}
use Rattle.disk_model.specs.declared.disk.Disk as disk_of
use Rattle.wave_outside.specs.declared.clock.Clock as clock_of
use Rattle.wave_outside.specs.declared.folder.Folder as folder_of
use Rattle.command_words.specs.Commands as words
use Rattle.command_words.specs.Commands.{CommandOf}
use Rattle.wavelet_shelf.specs.Shelves.{hosted_of}
use Rattle.wavelet_shelf.specs.declared.shelf.Shelf.{Shelf}
use Rattle.wave_program.specs.Asks.{IsPlayed, IsListed}
use Rattle.wave_program.specs.Pipe.{IsOver}
use Rattle.wave_program.specs.declared.service.Service.{Service}
use Rattle.wave_program.specs.declared.service.Service.TheVariants.{Lines, Play, Inbox}

abbrev pub service_of : Option CommandOf → Option (List ℕ × Service)
service_of None = None
service_of (Some (words.Pipe None)) = None
service_of (Some (words.Pipe (Some folder))) = Some (folder, Lines)
service_of (Some (words.Load n)) = None
service_of (Some (words.Play folder wavelet)) = Some (folder, Play wavelet)
service_of (Some (words.Inbox folder user)) = Some (folder, Inbox user)
service_of (Some (words.Serve domain listen peers sessions folder echo)) = None
service_of (Some (words.Edit user client connect)) = None

module _ {F D K : Type 0} {folder : folder_of.Ghosts F D} {disk : disk_of.Ghosts D} (clock : clock_of.Ghosts K) where
  abbrev pub IsDone : Service → Shelf F D folder disk → Shelf F D folder disk → K → (left0 left1 held0 held1 : Option (List ℕ)) → ℕ → Type 0
  IsDone Lines a b was left0 left1 held0 held1 status = IsOver clock a b was left0 left1 held0 held1 status
  IsDone (Play wavelet) a b was left0 left1 held0 held1 status = (b ≡ a) × IsPlayed (hosted_of a) wavelet left0 left1 held0 held1 status
  IsDone (Inbox user) a b was left0 left1 held0 held1 status = (b ≡ a) × IsListed (hosted_of a) user left0 left1 held0 held1 status
