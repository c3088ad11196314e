-- A machine in code, as contracts see it.
--     pipe_of m           its histories and its seats
--     store_faults s      how often its folder and its disks have failed: never where it has no folder
--     StandsAlong p n ts f     the file stands for the history of the name after some of these turns, from the first on
--     IsReached a ts b    the second has answered these turns since it was the first, each crash left the files so, and none came for a
--                         name without a delta
--     IsSince a ts b      what stays so of the shelf, whatever became of these turns
--     IsTried a t b       this turn failed in between: there are the histories of before, or those after it, and so it is with each file,
--                         and with what a crash left of it
--     IsCalm m            over a folder whose disks tell their bytes: each history stands in its file, and no repair waits
use Rattle.std.specs.Prelude.{◌≡◌, ℕ, List, take, Option, Some, None}
use Rattle.doc_items.specs.Maps.{Key}
use Rattle.disk_model.specs.declared.disk.Disk as disk_of
use Rattle.wave_outside.specs.declared.folder.Folder as folder_of
use Rattle.wavelet_container.specs.Records.{StandsForHistory}
use Rattle.wavelet_shelf.specs.Hosting.{deltas_in}
use Rattle.wavelet_shelf.specs.Shelves.{hosted_of, in_folder, fault_count, IsKept, IsSettled}
use Rattle.wavelet_shelf.specs.declared.shelf.Shelf.{Shelf}
use Rattle.line_loop.specs.Turns.{Turn}
use Rattle.pipe_machine.specs.declared.pipe.PipeMachine.{PipeMachine}
use Rattle.pipe_machine.specs.Keeping.{submitted_in, IsMoved, AreWrittenOn, AreBegun, AreStepped, IsTriedTo}
use Rattle.pipe_machine.specs.Machine.{Pipe, turn, after}
use Rattle.pipe_machine.specs.Runs.{seats_in}

abbrev pub faults_where : {F : Type 0} → Option F → ℕ → ℕ
faults_where None count = 0
faults_where (Some f) count = count

abbrev pub StandsAlong : Pipe → Key → List Turn → List ℕ → Type 0
StandsAlong p n ts bytes = (k : ℕ) × StandsForHistory n (deltas_in (after p (take k ts)).hosted n) bytes

module _ {F D : Type 0} {folder : folder_of.Ghosts F D} {disk : disk_of.Ghosts D} where
  abbrev pub pipe_of : PipeMachine F D folder disk → Pipe
  pipe_of m = record { hosted = hosted_of m.shelf; seats = seats_in m.seats.runs.items }

  abbrev pub IsCalm : PipeMachine F D folder disk → Type 0
  IsCalm m = IsKept m.shelf × IsSettled m.shelf

  abbrev pub store_faults : Shelf F D folder disk → ℕ
  store_faults s = faults_where (in_folder s) (fault_count s)

  pub record IsReached (a : PipeMachine F D folder disk) (ts : List Turn) (b : PipeMachine F D folder disk) : Type 0 where
    pub pipe : after (pipe_of a) ts ≡ pipe_of b
    pub calm : IsCalm a → IsCalm b
    pub moments : IsCalm a → AreWrittenOn a.shelf b.shelf (λ n. StandsAlong (pipe_of a) n ts)
    pub begun : AreBegun a.shelf b.shelf (hosted_of b.shelf)

  abbrev pub IsSince : PipeMachine F D folder disk → List Turn → PipeMachine F D folder disk → Type 0
  IsSince a ts b = IsMoved (submitted_in ts) a.shelf b.shelf

  pub record IsTried (a : PipeMachine F D folder disk) (t : Turn) (b : PipeMachine F D folder disk) : Type 0 where
    pub to : IsTriedTo a.shelf b.shelf (turn (pipe_of a) t.time t.line).pipe.hosted
    pub stepped : AreStepped a.shelf b.shelf (turn (pipe_of a) t.time t.line).pipe.hosted
