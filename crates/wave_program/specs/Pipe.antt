-- The command `pipe`.
--     answers_over hs ts      what the machine that begins with these histories writes for these turns
--     hosted_after hs ts      its histories then
--     IsOneAtMost ts          there is one turn at most
--     IsLeftOf a b ts us      a run over the shelf a answered the turns ts, and tried us: the histories are those of before that or those
--                             it leads to, each file stands for one of the two, files and containers came for names alone that have
--                             a delta, and the file of a name that has none yet is as it was, or emptied, where it is no container's
--     IsOver                  a run over a shelf: what it read and wrote, and the shelf before and after it
use Rattle.std.specs.Prelude.{◌≡◌, ◌⊎◌, ℕ, List, [], ◌∷◌, ◌++◌, Option, IfSome, true}
use Rattle.doc_items.specs.Maps.{Key}
use Rattle.disk_model.specs.declared.disk.Disk as disk_of
use Rattle.wave_outside.specs.declared.clock.Clock as clock_of
use Rattle.wave_outside.specs.declared.folder.Folder as folder_of
use Rattle.line_loop.specs.Lines.{turned, IsPrefix}
use Rattle.line_loop.specs.Told.{IsRun}
use Rattle.line_loop.specs.Turns.{Turn, lines_in}
use Rattle.wavelet_shelf.specs.Hosting.{Hosted, deltas_in}
use Rattle.wavelet_shelf.specs.Folders.{IsUnmadeIn}
use Rattle.wavelet_shelf.specs.Shelves.{in_folder, hosted_of, container_in, IsKept, IsSettled, HasFile}
use Rattle.wavelet_shelf.specs.declared.shelf.Shelf.{Shelf}
use Rattle.pipe_machine.specs.Keeping.{Begins, IsFileOfEither, IsFileWith, AreWrittenOn, AreBegun, IsMoved, submitted_in}
use Rattle.pipe_machine.specs.Lines.{lines_of}
use Rattle.pipe_machine.specs.Machine.{start, sent, after}
use Rattle.pipe_machine.specs.Pipes.{StandsAlong}
use Rattle.wave_program.specs.Run.{IsServing, IsWhole}

abbrev pub answers_over : List Hosted → List Turn → List ℕ
answers_over hs ts = lines_of (sent (start hs) ts)

abbrev pub hosted_after : List Hosted → List Turn → List Hosted
hosted_after hs ts = (after (start hs) ts).hosted

abbrev pub IsOneAtMost : List Turn → Type 0
IsOneAtMost ts = (ts ≡ []) ⊎ ((t : Turn) × (ts ≡ t ∷ []))

module _ {F D : Type 0} {folder : folder_of.Ghosts F D} {disk : disk_of.Ghosts D} where
  pub record IsLeftOf (a b : Shelf F D folder disk) (turns tried : List Turn) : Type 0 where
    pub one : IsOneAtMost tried
    pub hosted : (hosted_of b ≡ hosted_after (hosted_of a) turns) ⊎ (hosted_of b ≡ hosted_after (hosted_of a) (turns ++ tried))
    -- and whenever the run was cut off, a crash left a history on the way
    pub moments : IsKept a → IsSettled a → AreWrittenOn a b (λ n. StandsAlong (start (hosted_of a)) n (turns ++ tried))
    pub begun : AreBegun a b (hosted_after (hosted_of a) (turns ++ tried))
    pub unmade : (m : List ℕ) → (HasFile b m → ⊥) → (IsFileWith (hosted_after (hosted_of a) turns) m → ⊥)
        → IsUnmadeIn folder disk m (in_folder a) (in_folder b)
    pub files : IsKept a → IsSettled a → (n : Key)
        → IfSome (container_in b n) (IsFileOfEither n (deltas_in (hosted_after (hosted_of a) turns) n)
        (deltas_in (hosted_after (hosted_of a) (turns ++ tried)) n))

module _ {F D K : Type 0} {folder : folder_of.Ghosts F D} {disk : disk_of.Ghosts D} (clock : clock_of.Ghosts K) where
  pub record IsOver (a b : Shelf F D folder disk) (was : K) (left0 left1 held0 held1 : Option (List ℕ)) (status : ℕ) : Type 0 where
    pub known : IsServing status
    pub run : IsRun clock (answers_over (hosted_of a)) was left0 left1 held0 held1 status
    -- what was tried after the turns that were answered, if anything
    pub tried : List Turn
    pub lines : IsPrefix (lines_in run.turns ++ lines_in tried) (turned true run.read)
    -- the shelf after them
    pub moved : IsMoved (submitted_in (run.turns ++ tried)) a b
    pub left : IsLeftOf a b run.turns tried
    pub grown : (n : Key) → Begins (deltas_in (hosted_after (hosted_of a) run.turns) n) (deltas_in (hosted_of b) n)
    pub whole : IsWhole status → (hosted_of b ≡ hosted_after (hosted_of a) run.turns) × (IsKept a → IsSettled a → IsSettled b)
