-- What a run over the lines of a source read, answered and wrote, by the turns of its machine.
--     IsRun          what the statuses promise of these, whatever source, sink and clock tell
--     WhereTold      for which source and sink a fact on bytes holds: those that tell theirs
use Rattle.std.specs.Prelude.{◌≡◌, ℕ, ◌<◌, ◌≤◌, ◌⊎◌, List, ◌++◌, length, Option, Some, None, true, false, IsTrue}
use Rattle.std.specs.Io.KnownBytes.{Appends, Consumes, IsAtEnd}
use Rattle.wave_outside.specs.declared.clock.Clock as clock_of
use Rattle.line_loop.specs.Lines.{turned, IsPrefix}
use Rattle.line_loop.specs.Run.{byte_limit}
use Rattle.line_loop.specs.Turns.{Turn, lines_in, timed}

-- a run of a machine with these answers; the clock before, and what the source has left and the sink holds before and after
pub record IsRun {K : Type 0} (clock : clock_of.Ghosts K) (answers : List Turn → List ℕ) (was : K)
    (left0 left1 held0 held1 : Option (List ℕ)) (status : ℕ) : Type 0 where
  pub read : List ℕ
  pub written : List ℕ
  pub consumed : Consumes left0 left1 read
  pub appended : Appends held0 held1 written
  pub bound : length read ≤ byte_limit
  -- the turns that were answered: of lines that were read, in order, each with a reading that the clock gave then
  pub turns : List Turn
  pub timed : IsTrue clock.tells → turns ≡ timed (clock.readings was) (lines_in turns)
  pub lines : IsPrefix (lines_in turns) (turned true read)
  pub answered : IsPrefix written (answers turns)
  -- what each status says
  pub done : status ≡ 0 → IsAtEnd left1 × (lines_in turns ≡ turned true read)
  pub ended : (status ≡ 3) ⊎ (status ≡ 10) → lines_in turns ≡ turned false read
  pub whole : (status ≡ 0) ⊎ ((status ≡ 3) ⊎ (status ≡ 10)) → written ≡ answers turns
  pub short : status ≡ 4 → length written < length (answers turns)
  pub limit : status ≡ 10 → length read ≡ byte_limit
  pub at_limit : length read ≡ byte_limit → (status ≡ 10) ⊎ ((status ≡ 4) ⊎ ((status ≡ 5) ⊎ (status ≡ 8)))

-- P of the bytes read, left and written between two states of a source and a sink, where both tell theirs
abbrev pub WhereTold : (left0 left1 held0 held1 : Option (List ℕ)) → (List ℕ → List ℕ → List ℕ → Type 0) → Type 0
WhereTold None left1 held0 held1 P = Unit {0}
WhereTold (Some all) left1 None held1 P = Unit {0}
WhereTold (Some all) left1 (Some held) held1 P =
    (read : List ℕ) × (left : List ℕ) × (written : List ℕ)
    × (all ≡ read ++ left) × (left1 ≡ Some left) × (held1 ≡ Some (held ++ written)) × P read left written
