-- A run over the lines of a source.
--     byte_limit        the most bytes that one run reads
--     status_of r       the exit status of a run with this result
--     IsServed          what a run that ended with a status read, gave to the machine and wrote
--     IsUnderWay        what holds between two of its steps
--     IsPumped          a step
--     IsCut             a step that failed
use Rattle.std.specs.Prelude.{◌≡◌, ℕ, ◌<◌, ◌≤◌, ◌^◌, ◌⊎◌, List, [], ◌++◌, length, Option, Result, Ok, Err, ⊤, true, false, IsTrue}
use Rattle.std.specs.Io.KnownBytes.{Appends, Consumes, IsAtEnd}
use Rattle.wave_outside.specs.declared.clock.Clock as clock_of
use Rattle.line_loop.specs.declared.line_machine.LineMachine as machine_of
use Rattle.line_loop.specs.declared.run.Stop.{Stop}
use Rattle.line_loop.specs.declared.run.Stop.TheVariants.{Source, Sink, Store, Memory, Limit}
use Rattle.line_loop.specs.Lines.{turned, IsPrefix, IsCutInto}
use Rattle.line_loop.specs.Steps.{IsAnswered, IsLeft, IsStopped}
use Rattle.line_loop.specs.Turns.{Turn, lines_in, timed}

abbrev pub byte_limit : ℕ
byte_limit = 2 ^ 62

abbrev pub stop_status : Stop → ℕ
stop_status Source = 3
stop_status Sink = 4
stop_status Store = 5
stop_status Memory = 8
stop_status Limit = 10

abbrev pub status_of : Result ⊤ Stop → ℕ
status_of (Ok done) = 0
status_of (Err e) = stop_status e

module _ {M K : Type 0} (machine : machine_of.Ghosts M) (clock : clock_of.Ghosts K) where
  -- the machine, the clock, and the bytes that the source has left and that the sink holds, where they tell them: before and after
  pub record IsServed (start now : M) (was : K) (left0 left1 held0 held1 : Option (List ℕ)) (status : ℕ) : Type 0 where
    -- what was read and written
    pub read : List ℕ
    pub written : List ℕ
    pub consumed : Consumes left0 left1 read
    pub appended : Appends held0 held1 written
    pub bound : length read ≤ byte_limit
    -- the turns that the machine answered, and then what it failed at, if anything
    pub turns : List Turn
    pub tried : List Turn
    pub mid : M
    pub reached : machine.reached start turns mid
    pub since : machine.since mid tried now
    pub left : IsLeft machine mid now tried
    pub moved : machine.since start (turns ++ tried) now
    pub calm : machine.calm start → machine.calm mid
    pub timed : IsTrue clock.tells → turns ≡ timed (clock.readings was) (lines_in turns)
    -- they are of the lines read, and what was written is of its answers
    pub lines : IsPrefix (lines_in turns ++ lines_in tried) (turned true read)
    pub answers : IsPrefix written (machine.answers start turns)
    -- what each status says
    pub done : status ≡ 0 → IsAtEnd left1 × (lines_in turns ≡ turned true read)
    pub ended : (status ≡ 3) ⊎ (status ≡ 10) → lines_in turns ≡ turned false read
    pub whole : (status ≡ 0) ⊎ ((status ≡ 3) ⊎ (status ≡ 10)) → (written ≡ machine.answers start turns) × (now ≡ mid) × (tried ≡ [])
    pub short : status ≡ 4 → (length written < length (machine.answers start turns)) × (now ≡ mid) × (tried ≡ [])
    pub limit : status ≡ 10 → length read ≡ byte_limit
    pub at_limit : length read ≡ byte_limit → (status ≡ 10) ⊎ ((status ≡ 4) ⊎ ((status ≡ 5) ⊎ (status ≡ 8)))

  -- so many bytes were read, and the answers to the lines that ended in them were written
  pub record IsUnderWay (start now : M) (was is : K) (left0 left1 held0 held1 : Option (List ℕ)) (begun : List ℕ) (taken : ℕ) : Type 0 where
    pub read : List ℕ
    pub written : List ℕ
    pub turns : List Turn
    pub consumed : Consumes left0 left1 read
    pub appended : Appends held0 held1 written
    pub len : length read ≡ taken
    pub cut : IsCutInto [] read begun (lines_in turns)
    pub answered : IsAnswered machine clock start now was is [] written turns

  -- one step read these bytes, and wrote the answers; with none read it is the last
  pub record IsPumped (old new : M) (was now : K) (left0 left1 held0 held1 : Option (List ℕ)) (begun next : List ℕ) (got : ℕ) : Type 0 where
    pub read : List ℕ
    pub written : List ℕ
    pub turns : List Turn
    pub consumed : Consumes left0 left1 read
    pub appended : Appends held0 held1 written
    pub len : length read ≡ got
    pub answered : IsAnswered machine clock old new was now [] written turns
    pub cut : 0 < got → IsCutInto begun read next (lines_in turns)
    pub end : got ≡ 0 → IsAtEnd left1
    pub last : got ≡ 0 → lines_in turns ≡ turned true begun

  -- a step that failed wrote some of the answers; it read nothing if the source did, and the machine answered all if the sink did
  pub record IsCut (room : ℕ) (old new : M) (was : K) (left0 left1 held0 held1 : Option (List ℕ)) (begun : List ℕ) (e : Stop) : Type 0 where
    pub read : List ℕ
    pub written : List ℕ
    pub turns : List Turn
    pub tried : List Turn
    pub consumed : Consumes left0 left1 read
    pub appended : Appends held0 held1 written
    pub small : length read ≤ room
    pub front : IsPrefix (lines_in turns ++ lines_in tried) (turned true (begun ++ read))
    pub stopped : IsStopped machine clock old new was [] turns tried
    pub prefix : IsPrefix written stopped.after
    pub unread : e ≡ Source → (read ≡ []) × (turns ≡ []) × (written ≡ stopped.after)
    pub all : (e ≡ Source) ⊎ (e ≡ Sink) → (new ≡ stopped.mid) × (tried ≡ [])
    pub short : e ≡ Sink → length written < length stopped.after
