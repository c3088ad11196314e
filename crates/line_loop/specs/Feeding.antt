-- Bytes given to a machine, whose answers go to a sink.
--     IsFed           it took the lines that ended in some bytes, and its answers were written
--     IsFedLine       it took one line, or nothing where that had no bytes, and its answer was written
--     IsFedChunk      it took the lines that ended in some bytes; where there were no bytes, it took the open line as the last
--     IsFedInPart     it took some of them, and it or the sink failed; what it took and tried are the first lines of something
use Rattle.std.specs.Prelude.{◌≡◌, ℕ, ◌<◌, List, [], ◌∷◌, ◌++◌, length, Option, true}
use Rattle.std.specs.Io.KnownBytes.{Appends}
use Rattle.wave_outside.specs.declared.clock.Clock as clock_of
use Rattle.line_loop.specs.declared.feed.FeedFault.{FeedFault}
use Rattle.line_loop.specs.declared.feed.FeedFault.TheVariants.{Sink}
use Rattle.line_loop.specs.declared.line_machine.LineMachine as machine_of
use Rattle.line_loop.specs.Lines.{given, turned, IsPrefix, IsCutInto}
use Rattle.line_loop.specs.Steps.{IsAnswered, IsStopped}
use Rattle.line_loop.specs.Turns.{Turn, lines_in}

-- the machine, the clock, what the sink holds and the open line: before and after
module _ {M K : Type 0} (machine : machine_of.Ghosts M) (clock : clock_of.Ghosts K) where
  pub record IsFed (old new : M) (was now : K) (held0 held1 : Option (List ℕ)) (begun bytes left : List ℕ) : Type 0 where
    pub written : List ℕ
    pub turns : List Turn
    pub appended : Appends held0 held1 written
    pub cut : IsCutInto begun bytes left (lines_in turns)
    pub answered : IsAnswered machine clock old new was now [] written turns

  pub record IsFedLine (old new : M) (was now : K) (held0 held1 : Option (List ℕ)) (line : List ℕ) : Type 0 where
    pub written : List ℕ
    pub turns : List Turn
    pub appended : Appends held0 held1 written
    pub lines : lines_in turns ≡ given (line ∷ [])
    pub answered : IsAnswered machine clock old new was now [] written turns

  pub record IsFedChunk (old new : M) (was now : K) (held0 held1 : Option (List ℕ)) (begun bytes left : List ℕ) : Type 0 where
    pub written : List ℕ
    pub turns : List Turn
    pub appended : Appends held0 held1 written
    pub cut : 0 < length bytes → IsCutInto begun bytes left (lines_in turns)
    pub last : length bytes ≡ 0 → lines_in turns ≡ turned true begun
    pub answered : IsAnswered machine clock old new was now [] written turns

  pub record IsFedInPart (old new : M) (was : K) (held0 held1 : Option (List ℕ)) (are_first : List (List ℕ) → Type 0)
      (e : FeedFault) : Type 0 where
    pub written : List ℕ
    pub turns : List Turn
    pub tried : List Turn
    pub appended : Appends held0 held1 written
    pub front : are_first (lines_in turns ++ lines_in tried)
    pub stopped : IsStopped machine clock old new was [] turns tried
    pub prefix : IsPrefix written stopped.after
    -- the machine answered all if the sink failed
    pub all : e ≡ Sink → (new ≡ stopped.mid) × (tried ≡ [])
    pub short : e ≡ Sink → length written < length stopped.after
