-- Steps of a machine over lines, from one state of it, of the clock and of what is to be written to another.
--     IsLeft          what a failure left: the machine as it was where it was given nothing, or what a turn left that failed
--     IsTriedLine     it was given one line, or nothing where that had no bytes, and failed
--     IsAnswered      the machine took these turns, and answered each
--     IsStopped       it answered some turns, and failed at what it tried then, if anything
--     IsTakenLine     it was given one line, or nothing where that had no bytes, and answered it
--     IsTaken         it took the lines that ended in some bytes
--     IsTakenInPart   it took some of them, and failed; what it took and tried are the first lines of something
use Rattle.std.specs.Prelude.{◌≡◌, ℕ, ◌+◌, List, [], ◌∷◌, ◌++◌, length, IsTrue}
use Rattle.wave_outside.specs.declared.clock.Clock as clock_of
use Rattle.line_loop.specs.declared.line_machine.LineMachine as machine_of
use Rattle.line_loop.specs.Lines.{given, IsCutInto}
use Rattle.line_loop.specs.Turns.{Turn, lines_in, timed}

abbrev pub IsLeft : {M : Type 0} → machine_of.Ghosts M → M → M → List Turn → Type 0
IsLeft machine old new [] = new ≡ old
IsLeft machine old new (t ∷ []) = machine.tried old t new
IsLeft machine old new (t ∷ u ∷ ts) = ⊥

pub record IsTriedLine {M : Type 0} (machine : machine_of.Ghosts M) (old new : M) (line : List ℕ) : Type 0 where
  pub tried : List Turn
  pub lines : lines_in tried ≡ given (line ∷ [])
  pub since : (start : M) (us : List Turn) → machine.since start us old → machine.since start (us ++ tried) new
  pub left : IsLeft machine old new tried

module _ {M K : Type 0} (machine : machine_of.Ghosts M) (clock : clock_of.Ghosts K) where
  pub record IsAnswered (old new : M) (was now : K) (before after : List ℕ) (ts : List Turn) : Type 0 where
    pub out : (us : List Turn) → before ++ machine.answers old (ts ++ us) ≡ after ++ machine.answers new us
    pub reached : (start : M) (us : List Turn) → machine.reached start us old → machine.reached start (us ++ ts) new
    pub since : (start : M) (us : List Turn) → machine.since start us old → machine.since start (us ++ ts) new
    pub calm : machine.calm old → machine.calm new
    pub timed : IsTrue clock.tells → ts ≡ timed (clock.readings was) (lines_in ts)
    pub readings : IsTrue clock.tells → (k : ℕ) → clock.readings now k ≡ clock.readings was (k + length ts)

  pub record IsStopped (old new : M) (was : K) (before : List ℕ) (ts tried : List Turn) : Type 0 where
    pub mid : M
    pub now : K
    pub after : List ℕ
    pub answered : IsAnswered old mid was now before after ts
    pub since : (start : M) (us : List Turn) → machine.since start us mid → machine.since start (us ++ tried) new
    pub left : IsLeft machine mid new tried

  pub record IsTakenLine (old new : M) (was now : K) (before after : List ℕ) (line : List ℕ) : Type 0 where
    pub turns : List Turn
    pub lines : lines_in turns ≡ given (line ∷ [])
    pub answered : IsAnswered old new was now before after turns

  pub record IsTaken (old new : M) (was now : K) (before after : List ℕ) (begun bytes left : List ℕ) : Type 0 where
    pub turns : List Turn
    pub cut : IsCutInto begun bytes left (lines_in turns)
    pub answered : IsAnswered old new was now before after turns

  pub record IsTakenInPart (old new : M) (was : K) (before : List ℕ) (are_first : List (List ℕ) → Type 0) : Type 0 where
    pub turns : List Turn
    pub tried : List Turn
    pub front : are_first (lines_in turns ++ lines_in tried)
    pub stopped : IsStopped old new was before turns tried
