-- A run on its way, as its loops keep it.
--     Origin                what the link's list and the sink had at the start, and the run that begins there
--     IsOn o f m ls es h    the steps lead to the run that f makes of one with this machine; these lines were read, and all of it was sent
--                           and printed
--     IsOff o ls es h       they lead to one of which a front was sent and printed; of these lines all were read, or all but the last ones
--     Looked                what one look at the link gave
--     IsLooked m n .. l     what one look made of the machine, the link's list and the sink
--     IsUnheard m .. es h   a look at which the run ended: nothing came, or a front of the reply was sent and printed
--     IsFed, IsReading, IsFedAs   bytes of lines were read: where the run has ended, while it goes on, and as a mood says
--     IsStopped o bs es h   it ended among the lines of these bytes
use Rattle.std.specs.Prelude.{◌≡◌, ◌⊎◌, ℕ, Bool, IsTrue, List, [], ◌∷◌, ◌++◌, Option}
use Rattle.std.specs.Io.KnownBytes.{Appends}
use mathlib.Core.List.{IsPrefix}
use Rattle.wave_outside.specs.declared.link.LinkEvent.{LinkEvent}
use Rattle.wave_outside.specs.declared.link.LinkEvent.TheVariants.{Received, Idle, Ended}
use Rattle.client_session.specs.Answers.{printed}
use Rattle.client_session.specs.Machine.{MachineOf}
use Rattle.client_terminal.specs.Inputs.{input_lines, IsRead}
use Rattle.client_terminal.specs.Runs as phase
use Rattle.client_terminal.specs.Runs.{Step, RunOf, Reading, Left, in_phase, sends, reply_of, IsWalk, lines_in}
use Rattle.client_terminal.specs.declared.mood.Looked.{Looked}
use Rattle.client_terminal.specs.declared.mood.Looked.TheVariants.{Message, Nothing, Closed}
use Rattle.client_terminal.specs.declared.mood.Mood.{Mood}
use Rattle.client_terminal.specs.declared.mood.Mood.TheVariants as mood

pub record Origin : Type 0 where
  pub events : List LinkEvent
  pub held : Option (List ℕ)
  pub run : RunOf

-- a front of this text was written
abbrev pub IsWrittenInPart : (held0 held1 : Option (List ℕ)) → List ℕ → Type 0
IsWrittenInPart held0 held1 text = (part : List ℕ) × Appends held0 held1 part × IsPrefix part text

module _ (tells : Bool) where
  pub record IsOn (o : Origin) (f : RunOf → RunOf) (m : MachineOf) (ls : List (List ℕ)) (es : List LinkEvent)
      (held : Option (List ℕ)) : Type 0 where
    pub steps : List Step
    pub run : RunOf
    pub walk : IsWalk o.run steps (f run)
    pub machine : run.machine ≡ m
    pub lines : lines_in steps ≡ ls
    pub events : IsTrue tells → es ≡ o.events ++ run.events
    pub printed : Appends o.held held run.text

  pub record IsOff (o : Origin) (ls : List (List ℕ)) (es : List LinkEvent) (held : Option (List ℕ)) : Type 0 where
    pub steps : List Step
    pub run : RunOf
    pub walk : IsWalk o.run steps run
    pub lines : IsPrefix (lines_in steps) ls
    pub events : IsTrue tells → IsPrefix es (o.events ++ run.events)
    pub printed : IsWrittenInPart o.held held run.text

  -- ---- one look

  pub record IsHeard (m n : MachineOf) (es fs : List LinkEvent) (held0 held1 : Option (List ℕ)) : Type 0 where
    pub bytes : List ℕ
    pub machine : n ≡ (reply_of m bytes).0
    pub events : IsTrue tells → fs ≡ (es ++ Received bytes ∷ []) ++ sends (reply_of m bytes).1.send
    pub printed : Appends held0 held1 (printed (reply_of m bytes).1)

  pub record IsUnmoved (e : LinkEvent) (m n : MachineOf) (es fs : List LinkEvent) (held0 held1 : Option (List ℕ)) : Type 0 where
    pub machine : n ≡ m
    pub events : IsTrue tells → fs ≡ es ++ e ∷ []
    pub held : held1 ≡ held0

  abbrev pub IsLooked : MachineOf → MachineOf → List LinkEvent → List LinkEvent → Option (List ℕ) → Option (List ℕ) → Looked → Type 0
  IsLooked m n es fs held0 held1 Message = IsHeard m n es fs held0 held1
  IsLooked m n es fs held0 held1 Nothing = IsUnmoved Idle m n es fs held0 held1
  IsLooked m n es fs held0 held1 Closed = IsUnmoved Ended m n es fs held0 held1

  pub record IsHalfHeard (m : MachineOf) (es fs : List LinkEvent) (held0 held1 : Option (List ℕ)) : Type 0 where
    pub bytes : List ℕ
    pub events : IsTrue tells → IsPrefix fs ((es ++ Received bytes ∷ []) ++ sends (reply_of m bytes).1.send)
    pub printed : IsWrittenInPart held0 held1 (printed (reply_of m bytes).1)

  pub record IsUnlooked (es fs : List LinkEvent) (held0 held1 : Option (List ℕ)) : Type 0 where
    pub events : IsTrue tells → fs ≡ es
    pub held : held1 ≡ held0

  abbrev pub IsUnheard : MachineOf → List LinkEvent → List LinkEvent → Option (List ℕ) → Option (List ℕ) → Type 0
  IsUnheard m es fs held0 held1 = IsUnlooked es fs held0 held1 ⊎ IsHalfHeard m es fs held0 held1

  -- ---- bytes of lines

  -- these bytes were read, and all lines that ended in them obeyed, as far as the run goes
  pub record IsFed (o : Origin) (f : RunOf → RunOf) (m : MachineOf) (read : List ℕ) (es : List LinkEvent)
      (held : Option (List ℕ)) : Type 0 where
    pub lines : List (List ℕ)
    pub on : IsOn o f m lines es held
    pub front : (rest : List ℕ) → IsPrefix lines (input_lines (read ++ rest))

  -- these bytes were read and the run goes on, with this line open
  pub record IsReading (o : Origin) (m : MachineOf) (read line : List ℕ) (es : List LinkEvent) (held : Option (List ℕ)) : Type 0 where
    pub lines : List (List ℕ)
    pub on : IsOn o (in_phase Reading) m lines es held
    pub reading : IsRead read lines line

  abbrev pub IsFedAs : Origin → Mood → MachineOf → List ℕ → List ℕ → List LinkEvent → Option (List ℕ) → Type 0
  IsFedAs o mood.Reading m read line es held = IsReading o m read line es held
  IsFedAs o mood.Left m read line es held = IsFed o (in_phase Left) m read es held
  IsFedAs o mood.Closed m read line es held = IsFed o (in_phase phase.Closed) m read es held

  -- the run stopped among the lines of these bytes and others after them
  abbrev pub IsStopped : Origin → List ℕ → List LinkEvent → Option (List ℕ) → Type 0
  IsStopped o read es held = (rest : List ℕ) → IsOff o (input_lines (read ++ rest)) es held
