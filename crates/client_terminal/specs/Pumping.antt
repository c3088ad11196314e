-- One read of bytes.
--     pumped_as d n, ended_as d     what a mood comes to after so many bytes, and at the end of the input
--     pumped_closed p               the server closed the link
--     IsOfRoom n p                  where the run goes on, it read some bytes, at most so many
--     IsOver                        the run has ended among the lines of the bytes that were read
--     IsMore                        it goes on
--     IsPumped o n p ..             a read of at most so many bytes, by what it came to
--     IsCut o n e ..                one at which the run stopped
use Rattle.std.specs.Prelude.{◌≡◌, ⊤, ℕ, ◌<◌, ◌≤◌, Bool, true, false, List, [], ◌++◌, length, Option}
use Rattle.std.specs.Io.KnownBytes.{Consumes, IsAtEnd}
use mathlib.Core.List.{IsPrefix}
use Rattle.wave_outside.specs.declared.link.LinkEvent.{LinkEvent}
use Rattle.client_session.specs.Machine.{MachineOf}
use Rattle.client_terminal.specs.Going.{Origin, IsOn, IsOff, IsReading}
use Rattle.client_terminal.specs.Inputs.{input_lines}
use Rattle.client_terminal.specs.Runs.{RunOf, Reading, in_phase}
use Rattle.client_terminal.specs.Runs as phase
use Rattle.client_terminal.specs.declared.mood.Mood.{Mood}
use Rattle.client_terminal.specs.declared.mood.Mood.TheVariants as mood
use Rattle.client_terminal.specs.declared.mood.Pumped.{Pumped}
use Rattle.client_terminal.specs.declared.mood.Pumped.TheVariants.{Read, Left, Closed, Ended}
use Rattle.client_terminal.specs.declared.stop.Stop.{Stop}
use Rattle.client_terminal.specs.declared.stop.Stop.TheVariants.{Source}

abbrev pub pumped_as : Mood → ℕ → Pumped
pumped_as mood.Reading n = Read n
pumped_as mood.Left n = Left
pumped_as mood.Closed n = Closed

abbrev pub ended_as : Mood → Pumped
ended_as mood.Reading = Ended
ended_as mood.Left = Left
ended_as mood.Closed = Closed

abbrev pub pumped_closed : Pumped → Bool
pumped_closed (Read n) = false
pumped_closed Left = false
pumped_closed Closed = true
pumped_closed Ended = false

abbrev pub IsOfRoom : ℕ → Pumped → Type 0
IsOfRoom room (Read n) = (0 < n) × (n ≤ room)
IsOfRoom room Left = ⊤
IsOfRoom room Closed = ⊤
IsOfRoom room Ended = ⊤

module _ (tells : Bool) (o : Origin) where
  pub record IsOver (room : ℕ) (f : RunOf → RunOf) (m : MachineOf) (read : List ℕ) (left0 left1 : Option (List ℕ)) (es : List LinkEvent)
      (held : Option (List ℕ)) : Type 0 where
    pub bytes : List ℕ
    pub consumed : Consumes left0 left1 bytes
    pub small : length bytes ≤ room
    pub lines : List (List ℕ)
    pub on : IsOn tells o f m lines es held
    pub front : IsPrefix lines (input_lines (read ++ bytes))

  pub record IsMore (count : ℕ) (m : MachineOf) (read line : List ℕ) (left0 left1 : Option (List ℕ)) (es : List LinkEvent)
      (held : Option (List ℕ)) : Type 0 where
    pub bytes : List ℕ
    pub consumed : Consumes left0 left1 bytes
    pub len : length bytes ≡ count
    pub reading : IsReading tells o m (read ++ bytes) line es held

  pub record IsEnded (m : MachineOf) (read : List ℕ) (left0 left1 : Option (List ℕ)) (es : List LinkEvent)
      (held : Option (List ℕ)) : Type 0 where
    pub consumed : Consumes left0 left1 []
    pub end : IsAtEnd left1
    pub on : IsOn tells o (in_phase Reading) m (input_lines read) es held

  abbrev pub IsPumped : ℕ → Pumped → MachineOf → List ℕ → List ℕ → Option (List ℕ) → Option (List ℕ) → List LinkEvent → Option (List ℕ)
      → Type 0
  IsPumped room (Read n) m read line left0 left1 es held = IsMore n m read line left0 left1 es held
  IsPumped room Left m read line left0 left1 es held = IsOver room (in_phase phase.Left) m read left0 left1 es held
  IsPumped room Closed m read line left0 left1 es held = IsOver room (in_phase phase.Closed) m read left0 left1 es held
  IsPumped room Ended m read line left0 left1 es held = IsEnded m read left0 left1 es held

  pub record IsCut (room : ℕ) (e : Stop) (m : MachineOf) (read line : List ℕ) (left0 left1 : Option (List ℕ)) (es : List LinkEvent)
      (held : Option (List ℕ)) : Type 0 where
    pub bytes : List ℕ
    pub consumed : Consumes left0 left1 bytes
    pub small : length bytes ≤ room
    pub off : IsOff tells o (input_lines (read ++ bytes)) es held
    pub unread : e ≡ Source → (bytes ≡ []) × IsReading tells o m read line es held
