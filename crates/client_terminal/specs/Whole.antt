-- A run, whole.
--     IsEditStatus n     the statuses: done; the source failed; the sink failed; the link failed; out of memory; the byte limit; the server
--                        closed the link
--     stop_status e      the status of each stop
--     IsWholeStatus n    at which all that the run did was sent and printed
--     IsStopStatus n     at which it ended among the lines of the bytes that it had read: a failure, or the server's close
--     IsRunAs o ..       what a run from an origin with this status read, sent and printed
--     origin_of u k ..   the origin of a run of this user and key
use Rattle.std.specs.Prelude.{◌≡◌, ◌⊎◌, ℕ, ◌≤◌, Bool, IsTrue, List, [], ◌++◌, length, Option}
use Rattle.std.specs.Io.KnownBytes.{Appends, Consumes, IsAtEnd}
use mathlib.Core.List.{IsPrefix}
use Rattle.doc_items.specs.Maps.{Key}
use Rattle.line_loop.specs.Run.{byte_limit}
use Rattle.wave_outside.specs.declared.link.LinkEvent.{LinkEvent}
use Rattle.client_terminal.specs.Going.{Origin}
use Rattle.client_terminal.specs.Inputs.{ended_by, input_lines}
use Rattle.client_terminal.specs.Runs.{Step, RunOf, Reading, Left, Closed, begun, IsWalk, lines_in}
use Rattle.client_terminal.specs.declared.stop.Stop.{Stop}
use Rattle.client_terminal.specs.declared.stop.Stop.TheVariants.{Source, Sink, Link, Memory}

abbrev pub IsEditStatus : ℕ → Type 0
IsEditStatus n = (n ≡ 0) ⊎ ((n ≡ 3) ⊎ ((n ≡ 4) ⊎ ((n ≡ 7) ⊎ ((n ≡ 8) ⊎ ((n ≡ 10) ⊎ (n ≡ 11))))))

abbrev pub stop_status : Stop → ℕ
stop_status Source = 3
stop_status Sink = 4
stop_status Link = 7
stop_status Memory = 8

abbrev pub IsWholeStatus : ℕ → Type 0
IsWholeStatus n = (n ≡ 0) ⊎ ((n ≡ 3) ⊎ ((n ≡ 10) ⊎ (n ≡ 11)))

abbrev pub IsStopStatus : ℕ → Type 0
IsStopStatus n = (n ≡ 4) ⊎ ((n ≡ 7) ⊎ ((n ≡ 8) ⊎ (n ≡ 11)))

-- the link's list, what the source has left and what the sink holds, before (in the origin) and after
pub record IsRunAs (tells : Bool) (o : Origin) (es : List LinkEvent) (left0 left1 held : Option (List ℕ)) (status : ℕ) : Type 0 where
  pub steps : List Step
  pub run : RunOf
  pub walk : IsWalk o.run steps run
  pub read : List ℕ
  pub consumed : Consumes left0 left1 read
  pub bound : length read ≤ byte_limit
  pub lines : IsPrefix (lines_in steps) (input_lines read)
  pub text : List ℕ
  pub appended : Appends o.held held text
  pub front : IsPrefix text run.text
  pub sent : IsTrue tells → IsPrefix es (o.events ++ run.events)
  -- what each status says
  pub whole : IsWholeStatus status → (text ≡ run.text) × (IsTrue tells → es ≡ o.events ++ run.events)
  pub done : status ≡ 0 → (run.phase ≡ Left) ⊎ (IsAtEnd left1 × ((run.phase ≡ Reading) × (lines_in steps ≡ input_lines read)))
  pub ended : (status ≡ 3) ⊎ (status ≡ 10) → (run.phase ≡ Reading) × (lines_in steps ≡ ended_by [] read)
  pub closed : status ≡ 11 → run.phase ≡ Closed
  pub limit : status ≡ 10 → length read ≡ byte_limit
  pub at_limit : length read ≡ byte_limit → (status ≡ 10) ⊎ ((run.phase ≡ Left) ⊎ IsStopStatus status)

abbrev pub origin_of : Key → ℕ → List LinkEvent → Option (List ℕ) → Origin
origin_of user client es held = record { events = es; held = held; run = begun user client }
