-- A session's end, by what its passes had seen before and have seen then.
--     AreTaken f g ts          a clock that had the readings f to come gave the readings ts, and has g to come
--     IsEnded v .. es c        a session of the server was served over a link with this list, and ended for this cause: the marks that were
--                              added are those of its answers, each shard was looked at before each poll, and the readings are the clock's
use Rattle.std.specs.Prelude.{◌≡◌, ◌<◌, ◌≤◌, ◌+◌, ℕ, Bool, IsTrue, List, length, slice_get, Some}
use Rattle.wave_outside.specs.declared.link.LinkEvent.{LinkEvent}
use Rattle.turn_cells.specs.declared.cells.Passes.{Passes}
use Rattle.turn_cells.specs.Cells.{added_at, loads_at}
use Rattle.shard_marks.specs.declared.mark.Mark.{Mark}
use Rattle.shard_marks.specs.Passes.{marks_of}
use Rattle.shard_marks.specs.Servers.{ServerOf}
use Rattle.session_steps.specs.declared.end.EndCause.{EndCause}
use Rattle.session_steps.specs.Served.{IsOver, poll_count, total}

pub record AreTaken (before after : ℕ → ℕ) (readings : List ℕ) : Type 0 where
  pub each : (i t : ℕ) → slice_get readings i ≡ Some t → t ≡ before i
  pub rest : (i : ℕ) → after i ≡ before (length readings + i)

pub record IsEnded {T : Type 0} (v : ServerOf) (ps qs : Passes T Mark) (clock_tells : Bool) (before after : ℕ → ℕ) (es : List LinkEvent)
    (c : EndCause) : Type 0 where
  pub readings : List ℕ
  pub added : ℕ
  pub over : IsOver v (marks_of qs) (λ k. length (marks_of ps k)) es readings added c
  pub gained : total 16 (added_at qs) ≡ total 16 (added_at ps) + added
  pub looked : (k : ℕ) → k < 16 → loads_at ps k + poll_count es ≤ loads_at qs k
  pub read : IsTrue clock_tells → AreTaken before after readings
