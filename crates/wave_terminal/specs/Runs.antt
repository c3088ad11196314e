-- A run of commands, from a source to a sink.
--     status_of r         the exit status of a run with this result
--     IsCommandStatus s   the exit statuses: done; the source failed; the sink failed; out of memory; the byte limit
--     max_read            the most bytes of one read
--     course_of s b       a machine in this state, with the line that has begun
--     IsAwake             no line had ended the run before its last read
--     IsObeyed            what a run that ended with a status read and printed
--     IsPumped, IsCut     one read of it, and one at which it ended
--     IsMovedOn           bytes that waited, and those that still do: the others were written
--     IsFed, IsFedInPart  what bytes print was written, or a front of it
use Rattle.std.specs.Prelude.{◌≡◌, ℕ, ◌<◌, ◌≤◌, ◌⊎◌, true, false, List, [], ◌++◌, length, Option, Result, Ok, Err, ⊤}
use Rattle.std.specs.Io.KnownBytes.{Appends, Consumes, IsAtEnd}
use Rattle.line_loop.specs.Lines.{IsPrefix}
use Rattle.line_loop.specs.Run.{byte_limit}
use Rattle.wave_terminal.specs.Machines.{Machine, Course, begun, after, text, last_text, whole_text}
use Rattle.wave_terminal.specs.declared.begun.Begun.{Begun}
use Rattle.wave_terminal.specs.declared.stop.Stop.{Stop}
use Rattle.wave_terminal.specs.declared.stop.Stop.TheVariants.{Source, Sink, Memory, Limit}

abbrev pub IsCommandStatus : ℕ → Type 0
IsCommandStatus s = (s ≡ 0) ⊎ ((s ≡ 3) ⊎ ((s ≡ 4) ⊎ ((s ≡ 8) ⊎ (s ≡ 10))))

abbrev pub stop_status : Stop → ℕ
stop_status Source = 3
stop_status Sink = 4
stop_status Memory = 8
stop_status Limit = 10

abbrev pub status_of : Result ⊤ Stop → ℕ
status_of (Ok done) = 0
status_of (Err e) = stop_status e

abbrev pub course_of : {S : Type 0} → S → Begun → Course S
course_of s b = record { state = s; line = b.line.items; quit = b.quit }

abbrev pub max_read : ℕ
max_read = 65536

abbrev pub IsMovedOn : (held0 held1 : Option (List ℕ)) (before after : List ℕ) → Type 0
IsMovedOn held0 held1 before after = (written : List ℕ) × Appends held0 held1 written × (written ++ after ≡ before)

module _ {S : Type 0} (m : Machine S) where
  -- bytes that were read from a state on
  pub record IsAwake (s : S) (read : List ℕ) : Type 0 where
    pub before : List ℕ
    pub last : List ℕ
    pub parts : read ≡ before ++ last
    pub awake : (after m (begun s) before).quit ≡ false
    pub small : length last ≤ max_read

  -- from a state on; the bytes that the source has left and that the sink holds, where they tell them: before and after
  pub record IsObeyed (s : S) (left0 left1 held0 held1 : Option (List ℕ)) (status : ℕ) : Type 0 where
    pub read : List ℕ
    pub written : List ℕ
    pub consumed : Consumes left0 left1 read
    pub appended : Appends held0 held1 written
    pub bound : length read ≤ byte_limit
    pub awake : IsAwake s read
    pub front : IsPrefix written (whole_text m (begun s) read)
    -- what each status says
    pub known : IsCommandStatus status
    pub done : status ≡ 0 → (IsAtEnd left1 ⊎ ((after m (begun s) read).quit ≡ true)) × (written ≡ whole_text m (begun s) read)
    pub ended : (status ≡ 3) ⊎ (status ≡ 10) → written ≡ text m (begun s) read
    pub short : status ≡ 4 → length written < length (whole_text m (begun s) read)
    pub limit : status ≡ 10 → length read ≡ byte_limit
    pub at_limit : length read ≡ byte_limit → ((after m (begun s) read).quit ≡ true) ⊎ ((status ≡ 10) ⊎ ((status ≡ 4) ⊎ (status ≡ 8)))

  -- one read of bytes, whose lines were answered; with none read it is the last
  pub record IsPumped (p q : Course S) (left0 left1 held0 held1 : Option (List ℕ)) (got : ℕ) : Type 0 where
    pub read : List ℕ
    pub written : List ℕ
    pub consumed : Consumes left0 left1 read
    pub appended : Appends held0 held1 written
    pub len : length read ≡ got
    pub goes : 0 < got → q ≡ after m p read
    pub told : 0 < got → written ≡ text m p read
    pub last : got ≡ 0 → written ≡ last_text m p
    pub end : got ≡ 0 → IsAtEnd left1

  -- one at which the run ended: nothing was read if the source failed, and else a front of the answers was written
  pub record IsCut (p : Course S) (room : ℕ) (left0 left1 held0 held1 : Option (List ℕ)) (e : Stop) : Type 0 where
    pub read : List ℕ
    pub written : List ℕ
    pub consumed : Consumes left0 left1 read
    pub appended : Appends held0 held1 written
    pub small : length read ≤ room
    pub front : IsPrefix written (whole_text m p read)
    pub unread : e ≡ Source → (read ≡ []) × (written ≡ [])
    pub short : e ≡ Sink → length written < length (whole_text m p read)
    pub never : e ≡ Limit → ⊥

  -- these bytes were taken, and what the lines print that end in them was written; with no bytes, what the open line prints
  pub record IsFed (p q : Course S) (held0 held1 : Option (List ℕ)) (bytes : List ℕ) : Type 0 where
    pub written : List ℕ
    pub appended : Appends held0 held1 written
    pub goes : 0 < length bytes → q ≡ after m p bytes
    pub told : 0 < length bytes → written ≡ text m p bytes
    pub last : length bytes ≡ 0 → written ≡ last_text m p

  -- the sink failed, or memory ran out
  pub record IsFedInPart (p : Course S) (held0 held1 : Option (List ℕ)) (bytes : List ℕ) (e : Stop) : Type 0 where
    pub written : List ℕ
    pub appended : Appends held0 held1 written
    pub front : IsPrefix written (whole_text m p bytes)
    pub short : e ≡ Sink → length written < length (whole_text m p bytes)
    pub cause : (e ≡ Sink) ⊎ (e ≡ Memory)
