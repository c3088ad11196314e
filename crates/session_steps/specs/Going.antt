-- A session on its way, as its loop keeps it.
--     Origin               the start: the length of what was seen of each shard, the clock's readings to come, the marks that were added
--     Grow ms ns           each shard's marks begin the later ones
--     reading_list o       the reading that a step has, or none
--     reply_frames m       the text of the reply that a message has, or none
--     HaveLooked .. es     each shard's length was looked at as often as the link was polled, at least
--     IsReaching .. s      the session serves, and the passes have seen each of its looks
--     HasWorked .. s m     what a message asked for was done: the session then, and the reply, if it has one
--     IsUnasked ts         a message was read, and at most the clock was, too
--     Since o .. P         P holds of all readings and marks since the start
--     GoesOn, HasBroken, HasEnded     the same of a session between two turns, one that broke off, and one that ended with a cause
--     HasReplied, HasHalted           the same of one call that replied to a message, and of one that gave no reply
use Rattle.std.specs.Prelude.{◌≡◌, ◌⊎◌, ◌<◌, ◌≤◌, ◌+◌, ℕ, Bool, IsTrue, List, [], ◌∷◌, length, Option, Some, None}
use mathlib.Core.List.{IsPrefix}
use Rattle.message_json.specs.declared.message.Message.{Message}
use Rattle.session_core.specs.declared.request.Request.{Request}
use Rattle.session_core.specs.declared.session.Session.{Session}
use Rattle.turn_cells.specs.declared.cells.Passes.{Passes}
use Rattle.turn_cells.specs.Cells.{added_at}
use Rattle.wave_outside.specs.declared.clock.Clock as clock_of
use Rattle.wave_outside.specs.declared.link.Link as link_of
use Rattle.wave_outside.specs.declared.link.LinkEvent.{LinkEvent}
use Rattle.shard_marks.specs.declared.look.Look.{Look}
use Rattle.shard_marks.specs.declared.mark.Mark.{Mark}
use Rattle.shard_marks.specs.Frames.{frame_of}
use Rattle.shard_marks.specs.Passes.{marks_of}
use Rattle.shard_marks.specs.Servers.{ServerOf}
use Rattle.session_steps.specs.declared.end.EndCause.{EndCause}
use Rattle.session_steps.specs.declared.step.LinkStep.{LinkStep}
use Rattle.session_steps.specs.Jobs.{AreTaken}
use Rattle.session_steps.specs.Steps.{last_length, Work, IsAsked}
use Rattle.session_steps.specs.Served.{IsServing, IsBroken, IsOver, total, poll_count}

pub record Origin : Type 0 where
  pub begun : ℕ → ℕ
  pub readings : ℕ → ℕ
  pub added : ℕ

abbrev pub Grow : (ℕ → List Mark) → (ℕ → List Mark) → Type 0
Grow marks now = (k : ℕ) → IsPrefix (marks k) (now k)

-- ---- readings

abbrev pub reading_list : Option ℕ → List ℕ
reading_list None = []
reading_list (Some t) = t ∷ []

-- ---- replies

abbrev pub reply_frames : Option Message → List (List ℕ)
reply_frames None = []
reply_frames (Some m) = frame_of m ∷ []

-- ---- looks

-- by the looks at the lengths before and after, and the links' lists
abbrev pub HaveLooked : (ℕ → ℕ) → List LinkEvent → (ℕ → ℕ) → List LinkEvent → Type 0
HaveLooked loads es now fs = (k : ℕ) → k < 16 → loads k + poll_count fs ≤ now k + poll_count es

-- ---- sessions

pub record IsReaching (v : ServerOf) (marks : ℕ → List Mark) (begun : ℕ → ℕ) (es : List LinkEvent) (s : Session) (read : List ℕ)
    (gained : ℕ) : Type 0 where
  pub serving : IsServing v marks begun es s read gained
  pub reached : (k : ℕ) → last_length begun k serving.steps ≤ length (marks k)

pub record HasWorked (v : ServerOf) (marks now : ℕ → List Mark) (asked : Session × Request) (read : List ℕ) (gained : ℕ) (s : Session)
    (m : Option Message) : Type 0 where
  pub look : Option Look
  pub reading : Option ℕ
  pub work : Work
  pub reading_is : read ≡ reading_list reading
  pub done : (begun : ℕ → ℕ) (ss : List LinkStep) → ((k : ℕ) → last_length begun k ss ≤ length (marks k))
      → IsAsked v now begun ss asked look reading work
  pub within : (l : Look) → look ≡ Some l → l.length ≤ length (now l.shard)
  pub session : work.session ≡ s
  pub frames : work.frames ≡ reply_frames m
  pub added : work.added ≡ gained

abbrev pub IsUnasked : List ℕ → ℕ → Type 0
IsUnasked read gained = (length read ≤ 1) × (gained ≡ 0)

pub record Since (o : Origin) (is_told : Bool) (readings : ℕ → ℕ) (added : ℕ) (P : List ℕ → ℕ → Type 0) : Type 0 where
  pub read : List ℕ
  pub gained : ℕ
  pub timed : IsTrue is_told → AreTaken o.readings readings read
  pub counted : added ≡ o.added + gained
  pub is : P read gained

-- ---- as calls have them

module _ {T K : Type 0} (clock : clock_of.Ghosts K) where
  abbrev pub BySince : Origin → Passes T Mark → K → (List ℕ → ℕ → Type 0) → Type 0
  BySince o ps c P = Since o clock.tells (clock.readings c) (total 16 (λ k. added_at ps k)) P

  abbrev pub origin_of : Passes T Mark → K → Origin
  origin_of ps c = record { begun = λ k. length (marks_of ps k); readings = clock.readings c; added = total 16 (λ k. added_at ps k) }

  abbrev pub HasReplied : ServerOf → Passes T Mark → Passes T Mark → K → K → Session × Request → Session → Option Message → Type 0
  HasReplied v ps qs c e asked s m = BySince (origin_of ps c) qs e
      (λ read gained. HasWorked v (marks_of ps) (marks_of qs) asked read gained s m)

  abbrev pub HasHalted : ServerOf → Passes T Mark → Passes T Mark → K → K → Session × Request → Type 0
  HasHalted v ps qs c e asked = BySince (origin_of ps c) qs e
      (λ read gained. IsUnasked read gained ⊎
      ((s : Session) × ((m : Option Message) × HasWorked v (marks_of ps) (marks_of qs) asked read gained s m)))

  module _ {L : Type 0} (link : link_of.Ghosts L) where
    abbrev pub GoesOn : Origin → ServerOf → Passes T Mark → L → K → Session → Type 0
    GoesOn o v ps l c s = IsTrue link.tells
        → BySince o ps c (λ read gained. IsReaching v (marks_of ps) o.begun (link.events l) s read gained)

    abbrev pub HasBroken : Origin → ServerOf → Passes T Mark → L → K → Type 0
    HasBroken o v ps l c = IsTrue link.tells → BySince o ps c (λ read gained. IsBroken v (marks_of ps) o.begun (link.events l) read gained)

    abbrev pub HasEnded : Origin → ServerOf → Passes T Mark → L → K → EndCause → Type 0
    HasEnded o v ps l c cause = IsTrue link.tells
        → BySince o ps c (λ read gained. IsOver v (marks_of ps) o.begun (link.events l) read gained cause)
