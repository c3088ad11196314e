-- What one step makes of a session.
--     LinkStep            as it is declared: a message was read, at a look and with a reading where it asks for them; or news was sent
--     looks_of st         the look of a step, where it has one
--     last_length b k ss  the length of the latest look at a shard: of the steps, the newest first, else what was seen of it at the start
--     Progress            what a session has come to: who it is now, what it received and sent, the clock's readings that it took, and how
--                         many marks were added for it
--     start v             at the start
--     IsAt .. l k cut     a look at the shard, at a moment not before the latest one there, with the marks that were there then
--     Work                what a step does: the session then, the texts that are sent, and how many marks were added
--     IsAsked .. r l t w  the work for what a message asked for, with the look and the reading that the step has: a reply, by IsReplied; an
--                         `open`, by IsOpened; a submission, by IsSubmitted; and what a peer has, by IsNoted
--     IsNews s l w        the work of sending what is new at a look, which may be nothing
--     IsStep .. st a b    what a step makes of the progress: a message was read, by IsRead, or news was sent, by IsDelivered
use Rattle.std.specs.Prelude.{◌≡◌, ◌<◌, ◌≤◌, ◌+◌, ℕ, nat_eq, cond, List, [], ◌∷◌, ◌++◌, Option, Some, None}
use Rattle.doc_items.specs.Maps.{Key}
use Rattle.wave_base.specs.Versions.{VersionAt}
use Rattle.wavelet_op.specs.declared.delta.Submission.{Submission}
use Rattle.message_json.specs.declared.message.Message.{Message}
use Rattle.session_core.specs.declared.session.Session.{Session}
use Rattle.session_core.specs.declared.request.Request.{Request}
use Rattle.session_core.specs.declared.request.Request.TheVariants as ask
use Rattle.session_core.specs.declared.request.SubmitAnswer.{SubmitAnswer}
use Rattle.session_core.specs.declared.request.SubmitAnswer.TheVariants.{Store}
use Rattle.session_core.specs.Answers.{attached, answered, had}
use Rattle.session_core.specs.Deliveries.{delivered, after_delivery}
use Rattle.session_core.specs.Rules.{fresh, taken_bytes}
use Rattle.wavelet_shelf.specs.FileNames.{shard_of}
use Rattle.shard_marks.specs.declared.look.Look.{Look}
use Rattle.shard_marks.specs.declared.mark.Mark.{Mark}
use Rattle.shard_marks.specs.Answers.{IsAnswer}
use Rattle.shard_marks.specs.Frames.{frame_of, frames_of}
use Rattle.shard_marks.specs.Looks.{IsCut}
use Rattle.shard_marks.specs.Marks.{shown_at}
use Rattle.shard_marks.specs.Servers.{ServerOf}
use Rattle.session_steps.specs.declared.step.LinkStep.{LinkStep}
use Rattle.session_steps.specs.declared.step.LinkStep.TheVariants.{Read, Delivered}

-- ---- looks

abbrev pub looks_of : LinkStep → Option Look
looks_of (Read look reading) = look
looks_of (Delivered look) = Some look

abbrev pub length_at : ℕ → Option Look → ℕ → ℕ
length_at k None n = n
length_at k (Some l) n = cond (nat_eq l.shard k) l.length n

abbrev pub last_length : (ℕ → ℕ) → ℕ → List LinkStep → ℕ
last_length begun k [] = begun k
last_length begun k (st ∷ ss) = length_at k (looks_of st) (last_length begun k ss)

-- ---- progress

pub record Progress : Type 0 where
  pub session : Session
  pub received : List (List ℕ)
  pub sent : List (List ℕ)
  pub readings : List ℕ
  pub added : ℕ

abbrev pub start : ServerOf → Progress
start v = record { session = fresh (Some v.domain) v.peers; received = []; sent = []; readings = []; added = 0 }

pub record Work : Type 0 where
  pub session : Session
  pub frames : List (List ℕ)
  pub added : ℕ

module _ (v : ServerOf) (marks : ℕ → List Mark) (begun : ℕ → ℕ) (ss : List LinkStep) where
  pub record IsAt (k : ℕ) (l : Look) (cut : List Mark) : Type 0 where
    pub shard : l.shard ≡ k
    pub cut_is : IsCut marks l cut
    pub later : last_length begun k ss ≤ l.length

  -- ---- replies, by what was asked for

  pub record IsOpened (s : Session) (name : Key) (from : Option VersionAt) (look : Option Look) (reading : Option ℕ)
      (w : Work) : Type 0 where
    pub at : Look
    pub cut : List Mark
    pub message : Message
    pub is_look : look ≡ Some at
    pub unread : reading ≡ None
    pub moment : IsAt (shard_of name) at cut
    pub reply : (w.session, message) ≡ attached (shown_at v.domain (shard_of name) cut) s name from
    pub frames : w.frames ≡ frame_of message ∷ []
    pub added : w.added ≡ 0

  pub record IsSubmitted (s : Session) (name : Key) (submission : Submission) (look : Option Look) (reading : Option ℕ)
      (w : Work) : Type 0 where
    pub at : Look
    pub cut : List Mark
    pub time : ℕ
    pub answer : SubmitAnswer
    pub message : Message
    pub is_look : look ≡ Some at
    pub is_read : reading ≡ Some time
    pub moment : IsAt (shard_of name) at cut
    pub judged : IsAnswer v (shard_of name) cut name submission time answer w.added
    pub fresh_fault : answer ≡ Store → last_length begun (shard_of name) ss < at.length
    pub reply : (w.session, message) ≡ answered s name submission.id answer
    pub frames : w.frames ≡ frame_of message ∷ []

  pub record IsNoted (s : Session) (name : Key) (from : VersionAt) (look : Option Look) (reading : Option ℕ) (w : Work) : Type 0 where
    pub at : Look
    pub cut : List Mark
    pub is_look : look ≡ Some at
    pub unread : reading ≡ None
    pub moment : IsAt (shard_of name) at cut
    pub session : w.session ≡ had (shown_at v.domain (shard_of name) cut) s name from
    pub frames : w.frames ≡ []
    pub added : w.added ≡ 0

  pub record IsReplied (s : Session) (m : Message) (look : Option Look) (reading : Option ℕ) (w : Work) : Type 0 where
    pub unlooked : look ≡ None
    pub unread : reading ≡ None
    pub session : w.session ≡ s
    pub frames : w.frames ≡ frame_of m ∷ []
    pub added : w.added ≡ 0

  abbrev pub IsAsked : Session × Request → Option Look → Option ℕ → Work → Type 0
  IsAsked (s, ask.Reply m) look reading w = IsReplied s m look reading w
  IsAsked (s, ask.Attach name from) look reading w = IsOpened s name from look reading w
  IsAsked (s, ask.Submit name submission) look reading w = IsSubmitted s name submission look reading w
  IsAsked (s, ask.Have name from) look reading w = IsNoted s name from look reading w

  -- ---- news

  pub record IsNews (s : Session) (look : Look) (w : Work) : Type 0 where
    pub cut : List Mark
    pub moment : IsAt look.shard look cut
    pub session : w.session ≡ after_delivery (shown_at v.domain look.shard cut) s
    pub frames : w.frames ≡ frames_of (delivered (shown_at v.domain look.shard cut) s)
    pub added : w.added ≡ 0

  -- ---- steps

  abbrev pub reading_of : Option ℕ → List ℕ
  reading_of None = []
  reading_of (Some t) = t ∷ []

  pub record IsRead (look : Option Look) (reading : Option ℕ) (a b : Progress) : Type 0 where
    pub bytes : List ℕ
    pub work : Work
    pub asked : IsAsked (taken_bytes a.session bytes) look reading work
    pub session : b.session ≡ work.session
    pub received : b.received ≡ a.received ++ bytes ∷ []
    pub sent : b.sent ≡ a.sent ++ work.frames
    pub readings : b.readings ≡ a.readings ++ reading_of reading
    pub added : b.added ≡ a.added + work.added

  pub record IsDelivered (look : Look) (a b : Progress) : Type 0 where
    pub work : Work
    pub news : IsNews a.session look work
    pub session : b.session ≡ work.session
    pub received : b.received ≡ a.received
    pub sent : b.sent ≡ a.sent ++ work.frames
    pub readings : b.readings ≡ a.readings
    pub added : b.added ≡ a.added

  abbrev pub IsStep : LinkStep → Progress → Progress → Type 0
  IsStep (Read look reading) a b = IsRead look reading a b
  IsStep (Delivered look) a b = IsDelivered look a b
