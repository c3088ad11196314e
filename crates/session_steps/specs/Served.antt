-- A session that was served, by the marks of each shard that its passes have seen at the end, and what they had seen at the start.
--     IsWalk .. ss a             the steps, the newest first, lead from the start to this progress
--     IsServing .. es s          between two turns: some steps account for all that was received and sent, and lead to this session
--     IsBroken .. es             where the session broke off: the same, but that of the last step's texts only the first may have been
--                                sent, and that the last message may have no step
--     HaveNothingLeft d ms s     the marks give the session nothing that it wasn't sent
--     IsWhole .. es              where the link was closed: all was received and sent, the close is the last event, and nothing is left
--     IsOver .. es c             at the end, by its cause: a session whose link was closed was served whole, and any other one broke off
--     total n f                  the first n numbers, added
--     poll_count es              how often the link was polled
use Rattle.std.specs.Prelude.{◌≡◌, ◌<◌, ◌≤◌, ◌+◌, ℕ, zero, suc, List, [], ◌∷◌, ◌++◌, length}
use mathlib.Core.List.{IsPrefix}
use Rattle.doc_items.specs.Maps.{Key}
use Rattle.session_core.specs.declared.session.Session.{Session}
use Rattle.session_core.specs.Deliveries.{delivered}
use Rattle.wave_outside.specs.Links.{received, sent}
use Rattle.wave_outside.specs.declared.link.LinkEvent.{LinkEvent}
use Rattle.wave_outside.specs.declared.link.LinkEvent.TheVariants.{Received, Idle, Ended, Sent}
use Rattle.shard_marks.specs.declared.mark.Mark.{Mark}
use Rattle.shard_marks.specs.Marks.{shown_at}
use Rattle.shard_marks.specs.Servers.{ServerOf}
use Rattle.session_steps.specs.declared.step.LinkStep.{LinkStep}
use Rattle.session_steps.specs.declared.end.EndCause.{EndCause}
use Rattle.session_steps.specs.declared.end.EndCause.TheVariants.{Closed, Failed, Spent, Memory}
use Rattle.session_steps.specs.Steps.{Progress, start, IsStep}

abbrev pub poll_count : List LinkEvent → ℕ
poll_count [] = 0
poll_count (Received m ∷ es) = 1 + poll_count es
poll_count (Idle ∷ es) = 1 + poll_count es
poll_count (Ended ∷ es) = 1 + poll_count es
poll_count (Sent m ∷ es) = poll_count es

abbrev pub total : ℕ → (ℕ → ℕ) → ℕ
total zero f = 0
total (suc n) f = total n f + f n

abbrev pub HaveNothingLeft : Key → (ℕ → List Mark) → Session → Type 0
HaveNothingLeft d marks s = (k : ℕ) → k < 16 → delivered (shown_at d k (marks k)) s ≡ []

-- the list ends with the poll that found the link closed
abbrev pub EndsClosed : List LinkEvent → Type 0
EndsClosed es = (before : List LinkEvent) × (es ≡ before ++ Ended ∷ [])

module _ (v : ServerOf) (marks : ℕ → List Mark) (begun : ℕ → ℕ) where
  abbrev pub IsWalk : List LinkStep → Progress → Type 0
  IsWalk [] a = a ≡ start v
  IsWalk (st ∷ ss) a = (before : Progress) × IsWalk ss before × IsStep v marks begun ss st before a

  pub record IsServing (es : List LinkEvent) (s : Session) (readings : List ℕ) (added : ℕ) : Type 0 where
    pub steps : List LinkStep
    pub progress : Progress
    pub walk : IsWalk steps progress
    pub received : progress.received ≡ received es
    pub sent : progress.sent ≡ sent es
    pub session : progress.session ≡ s
    pub readings_are : progress.readings ≡ readings
    pub added_is : progress.added ≡ added

  -- of the last step only a part may have been sent, and the last message may have no step
  pub record IsBroken (es : List LinkEvent) (readings : List ℕ) (added : ℕ) : Type 0 where
    pub steps : List LinkStep
    pub progress : Progress
    pub walk : IsWalk steps progress
    pub unread : List (List ℕ)
    pub received : progress.received ++ unread ≡ received es
    pub one_message : length unread ≤ 1
    pub sent_before : (st : LinkStep) (ss : List LinkStep) → steps ≡ st ∷ ss → (before : Progress) × IsWalk ss before
        × IsPrefix before.sent (sent es)
    pub sent : IsPrefix (sent es) progress.sent
    pub untold : List ℕ
    pub readings_are : readings ≡ progress.readings ++ untold
    pub one_reading : length untold ≤ 1
    pub added_is : progress.added ≡ added

  pub record IsWhole (es : List LinkEvent) (readings : List ℕ) (added : ℕ) : Type 0 where
    pub session : Session
    pub serving : IsServing es session readings added
    pub closed : EndsClosed es
    pub nothing_left : HaveNothingLeft v.domain marks session

  abbrev pub IsOver : List LinkEvent → List ℕ → ℕ → EndCause → Type 0
  IsOver es readings added Closed = IsWhole es readings added
  IsOver es readings added Failed = IsBroken es readings added
  IsOver es readings added (Spent s) = IsBroken es readings added
  IsOver es readings added Memory = IsBroken es readings added
