-- Turns at a shard.
--     IsBegun n ms               the marks begin with that of the shard of the wavelet
--     IsAnsweredBy p q v k n s t a   the answer to a submission in a turn, by a pass before and after it
--     IsGivenIn p q d k m a      what was answered where a copy was given something in a turn, by a pass before and after it
--     IsFault q e                why there was no answer: where no turn is left, the ticket of the pass is at the limit
use Rattle.std.specs.Prelude.{◌≡◌, ℕ, ◌+◌, ◌≤◌, true, List, length}
use Rattle.doc_items.specs.Maps.{Key}
use Rattle.wavelet_op.specs.declared.delta.Submission.{Submission}
use Rattle.session_core.specs.declared.request.SubmitAnswer.{SubmitAnswer}
use Rattle.turn_lock.specs.Passes.{seen, added, ticket}
use Rattle.turn_lock.specs.Turns.{turn_limit}
use Rattle.turn_lock.specs.declared.cell.Pass.{Pass}
use Rattle.session_hub.specs.declared.fault.HubFault.{HubFault}
use Rattle.session_hub.specs.declared.fault.HubFault.TheVariants.{Spent, Memory}
use Rattle.shard_marks.specs.declared.mark.Mark.{Mark}
use Rattle.shard_marks.specs.Answers.{IsAnswer}
use Rattle.shard_marks.specs.Givings.{IsGiven}
use Rattle.shard_marks.specs.declared.giving.Given.{Given}
use Rattle.shard_marks.specs.Marks.{is_founded}
use Rattle.shard_marks.specs.Servers.{ServerOf}

abbrev pub IsBegun : ℕ → List Mark → Type 0
IsBegun k ms = (d : Key) × (is_founded d k ms ≡ true)

module _ {T : Type 0} where
  pub record IsAnsweredBy (p q : Pass T Mark) (v : ServerOf) (k : ℕ) (n : Key) (s : Submission) (t : ℕ) (a : SubmitAnswer) : Type 0 where
    pub gained : ℕ
    pub added : added q ≡ added p + gained
    pub grown : length (seen p) + gained ≤ length (seen q)
    pub answer : IsAnswer v k (seen q) n s t a gained

  pub record IsGivenIn (p q : Pass T Mark) (d : Key) (k : ℕ) (m : Mark) (a : Given) : Type 0 where
    pub gained : ℕ
    pub added : added q ≡ added p + gained
    pub grown : length (seen p) + gained ≤ length (seen q)
    pub answer : IsGiven d k (seen q) m a gained

  abbrev pub IsFault : Pass T Mark → HubFault → Type 0
  IsFault q (Spent s) = (turn_limit ≤ s.ticket) × (ticket q ≡ s.ticket)
  IsFault q Memory = Unit {0}
