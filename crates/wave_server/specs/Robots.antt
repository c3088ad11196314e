-- The robots of a server.
--     is_verdict_invalid v, is_invalid a      the verdict on an edit, or the answer to it, is that it was invalid
--     HaveAnswered d k ms g n    of the wavelet the robots were shown just their views, so far as they went through it, and something came
--                                of each edit that they answered
--     AreReady d marks g         the robots have answered so of each wavelet of each shard
--     AreSettledBelow n d marks g      of the shards with numbers below n nothing is left for them
--     WereServed d marks g       of each history that the marks give: each robot that is there, where it tells its calls, was shown its
--                                whole view since it was added, and something came of each edit that it answered
use Rattle.std.specs.Prelude.{◌≡◌, ◌≢◌, ◌<◌, ℕ, Bool, true, false, List, []}
use Rattle.doc_items.specs.Maps.{Key}
use Rattle.wavelet_op.specs.declared.verdict.Verdict.{Verdict as Judgement}
use Rattle.wavelet_op.specs.declared.verdict.Verdict.TheVariants.{Ack, NotParticipant, ReadOnly, UnknownVersion, WrongHash, Invalid, Full}
use Rattle.session_core.specs.declared.request.SubmitAnswer.{SubmitAnswer}
use Rattle.session_core.specs.declared.request.SubmitAnswer.TheVariants.{Verdict, Queued, NoHost, Store}
use Rattle.robot_host.specs.Edits.{AreAnswered, HaveAnsweredAll}
use Rattle.robot_host.specs.Hosts.{HostOf, MayTurn}
use Rattle.wavelet_shelf.specs.Hosting.{deltas_in}
use Rattle.shard_marks.specs.declared.mark.Mark.{Mark}
use Rattle.shard_marks.specs.Histories.{history_at}
use Rattle.shard_marks.specs.Marks.{is_of, replayed}
use Rattle.shard_marks.specs.Outcomes.{HasOutcomeOn}
use Rattle.session_hub.specs.Robots.{AreSettledAt}

abbrev pub is_verdict_invalid : Judgement → Bool
is_verdict_invalid (Ack at to) = false
is_verdict_invalid NotParticipant = false
is_verdict_invalid ReadOnly = false
is_verdict_invalid (UnknownVersion head) = false
is_verdict_invalid (WrongHash host) = false
is_verdict_invalid (Invalid index) = true
is_verdict_invalid (Full head) = false

abbrev pub is_invalid : SubmitAnswer → Bool
is_invalid (Verdict v) = is_verdict_invalid v
is_invalid Queued = false
is_invalid NoHost = false
is_invalid Store = false

pub record HaveAnswered (d : Key) (k : ℕ) (ms : List Mark) (g : HostOf) (n : Key) : Type 0 where
  pub may : MayTurn g (history_at d k ms n)
  pub answered : AreAnswered (HasOutcomeOn d k ms n) g (history_at d k ms n)

abbrev pub AreReady : Key → (ℕ → List Mark) → HostOf → Type 0
AreReady d marks g = (k : ℕ) → k < 16 → (n : Key) → is_of d k n ≡ true → HaveAnswered d k (marks k) g n

abbrev pub AreSettledBelow : ℕ → Key → (ℕ → List Mark) → HostOf → Type 0
AreSettledBelow n d marks g = (k : ℕ) → k < n → AreSettledAt d k (marks k) g

abbrev pub WereServed : Key → (ℕ → List Mark) → HostOf → Type 0
WereServed d marks g = (k : ℕ) → k < 16 → (n : Key) → deltas_in (replayed d k (marks k)) n ≢ []
    → HaveAnsweredAll (HasOutcomeOn d k (marks k) n) g (history_at d k (marks k) n)
