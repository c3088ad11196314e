-- Turns of robots at a shard.
--     MayTurnAt d k ms g            over the history of each wavelet of the shard that the marks give, the robots may take a turn
--     IsRoundAt d k ms g g' o es    turns over the histories that the marks give, in byte order of names, until one gave edits
--     IsRoundCutAt d k ms g g'      turns over these histories, in the same order, until want of memory
--     AreSettledAt d k ms g         nothing is left for the robots of the histories that the marks give
--     AreUntouchedAt d k ms g g'    for wavelets of which the marks give no history the robots are as they were
--     MayTurnFrom ms g              the robots may take these turns, of whatever domain and number the shard is that has the marks
use Rattle.std.specs.Prelude.{◌≡◌, ◌≢◌, ℕ, true, List, [], Option}
use Rattle.doc_items.specs.Maps.{Key}
use Rattle.robot_host.specs.declared.edit.RobotEdit.{RobotEdit}
use Rattle.robot_host.specs.Hosts.{HostOf, MayTurn, IsSettled}
use Rattle.robot_host.specs.Rounds.{IsRound, IsRoundCut, IsUntouched}
use Rattle.wavelet_shelf.specs.Hosting.{deltas_in}
use Rattle.shard_marks.specs.declared.mark.Mark.{Mark}
use Rattle.shard_marks.specs.Histories.{histories_at, history_at}
use Rattle.shard_marks.specs.Marks.{is_of, is_founded, replayed}

abbrev pub MayTurnAt : Key → ℕ → List Mark → HostOf → Type 0
MayTurnAt d k ms g = (n : Key) → is_of d k n ≡ true → MayTurn g (history_at d k ms n)

abbrev pub IsRoundAt : Key → ℕ → List Mark → HostOf → HostOf → Option Key → List RobotEdit → Type 0
IsRoundAt d k ms g g' o es = IsRound g (histories_at d k ms) g' o es

abbrev pub IsRoundCutAt : Key → ℕ → List Mark → HostOf → HostOf → Type 0
IsRoundCutAt d k ms g g' = IsRoundCut g (histories_at d k ms) g'

abbrev pub AreSettledAt : Key → ℕ → List Mark → HostOf → Type 0
AreSettledAt d k ms g = (n : Key) → deltas_in (replayed d k ms) n ≢ [] → IsSettled g (history_at d k ms n)

abbrev pub AreUntouchedAt : Key → ℕ → List Mark → HostOf → HostOf → Type 0
AreUntouchedAt d k ms g g' = (n : Key) → deltas_in (replayed d k ms) n ≡ [] → IsUntouched g g' n

pub record MayTurnFrom (ms : List Mark) (g : HostOf) : Type 0 where
  pub domain : Key
  pub number : ℕ
  pub founded : is_founded domain number ms ≡ true
  pub may : MayTurnAt domain number ms g
