use Rattle.std.proofs.Common.{◌≡◌, drop, None}
use Rattle.serde_json.specs.View.{items_view}
use Rattle.wavelet_op.specs.States.{empty_state}
use Rattle.snapshot_json.specs.Read.{member_of, joined, states_from}
use Rattle.snapshot_json.proofs.reading.members_in.Given as goal

abbrev pub invariant-loop-value : goal.invariant-loop-value
invariant-loop-value l = states_from member_of joined empty_state None (items_view l.list) ≡ states_from member_of joined l.state l.last (items_view (drop l.value-index l.list))
