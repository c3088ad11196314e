use Rattle.std.proofs.Common.{◌≡◌, drop}
use Rattle.wavelet_op.specs.States.{empty_state}
use Rattle.delta_history.specs.Points.{run_all}
use Rattle.delta_history.proofs.states.state_after.Given as goal

abbrev pub invariant-loop-delta : goal.invariant-loop-delta
invariant-loop-delta l = run_all l.state (drop l.delta-index l.deltas) ≡ run_all empty_state l.deltas
