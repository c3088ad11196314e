use Rattle.std.proofs.Common.{ap, subst, sym, is_some, IsSome}
use Rattle.wavelet_op.specs.States.{empty_state}
use Rattle.delta_history.specs.Points.{run_all}
use Rattle.robot_host.proofs.Walking.{runs_to}
use Rattle.robot_host.proofs.walk.Walk.reach.Goals as goal

pub go-requires-clause-valid : goal.go-requires-clause-valid
go-requires-clause-valid c = subst (λ z. IsSome (run_all empty_state z)) (sym c.deltas-deltas.ensures.value) (ap is_some (runs_to c.args.history.now c.deltas-deltas.ensures.legal))
