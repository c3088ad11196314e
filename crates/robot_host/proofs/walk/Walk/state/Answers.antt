use Rattle.std.proofs.Common.{ap, sym, ◌∙◌, Some, length}
use Rattle.state_cache.specs.States.{state_after}
use Rattle.robot_host.proofs.Walking.{at_head}
use Rattle.robot_host.proofs.walk.Walk.state.Goals as goal

pub returns-then-place-deltas : goal.returns-then-place-deltas
returns-then-place-deltas c =
    ap (state_after c.args.history.now.deltas) (c.if-place-deltas.true ∙ ap length c.deltas.ensures.value) ∙ at_head c.args.history.now c.deltas.ensures.legal ∙ sym (ap Some c.state.ensures)
