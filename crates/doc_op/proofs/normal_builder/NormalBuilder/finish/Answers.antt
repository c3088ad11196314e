use Rattle.std.proofs.Common.{ap, subst, ◌∙◌}
use Rattle.doc_items.specs.Changes.{none_running}
use Rattle.change_table.specs.Joints.{IsTurn}
use Rattle.doc_op.specs.Normal.{normal_form}
use Rattle.doc_op.specs.Outputs.{open_component}
use Rattle.doc_op.proofs.Outputs.{ended, turn_fits}
use Rattle.doc_op.proofs.normal_builder.NormalBuilder.finish.Goals as goal

pub settled-requires-clause-turn : goal.settled-requires-clause-turn
settled-requires-clause-turn c = turn_fits c.in_ok-turn.turn c.self.inside.written c.empty.result c.in_ok-turn.ensures

pub returns-clause-normal : goal.returns-clause-normal
returns-clause-normal c =
    let u = c.self.inside.written in
    let turn : IsTurn c.in_ok-turn.turn u none_running = subst (IsTurn c.in_ok-turn.turn u) c.empty.ensures c.in_ok-turn.ensures in
    ended c.self.inside.done (open_component c.self.inside.last) u c.in_ok-done.done c.self.invariant (c.in_ok-done.ensures.settled none_running turn) ∙ ap normal_form c.self.view_is
