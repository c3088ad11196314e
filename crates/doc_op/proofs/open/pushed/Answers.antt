use Rattle.std.proofs.Common.{ap, ◌∙◌}
use Rattle.doc_op.specs.Actions.{running}
use Rattle.doc_op.proofs.Built.{taken_on}
use Rattle.doc_op.proofs.Lengths.{running-add}
use Rattle.doc_op.proofs.open.pushed.Goals as goal

pub push-requires-clause-taken : goal.push-requires-clause-taken
push-requires-clause-taken c = taken_on c.args.done c.args.component c.requires.some c.requires.fit c.requires.input c.requires.output

pub returns-clause-runs : goal.returns-clause-runs
returns-clause-runs c = ap running c.in_ok-push.ensures.ok ∙ running-add c.args.done c.args.component
