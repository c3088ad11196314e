use Rattle.op_transform.proofs.Steps.{can_pass, stepped}
use Rattle.op_transform.proofs.step.step.Goals as goal

pub pass-requires : goal.pass-requires
pass-requires c = can_pass _ c.args.done.now c.advance.new.done c.args.l.now c.args.e.now c.in-Ok.ensures

pub returns : goal.returns
returns c = stepped _ _ c.args.done.now c.advance.new.done _ _ _ _ _ c.in_ok-more.ensures.goes_on c.in-Ok.ensures c.in_ok-more.ensures.passed
