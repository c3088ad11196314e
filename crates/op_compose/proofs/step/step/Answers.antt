use Rattle.op_compose.proofs.Steps.{can_pass, stepped}
use Rattle.op_compose.proofs.step.step.Goals as goal

pub pass-requires : goal.pass-requires
pass-requires c = can_pass _ c.args.done.now c.advance.new.done c.args.f.now c.args.s.now c.in-Ok.ensures

pub returns : goal.returns
returns c = stepped _ _ c.args.done.now c.advance.new.done _ _ _ _ _ c.in_ok-more.ensures.goes_on c.in-Ok.ensures c.in_ok-more.ensures.passed
