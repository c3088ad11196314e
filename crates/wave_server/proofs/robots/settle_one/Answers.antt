use Rattle.wave_server.proofs.Ending.{begins_on}
use Rattle.wave_server.proofs.robots.settle_one.Goals as goal

pub returns-in_err-turn_at-clause-later : goal.returns-in_err-turn_at-clause-later
returns-in_err-turn_at-clause-later g c = begins_on c.args.passes.now c.loop.passes c.turn_at.new.passes c.loop.invariant.1 c.turn_at.ensures.later

pub returns-then-is_some-clause-later : goal.returns-then-is_some-clause-later
returns-then-is_some-clause-later g c = begins_on c.args.passes.now c.loop.passes c.turn_at.new.passes c.loop.invariant.1 c.turn_at.ensures.later

pub loop-preserved : goal.loop-preserved
loop-preserved g c = (c.turn_at.ensures.own, begins_on c.args.passes.now c.loop.passes c.turn_at.new.passes c.loop.invariant.1 c.turn_at.ensures.later, c.in_ok-turn_at.ensures.ready, c.in_ok-turn_at.ensures.settled c.loop.invariant.3)
