use Rattle.wave_server.proofs.Ending.{begins_on, begins_self}
use Rattle.wave_server.proofs.robots.attend_all.Goals as goal

pub loop-shard-init : goal.loop-shard-init
loop-shard-init g c = (c.requires.own, begins_self c.args.passes.now, c.requires.ready)

pub returns-in_err-attend_one-clause-later : goal.returns-in_err-attend_one-clause-later
returns-in_err-attend_one-clause-later g c = begins_on c.args.passes.now c.loop-shard.passes c.attend_one.new.passes c.loop-shard.invariant.1 c.attend_one.ensures.later

pub loop-shard-preserved : goal.loop-shard-preserved
loop-shard-preserved g c = (c.attend_one.ensures.own, begins_on c.args.passes.now c.loop-shard.passes c.attend_one.new.passes c.loop-shard.invariant.1 c.attend_one.ensures.later, c.in_ok-attend_one.ensures.ready)
