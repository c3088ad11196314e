use Rattle.wave_server.proofs.Ending.{begins_on, begins_self}
use Rattle.wave_server.proofs.herald.Herald.tell.Goals as goal

pub loop-shard-init : goal.loop-shard-init
loop-shard-init g c = (c.requires.own, begins_self c.args.passes.now)

pub loop-shard-preserved : goal.loop-shard-preserved
loop-shard-preserved g c = (c.tell_of.ensures.own, begins_on c.args.passes.now c.loop-shard.passes c.tell_of.new.passes c.loop-shard.invariant.1 c.tell_of.ensures.later)
