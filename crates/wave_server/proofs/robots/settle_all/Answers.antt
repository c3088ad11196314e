use Rattle.std.proofs.Common.{arith, ◌≡◌}
use Rattle.robot_host.specs.Hosts.{host_by}
use Rattle.shard_marks.specs.Passes.{marks_of}
use Rattle.wave_server.proofs.Attending.{settled_more}
use Rattle.wave_server.proofs.Ending.{begins_on, begins_self}
use Rattle.wave_server.proofs.robots.settle_all.Goals as goal

pub loop-shard-init : goal.loop-shard-init
loop-shard-init g c = (c.requires.own, begins_self c.args.passes.now, c.requires.ready, (λ k low. absurd (omega (arith, low))))

pub returns-in_err-settle_one-clause-later : goal.returns-in_err-settle_one-clause-later
returns-in_err-settle_one-clause-later g c = begins_on c.args.passes.now c.loop-shard.passes c.settle_one.new.passes c.loop-shard.invariant.1 c.settle_one.ensures.later

pub loop-shard-preserved : goal.loop-shard-preserved
loop-shard-preserved g c = (
  c.settle_one.ensures.own,
  begins_on c.args.passes.now c.loop-shard.passes c.settle_one.new.passes c.loop-shard.invariant.1 c.settle_one.ensures.later,
  c.in_ok-settle_one.ensures.ready,
  settled_more c.args.hub.now.domain c.loop-shard.shard (marks_of c.settle_one.new.passes) (host_by (λ b. (goal.Robot-dyn g (b.vtable, b.value)).calls b.value) c.settle_one.new.robots) c.in_ok-settle_one.ensures.settled c.in_ok-settle_one.ensures.done,
)
