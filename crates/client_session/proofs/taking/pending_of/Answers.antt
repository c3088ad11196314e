use Rattle.std.proofs.Common.{arith}
use Rattle.client_control.specs.Parts.{ops_pending}
use Rattle.client_session.proofs.Gathering.{next_taken, all_taken}
use Rattle.client_session.proofs.taking.pending_of.Goals as goal

pub loop-ops-preserved : goal.loop-ops-preserved
loop-ops-preserved c = next_taken (ops_pending c.args.follower.now) c.loop-ops.entries.items c.push.new.self.items c.len.result c.in-Some.ops.now _ c.loop-ops.invariant (omega (arith, c.len.ensures, c.loop-ops.entries.ok)) c.in-Some.ensures.value c.in_ok-copy.ensures c.in_ok-push.ensures.items

pub returns : goal.returns
returns c = all_taken (ops_pending c.args.follower.now) c.loop-ops.entries.items c.len.result c.loop-ops.invariant (omega (arith, c.len.ensures, c.loop-ops.entries.ok)) c.in_default.ensures.value
