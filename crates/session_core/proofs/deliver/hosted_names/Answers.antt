use Rattle.std.proofs.Common.{arith}
use Rattle.session_core.proofs.Gathering.{next_gathered, all_gathered}
use Rattle.session_core.proofs.deliver.hosted_names.Goals as goal

pub loop-name-preserved : goal.loop-name-preserved
loop-name-preserved g c = next_gathered (λ n. n.now) (g.C.Copies.hosts c.args.copies.now) c.loop-name.names.items c.push.new.self.items c.len.result c.in-Some.name c.loop-name.invariant (omega (arith, c.len.ensures, c.loop-name.names.ok)) c.in-Some.ensures.value c.in_ok-push.ensures.items

pub returns : goal.returns
returns g c = all_gathered (λ n. n.now) (g.C.Copies.hosts c.args.copies.now) c.loop-name.names.items c.len.result c.loop-name.invariant (omega (arith, c.len.ensures, c.loop-name.names.ok)) c.in_default.ensures.value
