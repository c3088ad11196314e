use Rattle.std.proofs.Common.{arith}
use Rattle.inbox_machine.proofs.Taking.{next_gathered, all_gathered}
use Rattle.inbox_machine.proofs.indexing.names_of.Goals as goal

pub loop-name-preserved : goal.loop-name-preserved
loop-name-preserved g c = next_gathered (λ n. n.now) (g.C.Copies.hosts c.args.copies.now) c.loop-name.names.items c.push.new.self.items c.len.result c.in-Some.name c.loop-name.invariant (omega (arith, c.len.ensures, c.loop-name.names.ok)) c.in-Some.ensures.value c.in_ok-push.ensures.items

pub returns-clause-names : goal.returns-clause-names
returns-clause-names g c = all_gathered (λ n. n.now) (g.C.Copies.hosts c.args.copies.now) c.loop-name.names.items c.len.result c.loop-name.invariant (omega (arith, c.len.ensures, c.loop-name.names.ok)) c.in_default.ensures.value
