use Rattle.std.proofs.Common.{arith}
use Rattle.op_validity.specs.Sources.{ahead}
use Rattle.op_validity.proofs.Walks.{skipped, too_few}
use Rattle.op_validity.proofs.walk.Walk.skip.Goals as goal

pub returns-then-count-len-clause-step : goal.returns-then-count-len-clause-step
returns-then-count-len-clause-step c = λ more. too_few c.args.count c.args.self.now.place (ahead c.args.self.now.rest) more (omega (arith, c.len.ensures, c.if-count-len.true))

pub returns-clause-step : goal.returns-clause-step
returns-clause-step c = λ more. rw c.skip.ensures (skipped c.args.count c.args.self.now.place (ahead c.args.self.now.rest) more (omega (arith, c.len.ensures, c.if-count-len.false)))
