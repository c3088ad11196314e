use Rattle.std.proofs.Common.{◌≤◌, length, arith}
use Rattle.op_validity.specs.Sources.{ahead}
use Rattle.op_validity.proofs.Replacing.{passed_at, passed_makes, not_passed}
use Rattle.op_validity.proofs.edits.Edits.skip.Goals as goal

pub returns-then-count-len-clause-step : goal.returns-then-count-len-clause-step
returns-then-count-len-clause-step c =
    let s = c.args.self.now in
    λ all more. rw c.requires.closed.0 (not_passed all s.rope.now s.done.items s.from c.args.count (ahead s.build.rest) more (omega (arith, c.len.ensures, c.if-count-len.true)))

pub returns-clause-at : goal.returns-clause-at
returns-clause-at c =
    let s = c.args.self.now in
    let less : c.args.count ≤ length (ahead s.build.rest) = omega (arith, c.len.ensures, c.if-count-len.false) in
    rw c.skip.ensures (passed_at s.rope.now s.done.items s.from c.args.count (ahead s.build.rest) c.requires.at c.requires.closed.1 less)

pub returns-clause-step : goal.returns-clause-step
returns-clause-step c =
    let s = c.args.self.now in
    λ all more. rw (c.skip.ensures, c.requires.closed.0) (passed_makes all s.rope.now s.done.items s.from c.args.count (ahead s.build.rest) more c.requires.at.tail c.requires.closed.1)
