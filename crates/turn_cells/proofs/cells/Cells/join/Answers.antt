use Rattle.std.proofs.Common.{rules, ◌≡◌, ◌<◌, [], ◌∷◌, ◌++◌, length, subst, arith}
use Rattle.turn_cells.proofs.Joining.{IsJoining, joins}
use Rattle.turn_cells.proofs.Places.{at_there}
use Rattle.turn_cells.proofs.cells.Cells.join.Goals as goal

pub loop-pass-preserved-then-place-lt16 : goal.loop-pass-preserved-then-place-lt16
loop-pass-preserved-then-place-lt16 g c =
    let cells = c.args.self.now.list.items in
    let passes = c.loop-pass.passes.list.items in
    let popped : c.loop-pass.list.items ≡ c.pop.new.self.items ++ c.in-Some.pass ∷ [] = search rules in
    let before = subst (IsJoining cells c.args.passes.now.list.items c.args.other.list.items passes) popped c.loop-pass.invariant in
    let in_cells : c.len-place.result < length cells = omega (arith, c.args.self.now.sixteen, c.if-place-lt16.true) in
    let in_passes : c.len-place.result < length passes = omega (arith, c.loop-pass.invariant.whole, c.if-place-lt16.true) in
    joins cells c.args.passes.now.list.items c.args.other.list.items passes c.pop.new.self.items c.index.result.now c.in-Some.pass c.index_mut.result.now c.join.new.pass c.len-place.result before (search rules)
    (at_there passes c.len-place.result c.index_mut.result.now in_passes c.index_mut.ensures.value)
    (at_there cells c.len-place.result c.index.result.now in_cells c.index.ensures)
    c.join.ensures.own c.join.ensures.later c.join.ensures.counts

pub returns-clause-later : goal.returns-clause-later
returns-clause-later g c =
    let none_left : length c.loop-pass.list.items ≡ 0 = search rules in
    ((λ k l. (c.loop-pass.invariant.done k (omega arith) l).first), λ k l. (c.loop-pass.invariant.done k (omega arith) l).second)
