use Rattle.std.proofs.Common.{◌≤◌, length, take, ap, arith}
use Rattle.std.proofs.lemmas.List.{length-take-le}
use Rattle.doc_rope.proofs.Shapes.{shape_bound}
use Rattle.doc_rope.proofs.shape.Shape.of.Goals as goal

pub with-shape-requires-clause-ends : goal.with-shape-requires-clause-ends
with-shape-requires-clause-ends c =
    let k = c.loop-item.item-index in
    let inside : k ≤ length c.args.items.now = omega (arith, c.loop-item-test.true) in
    let n = length-take-le k c.args.items.now inside in
    let b = shape_bound (take k c.args.items.now) in
    let e = ap (λ s. s.ends) c.loop-item.invariant in
    omega (arith, n, b.0, e, c.loop-item-test.true, c.loop-item.auto.item-index-end)

pub with-shape-requires-clause-starts : goal.with-shape-requires-clause-starts
with-shape-requires-clause-starts c =
    let k = c.loop-item.item-index in
    let inside : k ≤ length c.args.items.now = omega (arith, c.loop-item-test.true) in
    let n = length-take-le k c.args.items.now inside in
    let b = shape_bound (take k c.args.items.now) in
    let e = ap (λ s. s.starts) c.loop-item.invariant in
    omega (arith, n, b.1, e, c.loop-item-test.true, c.loop-item.auto.item-index-end)
