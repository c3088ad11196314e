use Rattle.std.proofs.Common.{rules, ◌≡◌, ◌<◌, [], ◌∷◌, ◌++◌, length, slice_get, Some, subst, arith}
use Rattle.turn_cells.specs.Cells.{IsSameOf}
use Rattle.turn_cells.proofs.Joining.{set_pass, split_pass}
use Rattle.turn_cells.proofs.Places.{at_there}
use Rattle.turn_cells.proofs.cells.Cells.split.Goals as goal

pub returns-in_err-push-clause-old : goal.returns-in_err-push-clause-old
returns-in_err-push-clause-old g c =
    let cells = c.args.self.now.list.items in
    let passes = c.loop-place.passes.list.items in
    let inv = c.loop-place.invariant in
    let in_cells : c.loop-place.place < length cells = omega (arith, c.args.self.now.sixteen, c.loop-place-test.true) in
    let in_passes : c.loop-place.place < length passes = omega (arith, inv.0.0, c.loop-place-test.true) in
    set_pass cells c.args.passes.now.list.items passes c.loop-place.place c.index.result.now c.index_mut.result.now c.split.new.pass c.loop-place-test.true inv.0.0 inv.0.1 inv.1
    (at_there passes c.loop-place.place c.index_mut.result.now in_passes c.index_mut.ensures.value)
    (at_there cells c.loop-place.place c.index.result.now in_cells c.index.ensures)
    c.split.ensures.old.0 c.split.ensures.old.1

pub loop-place-preserved : goal.loop-place-preserved
loop-place-preserved g c =
    let cells = c.args.self.now.list.items in
    let passes = c.loop-place.passes.list.items in
    let firsts = c.args.passes.now.list.items in
    let inv = c.loop-place.invariant in
    let in_cells : c.loop-place.place < length cells = omega (arith, c.args.self.now.sixteen, c.loop-place-test.true) in
    let in_passes : c.loop-place.place < length passes = omega (arith, inv.0.0, c.loop-place-test.true) in
    let at = at_there passes c.loop-place.place c.index_mut.result.now in_passes c.index_mut.ensures.value in
    let cell = at_there cells c.loop-place.place c.index.result.now in_cells c.index.ensures in
    let both = set_pass cells firsts passes c.loop-place.place c.index.result.now c.index_mut.result.now c.split.new.pass c.loop-place-test.true inv.0.0 inv.0.1 inv.1 at cell c.split.ensures.old.0 c.split.ensures.old.1 in
    let list : c.push.new.self.items ≡ c.loop-place.list.items ++ c.split.result ∷ [] = search rules in
    let counts = c.split.ensures.counts in
    let same : IsSameOf (slice_get firsts c.loop-place.place) (Some c.index_mut.result.now) = subst (IsSameOf (slice_get firsts c.loop-place.place)) at (inv.1 c.loop-place.place c.loop-place-test.true) in (
      both.0,
      both.1,
      search rules,
      rw list (split_pass cells firsts c.loop-place.list.items c.loop-place.place c.index.result.now c.index_mut.result.now c.split.result inv.2 inv.3 same cell c.split.ensures.new (record { loads = counts.0; added = counts.1; ticket = counts.2 })),
    )
