use Rattle.std.proofs.Common.{sym, ap, ◌∙◌, ◌+◌, ◌≤◌, subst, arith}
use Rattle.conversation.specs.declared.reading.Reading.{Reading}
use Rattle.conversation.proofs.Readings.{inside_grows, passed_grows, more}
use Rattle.conversation.proofs.manifest.read_manifest.Goals as goal

pub loop-place-preserved : goal.loop-place-preserved
loop-place-preserved g c =
    let items = g.D.Items.items c.args.manifest.now in
    let r = c.loop-place.reading in
    let inside = inside_grows r c.in-Some.item.now in
    let passed = passed_grows r c.in-Some.item.now in
    let same_inside = ap (λ (x : Reading). x.inside) c.pass.ensures in
    let same_passed = ap (λ (x : Reading). x.passed) c.pass.ensures in
    record {
      shown = more c.loop-place.nodes.items c.show.new.nodes.items r c.pass.new.self items c.loop-place.place c.in-Some.item.now (sym c.in-Some.ensures) c.in_ok-show.ensures c.pass.ensures ∙ c.loop-place.invariant.shown;
      inside = omega (arith, inside, same_inside, c.loop-place.invariant.inside);
      passed = omega (arith, passed, same_passed, c.loop-place.invariant.passed);
    }
