use Rattle.std.proofs.Common.{◌≡◌, ◌≤◌, ◌+◌, ◌++◌, sym, ap, ◌∙◌, arith, take, append-nil}
use Rattle.conversation.specs.Trees.{start, step, shown, tree, behind}
use Rattle.conversation.specs.declared.reading.Reading.{Reading}
use Rattle.conversation.proofs.Readings.{inside_grows, passed_grows, tree_next, after_next}
use Rattle.conversation.proofs.Rooting.{outside_step, root_step}
use Rattle.conversation.proofs.Searching.{inside_list, step_balanced}
use Rattle.conversation.proofs.search.find_root.Goals as goal

pub returns-then-reading : goal.returns-then-reading
returns-then-reading g c =
    let items = g.D.Items.items c.args.manifest.now in
    let item = c.in-Some.item.now in
    let r = c.loop-place.reading in
    let here = sym c.in-Some.ensures in
    let same_found = ap (λ (x : Reading). x.found) c.pass.ensures in
    let same_inside = ap (λ (x : Reading). x.inside) c.pass.ensures in
    let same_passed = ap (λ (x : Reading). x.passed) c.pass.ensures in
    let root = root_step r item c.loop-place.invariant.none c.loop-place.invariant.outside (sym same_found ∙ c.if-reading.true) in
    let one = same_inside ∙ ap (λ (x : Reading). x.inside) root.begins in
    record {
      item = item;
      here = here;
      empty = c.loop-place.invariant.empty;
      shows = ap (λ x. shown x item) (sym c.loop-place.invariant.reading) ∙ root.shows;
      reading = c.pass.ensures ∙ ap (λ x. step x item) c.loop-place.invariant.reading;
      inside = one;
      begun = record {
        there = inside_list items c.loop-place.place item here;
        found = c.if-reading.true;
        some = omega (arith, one);
        bound = omega (arith, one);
        passed = same_passed ∙ ap (λ (x : Reading). x.passed) root.begins;
        balanced = step_balanced r c.pass.new.self items c.loop-place.place item here c.pass.ensures c.loop-place.invariant.balanced;
      };
    }

pub loop-place-preserved : goal.loop-place-preserved
loop-place-preserved g c =
    let items = g.D.Items.items c.args.manifest.now in
    let item = c.in-Some.item.now in
    let r = c.loop-place.reading in
    let here = sym c.in-Some.ensures in
    let front = take c.loop-place.place items in
    let same_found = ap (λ (x : Reading). x.found) c.pass.ensures in
    let same_inside = ap (λ (x : Reading). x.inside) c.pass.ensures in
    let same_passed = ap (λ (x : Reading). x.passed) c.pass.ensures in
    let passed = passed_grows r item in
    let outside = outside_step r item c.loop-place.invariant.outside (sym same_found ∙ c.if-reading.false) in
    record {
      reading = c.pass.ensures ∙ ap (λ x. step x item) c.loop-place.invariant.reading ∙ sym (after_next start items c.loop-place.place item here);
      none = c.if-reading.false;
      outside = same_inside ∙ outside.inside;
      empty = tree_next start items c.loop-place.place item here ∙ ap (λ z. z ++ shown (behind start front) item) c.loop-place.invariant.empty
          ∙ ap (λ x. shown x item) (sym c.loop-place.invariant.reading) ∙ outside.shows;
      balanced = step_balanced r c.pass.new.self items c.loop-place.place item here c.pass.ensures c.loop-place.invariant.balanced;
      passed = omega (arith, passed, same_passed, c.loop-place.invariant.passed);
    }
