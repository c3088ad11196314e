use Rattle.std.proofs.Common.{◌≡◌, ◌≤◌, ◌+◌, sym, ap, ◌∙◌, arith, take}
use Rattle.conversation.specs.Edits.{has}
use Rattle.conversation.specs.Search.{is_wanted}
use Rattle.conversation.specs.Trees.{start, step, shown, tree, behind}
use Rattle.conversation.specs.declared.reading.Reading.{Reading}
use Rattle.conversation.proofs.Growing.{has_append}
use Rattle.conversation.proofs.Readings.{inside_grows, passed_grows, tree_next, after_next}
use Rattle.conversation.proofs.Searching.{inside_list, step_balanced, one_shown}
use Rattle.conversation.proofs.search.find.Goals as goal

pub returns-then-is_here : goal.returns-then-is_here
returns-then-is_here g c =
    let items = g.D.Items.items c.args.manifest.now in
    let item = c.in-Some.item.now in
    let r = c.loop-place.reading in
    let inside = inside_grows r item in
    let same_inside = ap (λ (x : Reading). x.inside) c.pass.ensures in
    let one = one_shown (is_wanted c.args.want c.args.id.now) r item.content (sym c.begins-is_here.ensures ∙ c.if-is_here.true) in
    let deep = same_inside ∙ one.inside in
    record {
      item = item;
      node = one.node;
      attributes = one.attributes;
      is = one.is;
      here = sym c.in-Some.ensures;
      shows = ap (λ x. shown x item) (sym c.loop-place.invariant.reading) ∙ one.shows;
      passes = one.passes;
      none = c.loop-place.invariant.none;
      reading = c.pass.ensures ∙ ap (λ x. step x item) c.loop-place.invariant.reading;
      inside = deep;
      begun = record {
        there = inside_list items c.loop-place.place item (sym c.in-Some.ensures);
        found = ap (λ (x : Reading). x.found) c.pass.ensures ∙ one.found;
        some = omega (arith, deep);
        bound = omega (arith, inside, same_inside, c.loop-place.invariant.inside);
        passed = ap (λ (x : Reading). x.passed) c.pass.ensures ∙ one.none;
        balanced = step_balanced r c.pass.new.self items c.loop-place.place item (sym c.in-Some.ensures) c.pass.ensures c.loop-place.invariant.balanced;
      };
    }

pub loop-place-preserved : goal.loop-place-preserved
loop-place-preserved g c =
    let items = g.D.Items.items c.args.manifest.now in
    let item = c.in-Some.item.now in
    let r = c.loop-place.reading in
    let here = sym c.in-Some.ensures in
    let test = is_wanted c.args.want c.args.id.now in
    let front = take c.loop-place.place items in
    let inside = inside_grows r item in
    let passed = passed_grows r item in
    let same_inside = ap (λ (x : Reading). x.inside) c.pass.ensures in
    let same_passed = ap (λ (x : Reading). x.passed) c.pass.ensures in
    record {
      reading = c.pass.ensures ∙ ap (λ x. step x item) c.loop-place.invariant.reading ∙ sym (after_next start items c.loop-place.place item here);
      none = ap (has test) (tree_next start items c.loop-place.place item here) ∙ has_append test (tree start front) (shown (behind start front) item) c.loop-place.invariant.none
          ∙ ap (λ x. has test (shown x item)) (sym c.loop-place.invariant.reading) ∙ sym c.begins-is_here.ensures ∙ c.if-is_here.false;
      balanced = step_balanced r c.pass.new.self items c.loop-place.place item here c.pass.ensures c.loop-place.invariant.balanced;
      inside = omega (arith, inside, same_inside, c.loop-place.invariant.inside);
      passed = omega (arith, passed, same_passed, c.loop-place.invariant.passed);
    }
