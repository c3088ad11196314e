use Rattle.std.proofs.Common.{◌≡◌, ◌≤◌, ◌+◌, sym, ap, subst, ◌∙◌, arith, take, drop}
use Rattle.doc_items.specs.Balance.{BalancedFrom}
use Rattle.conversation.specs.Search.{AreWithin}
use Rattle.conversation.specs.Trees.{step, tree, behind}
use Rattle.conversation.specs.declared.reading.Reading.{Reading}
use Rattle.conversation.proofs.Ends.{found_step, low_step, within_step, ends, same_end}
use Rattle.conversation.proofs.Readings.{inside_grows, passed_grows, tree_next, after_next}
use Rattle.conversation.proofs.Searching.{slice_drop, step_balanced}
use Rattle.conversation.proofs.search.end_behind.Goals as goal

pub returns-then-is_end-clause-end : goal.returns-then-is_end-clause-end
returns-then-is_end-clause-end g c =
    let items = g.D.Items.items c.args.manifest.now in
    let item = c.in-Some.item.now in
    let r = c.loop-behind.reading in
    let ended = sym c.is_end.ensures ∙ c.if-is_end.true in
    record {
      item = item;
      here = slice_drop items c.args.from c.loop-behind.behind ∙ sym c.in-Some.ensures;
      ends = ends r item c.args.begun.inside ended;
      same = sym c.loop-behind.invariant.reading ∙ same_end r c.args.begun item c.loop-behind.invariant.found c.requires.found c.requires.passed ended;
      within = c.loop-behind.invariant.within;
    }

pub loop-behind-preserved : goal.loop-behind-preserved
loop-behind-preserved g c =
    let items = g.D.Items.items c.args.manifest.now in
    let item = c.in-Some.item.now in
    let r = c.loop-behind.reading in
    let rest = drop c.args.from items in
    let here = slice_drop items c.args.from c.loop-behind.behind ∙ sym c.in-Some.ensures in
    let done = take c.loop-behind.behind rest in
    let low = subst (λ (x : Reading). c.args.begun.inside ≤ x.inside) c.loop-behind.invariant.reading c.loop-behind.invariant.low in
    let inside = inside_grows r item in
    let passed = passed_grows r item in
    let same_inside = ap (λ (x : Reading). x.inside) c.pass.ensures in
    let same_passed = ap (λ (x : Reading). x.passed) c.pass.ensures in
    let place : (c.args.from + c.loop-behind.behind) + 1 ≡ c.args.from + (c.loop-behind.behind + 1) = omega arith in
    record {
      reading = c.pass.ensures ∙ ap (λ x. step x item) c.loop-behind.invariant.reading ∙ sym (after_next c.args.begun rest c.loop-behind.behind item here);
      within = subst (AreWithin c.args.begun.inside) (sym (tree_next c.args.begun rest c.loop-behind.behind item here))
          (within_step (behind c.args.begun done) item c.args.begun.inside (tree c.args.begun done) low c.loop-behind.invariant.within);
      low = subst (λ (x : Reading). c.args.begun.inside ≤ x.inside) (sym c.pass.ensures) (low_step r item c.args.begun.inside c.loop-behind.invariant.low (sym c.is_end.ensures ∙ c.if-is_end.false));
      found = ap (λ (x : Reading). x.found) c.pass.ensures ∙ found_step r item c.loop-behind.invariant.found;
      balanced = subst (λ n. BalancedFrom (c.pass.new.self.inside + c.pass.new.self.passed) (drop n items)) place
          (step_balanced r c.pass.new.self items (c.args.from + c.loop-behind.behind) item (sym c.in-Some.ensures) c.pass.ensures c.loop-behind.invariant.balanced);
      inside = omega (arith, inside, same_inside, c.loop-behind.invariant.inside);
      passed = omega (arith, passed, same_passed, c.loop-behind.invariant.passed);
    }
