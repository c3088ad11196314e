use Rattle.std.proofs.Common.{rules, ap, ◌+◌, refl, [], ◌≡◌, ◌∙◌, sym, subst, length, reverse, true≢false}
use Rattle.robot_host.specs.Places.{AreWithin}
use Rattle.robot_host.proofs.Shown.{one_on, popped}
use Rattle.robot_host.proofs.showing.show_places.Goals as goal

pub show_at-requires-clause-within : goal.show_at-requires-clause-within
show_at-requires-clause-within g c = (subst (AreWithin (length c.args.history.now.deltas)) (popped c.loop-place.left.items c.pop.new.self.items c.in-Some.place c.pop.result c.in-Some.is c.pop.ensures.items) c.loop-place.invariant.within).0

pub returns-then-not-stays-clause-all : goal.returns-then-not-stays-clause-all
returns-then-not-stays-clause-all g c = record {
  left = reverse c.pop.new.self.items;
  reached = c.in-Some.place + 1;
  shown = one_on c.pop.new.self.items c.in-Some.is c.pop.ensures.items c.loop-place.invariant.shown c.loop-place.invariant.here c.in_ok-stays.ensures.shown;
  through = λ here. absurd (true≢false (sym here ∙ search rules));
  gone = λ gone. refl;
}

pub returns-clause-all : goal.returns-clause-all
returns-clause-all g c =
    let none : c.loop-place.left.items ≡ [] = search rules in
    record {
      left = reverse c.loop-place.left.items;
      reached = c.loop-place.count;
      shown = c.loop-place.invariant.shown;
      through = λ here. (ap reverse none, ap length c.deltas.ensures.value);
      gone = λ gone. absurd (true≢false (sym c.loop-place.invariant.here ∙ gone));
    }

pub loop-place-preserved : goal.loop-place-preserved
loop-place-preserved g c = record {
  shown = one_on c.pop.new.self.items c.in-Some.is c.pop.ensures.items c.loop-place.invariant.shown c.loop-place.invariant.here c.in_ok-stays.ensures.shown;
  here = search rules;
  within = (subst (AreWithin (length c.args.history.now.deltas)) (popped c.loop-place.left.items c.pop.new.self.items c.in-Some.place c.pop.result c.in-Some.is c.pop.ensures.items) c.loop-place.invariant.within).1;
  reached = c.in_ok-stays.ensures.reached;
}
