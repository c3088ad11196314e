use Rattle.std.proofs.Common.{◌≡◌, ◌+◌, ◌++◌, List, take, drop, sym, ap, subst, ◌∙◌}
use Rattle.doc_items.specs.Changes.{ChangeSet, change_set}
use Rattle.doc_op.specs.declared.component.Component.{Component}
use Rattle.doc_op.specs.Actions.{Action, component_actions, running_after, running, actions, actions_from}
use Rattle.doc_op.specs.Refusals.{IsBuilt}
use Rattle.op_validity.specs.Sources.{ahead}
use Rattle.op_validity.specs.Walks.{IsPassable, Same}
use Rattle.op_validity.proofs.Walks.{same-trans}
use Rattle.op_validity.proofs.Ways.{fit_at, passable_at, running_next, actions_next}
use Rattle.op_validity.proofs.validity.walk_over.Goals as goal

pub step-requires-clause-fit : goal.step-requires-clause-fit
step-requires-clause-fit c =
    let built = subst (λ (cs : List Component). IsBuilt cs) (sym c.as_slice-component-items.ensures.value) c.as_slice-component-items.ensures.built in
    fit_at c.as_slice-component-items.result.now c.loop-component.component-index c.component-item.result built c.loop-component-test.true c.component-item.is

pub pass-requires : goal.pass-requires
pass-requires c =
    let built = subst (λ (cs : List Component). IsBuilt cs) (sym c.as_slice-component-items.ensures.value) c.as_slice-component-items.ensures.built in
    subst (λ (u : ChangeSet). IsPassable u c.component-item.result) (sym c.loop-component.invariant.track)
    (passable_at c.as_slice-component-items.result.now c.loop-component.component-index c.component-item.result built c.loop-component-test.true c.component-item.is)

pub loop-component-preserved : goal.loop-component-preserved
loop-component-preserved c =
    let cs = c.as_slice-component-items.result.now in
    let i = c.loop-component.component-index in
    let d = c.component-item.result in
    let u : change_set c.running.result.now ≡ running (take i cs) = ap change_set c.running.ensures.value ∙ c.loop-component.invariant.track in
    let more = actions_from (running (take (i + 1) cs)) (drop (i + 1) cs) in
    record {
      track = c.in_ok-pass.ensures ∙ ap (λ w. running_after w d) c.loop-component.invariant.track ∙ running_next cs i d c.loop-component-test.true c.component-item.is;
      same = same-trans _ _ _ _ _ _ (actions cs) (component_actions (running (take i cs)) d ++ more) more
          (subst (λ (a : List Action). Same 0 (ahead c.args.items) (actions cs) c.loop-component.walk.place (ahead c.loop-component.walk.rest) a) (actions_next cs i d c.loop-component-test.true c.component-item.is) c.loop-component.invariant.same)
          (subst (λ (w : ChangeSet). Same c.loop-component.walk.place (ahead c.loop-component.walk.rest) (component_actions w d ++ more) c.step.new.self.place (ahead c.step.new.self.rest) more) u (c.in_ok-step.ensures.step more));
      bound = c.in_ok-step.ensures.bound;
    }
