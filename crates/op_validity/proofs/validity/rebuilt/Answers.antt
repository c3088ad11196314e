use Rattle.std.proofs.Common.{◌≡◌, ◌+◌, ◌++◌, List, [], take, drop, sym, ap, subst, ◌∙◌}
use Rattle.doc_items.specs.Changes.{ChangeSet, change_set}
use Rattle.doc_items.specs.declared.item.Item.{Item}
use Rattle.doc_op.specs.declared.component.Component.{Component}
use Rattle.doc_op.specs.Actions.{Action, component_actions, running_after, running, actions, actions_from}
use Rattle.doc_op.specs.Refusals.{IsBuilt}
use Rattle.op_validity.specs.Sources.{ahead}
use Rattle.op_validity.specs.Walks.{IsPassable, Gives}
use Rattle.op_validity.proofs.Gives.{gives_refl, gives_trans}
use Rattle.op_validity.proofs.Ways.{passable_at, running_next, actions_next}
use Rattle.op_validity.proofs.validity.rebuilt.Goals as goal

pub loop-component-init : goal.loop-component-init
loop-component-init c =
    let cs = c.as_slice-component-items.result.now in
    record {
      track = ap change_set c.new-track.ensures;
      gives = subst (λ (items : List Item). Gives c.args.document.now [] (actions cs) items c.in_ok-with_capacity.field-0.items (actions cs)) (sym c.as_slice.ensures.value)
          (subst (λ (made : List Item). Gives c.args.document.now [] (actions cs) c.args.document.now made (actions cs)) (sym c.in_ok-with_capacity.ensures.items) (gives_refl c.args.document.now [] (actions cs)));
    }

pub pass-requires : goal.pass-requires
pass-requires c =
    let built = subst (λ (cs : List Component). IsBuilt cs) (sym c.as_slice-component-items.ensures.value) c.as_slice-component-items.ensures.built in
    subst (λ (u : ChangeSet). IsPassable u c.component-item.result) (sym c.loop-component.invariant.track)
    (passable_at c.as_slice-component-items.result.now c.loop-component.component-index c.component-item.result built c.loop-component-test.true c.component-item.is)

pub loop-component-preserved : goal.loop-component-preserved
loop-component-preserved c =
    let cs = c.as_slice-component-items.result.now in
    let i = c.loop-component.component-index in
    let d = c.component-item.result in
    let u : change_set c.running.result.now ≡ running (take i cs) = ap change_set c.running.ensures.value ∙ c.loop-component.invariant.track in
    let more = actions_from (running (take (i + 1) cs)) (drop (i + 1) cs) in
    record {
      track = c.in_ok-pass.ensures ∙ ap (λ w. running_after w d) c.loop-component.invariant.track ∙ running_next cs i d c.loop-component-test.true c.component-item.is;
      gives = gives_trans _ _ _ _ _ _ (actions cs) (component_actions (running (take i cs)) d ++ more) more
          (subst (λ (a : List Action). Gives c.args.document.now [] (actions cs) (ahead c.loop-component.build.rest) c.loop-component.build.items.items a) (actions_next cs i d c.loop-component-test.true c.component-item.is) c.loop-component.invariant.gives)
          (subst (λ (w : ChangeSet). Gives (ahead c.loop-component.build.rest) c.loop-component.build.items.items (component_actions w d ++ more) (ahead c.step.new.self.rest) c.step.new.self.items.items more) u (c.in_ok-step.ensures more));
    }
