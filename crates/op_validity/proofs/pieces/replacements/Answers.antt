use Rattle.std.proofs.Common.{◌≡◌, ◌≤◌, ◌+◌, ◌++◌, List, [], length, take, drop, Some, Result, Ok, Err, IfOk, sym, ap, subst, ◌∙◌, rules}
use Rattle.doc_items.specs.declared.item.Item.{Item}
use Rattle.doc_op.specs.Apply.{apply}
use Rattle.doc_rope.specs.Replacements.{all_replaced}
use Rattle.doc_items.specs.Changes.{ChangeSet, change_set}
use Rattle.doc_op.specs.declared.component.Component.{Component}
use Rattle.doc_op.specs.Actions.{Action, component_actions, running_after, running, actions, actions_from}
use Rattle.doc_op.specs.Refusals.{IsBuilt}
use Rattle.op_validity.specs.Edits.{MakesAll}
use Rattle.op_validity.specs.Walks.{IsPassable}
use Rattle.op_validity.proofs.Ways.{passable_at, running_next, actions_next, walked}
use Rattle.op_validity.proofs.pieces.replacements.Goals as goal

pub pass-requires : goal.pass-requires
pass-requires c =
    let built = subst (λ (cs : List Component). IsBuilt cs) (sym c.as_slice-component-items.ensures.value) c.as_slice-component-items.ensures.built in
    subst (λ (u : ChangeSet). IsPassable u c.component-item.result) (sym c.loop-component.invariant.track)
    (passable_at c.as_slice-component-items.result.now c.loop-component.component-index c.component-item.result built c.loop-component-test.true c.component-item.is)

pub loop-component-preserved : goal.loop-component-preserved
loop-component-preserved c =
    let cs = c.as_slice-component-items.result.now in
    let i = c.loop-component.component-index in
    let d = c.component-item.result in
    let u : change_set c.running.result.now ≡ running (take i cs) = ap change_set c.running.ensures.value ∙ c.loop-component.invariant.track in
    let more = actions_from (running (take (i + 1) cs)) (drop (i + 1) cs) in
    let step = subst (λ (w : ChangeSet). MakesAll (actions cs) c.loop-component.edits (component_actions w d ++ more) → MakesAll (actions cs) c.step.new.self more) u (c.in_ok-step.ensures.step (actions cs) more) in
    record {
      rope = c.step.ensures.rope ∙ c.loop-component.invariant.rope;
      track = c.in_ok-pass.ensures ∙ ap (λ w. running_after w d) c.loop-component.invariant.track ∙ running_next cs i d c.loop-component-test.true c.component-item.is;
      at = c.in_ok-step.ensures.at;
      makes = step (subst (λ (a : List Action). MakesAll (actions cs) c.loop-component.edits a) (actions_next cs i d c.loop-component-test.true c.component-item.is) c.loop-component.invariant.makes);
    }

mapped : {A E : Type 0} (r : Result A E) (P Q : A → Type 0) → ((a : A) → P a → Q a) → IfOk r P → IfOk r Q
mapped (Ok a) P Q f h = f a h
mapped (Err e) P Q f h = h

pub returns-clause-value : goal.returns-clause-value
returns-clause-value c =
    let cs = c.as_slice-component-items.result.now in
    let e = c.loop-component.edits in
    let acts = actions c.args.op.now in
    let i = c.loop-component.component-index in
    let end : length cs ≤ i = search rules in
    let made : MakesAll (actions cs) e [] = walked (actions cs) e (running (take i cs)) i cs end c.loop-component.invariant.makes in
    let whole : MakesAll acts e [] = subst (λ (z : List Component). MakesAll (actions z) e []) c.as_slice-component-items.ensures.value made in
    mapped c.finish.result _ _ (λ rs h. subst (λ (items : List Item). (out : List Item) → apply acts items ≡ Some out → all_replaced rs.items items ≡ out) c.loop-component.invariant.rope (λ out. h acts out whole)) c.finish.ensures.value
