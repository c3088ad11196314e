use Rattle.std.proofs.Common.{◌≡◌, List, true, false, sym, subst, ◌∙◌}
use Rattle.std.specs.List.{list_all}
use Rattle.doc_op.specs.declared.component.Component.{Component}
use Rattle.wave_index.specs.Versions.{is_retain}
use Rattle.wave_index.proofs.Changes.{retains_keep, other_changes, first_other, all_retain}
use Rattle.wave_index.proofs.changing.is_changing.Goals as goal

pub returns-then-not-is_retain : goal.returns-then-not-is_retain
returns-then-not-is_retain c =
    let items = c.as_slice-component-items.result.now in
    let other = first_other items c.loop-component.component-index c.component-item.result c.loop-component-test.true c.component-item.is (sym c.is_retain.ensures ∙ c.if-not-is_retain.true) c.loop-component.invariant in
    other_changes c.args.op.now c.requires (subst (λ (cs : List Component). list_all is_retain cs ≡ false) c.as_slice-component-items.ensures.value other)

pub returns : goal.returns
returns c =
    let all = all_retain c.as_slice-component-items.result.now c.loop-component.component-index c.loop-component-test.false c.loop-component.invariant in
    sym (retains_keep c.args.op.now (subst (λ (cs : List Component). list_all is_retain cs ≡ true) c.as_slice-component-items.ensures.value all))
