use Rattle.std.proofs.Common.{◌≡◌, ap, sym, ◌∙◌, Some}
use Rattle.std.specs.Option.{option_copied}
use Rattle.op_build.specs.Edits.{attributes_at}
use Rattle.op_build.specs.Plans.{one_change}
use Rattle.op_build.proofs.Changed.{start_at, sets_attribute, some_change}
use Rattle.op_build.proofs.attribute.set_attribute.Goals as goal

pub updated-requires-clause-some : goal.updated-requires-clause-some
updated-requires-clause-some g c = some_change _ _ _ _ c.in_ok-changes.ensures.value

pub returns-clause-edit : goal.returns-clause-edit
returns-clause-edit g c =
    let items = g.D.Items.items c.args.document.now in
    let m = c.in-Some.attributes.now in
    let there : attributes_at items c.args.place ≡ Some m = sym c.attributes_at.ensures ∙ ap option_copied c.in-Some.is in
    sets_attribute items c.args.place m c.args.key.now (option_copied c.args.value) (start_at items c.args.place m there) c.in_ok-op.op c.len.result _
    (c.in_ok-changes.ensures.value ∙ ap (λ o. one_change c.args.key.now o (option_copied c.args.value)) c.get.ensures) c.len.ensures.value c.in_ok-op.ensures.acts c.in_ok-op.ensures.normal
