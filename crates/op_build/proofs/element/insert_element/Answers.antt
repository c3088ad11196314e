use Rattle.std.proofs.Common.{◌∷◌, [], ◌-◌, List, ℕ, map, ap, refl, ◌∙◌, arith}
use Rattle.std.specs.Str.{chars}
use Rattle.doc_items.specs.declared.item.Content.TheVariants.{Start, End}
use Rattle.doc_op.specs.Actions.{insertion}
use Rattle.op_build.specs.Plans.{around}
use Rattle.op_build.proofs.Insertions.{inserts}
use Rattle.op_build.proofs.element.insert_element.Goals as goal

pub returns-clause-edit : goal.returns-clause-edit
returns-clause-edit g c =
    let items = g.D.Items.items c.args.document.now in
    inserts c.in_ok-op.op items c.args.place c.len.result (Start (chars c.args.kind.now) c.args.attributes.now ∷ End ∷ []) c.in_ok-notes.notes c.in_ok-notes.ensures c.len.ensures.value
    c.in_ok-check_room.ensures.can.1 (tt, (omega arith, refl))
    (c.in_ok-op.ensures.acts ∙ ap (λ (k : List ℕ). around c.args.place (map (insertion c.in_ok-notes.notes) (Start k c.args.attributes.now ∷ End ∷ [])) (c.len.result - c.args.place)) c.in_ok-kind.ensures)
    c.in_ok-op.ensures.normal
