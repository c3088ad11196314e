use Rattle.std.proofs.Common.{◌≡◌, ◌-◌, List, ℕ, map, ap, ◌∙◌}
use Rattle.std.specs.Str.{chars}
use Rattle.doc_items.specs.declared.item.Content.TheVariants.{Character}
use Rattle.doc_op.specs.Actions.{insertion}
use Rattle.op_build.specs.Edits.{left_notes}
use Rattle.op_build.specs.Plans.{around}
use Rattle.op_build.proofs.Insertions.{inserts, text_balanced}
use Rattle.op_build.proofs.typing.type_at.Goals as goal

pub returns-clause-edit : goal.returns-clause-edit
returns-clause-edit g c =
    let items = g.D.Items.items c.args.document.now in
    let text : c.as_slice.result.now ≡ chars c.args.text.now = c.as_slice.ensures.value ∙ c.in_ok-text.ensures in
    inserts c.in_ok-op.op items c.args.place c.len-2.result (map Character (chars c.args.text.now)) c.in_ok-notes.notes c.in_ok-notes.ensures c.len-2.ensures.value
    c.in_ok-check_room.ensures.can.1 (text_balanced (left_notes items c.args.place) (chars c.args.text.now))
    (c.in_ok-op.ensures.acts ∙ ap (λ (t : List ℕ). around c.args.place (map (insertion c.in_ok-notes.notes) (map Character t)) (c.len-2.result - c.args.place)) text)
    c.in_ok-op.ensures.normal
