use Rattle.std.proofs.Common.{ap, sym, ◌∙◌, ◌==◌}
use Rattle.std.specs.FinMap.{len}
use Rattle.doc_items.specs.Changes.{ChangeSet}
use Rattle.doc_items.specs.Maps.{merge}
use Rattle.change_view.specs.Rules.{one_under, one_unlike}
use Rattle.change_table.proofs.Turning.{turned, both_empty}
use Rattle.change_table.proofs.table.ChangeTable.turn_to.Goals as goal

pub returns : goal.returns
returns c = turned c.in_ok-turn.turn c.args.self.now c.args.shown.now c.in_ok-ended.ended c.in_ok-changed.changed
    (c.in_ok-ended.ensures ∙ ap (λ u. merge one_under u c.args.shown.now) c.in_ok-written.ensures)
    (c.in_ok-changed.ensures ∙ ap (λ u. merge one_unlike c.args.shown.now u) c.in_ok-written.ensures)
    c.in_ok-turn.ensures

pub returns-then-is_empty-2 : goal.returns-then-is_empty-2
returns-then-is_empty-2 c = both_empty c.args.self.now c.args.shown.now (ap (λ (m : ChangeSet). len m == 0) (sym c.in_ok-written.ensures) ∙ sym c.is_empty.ensures ∙ c.if-is_empty.true)
    (sym c.is_empty-then-is_empty.ensures ∙ c.if-is_empty-2.true)
