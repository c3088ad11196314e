use Rattle.std.proofs.Common.{◌&&◌, sym, ap, ◌∙◌}
use Rattle.doc_items.specs.Changes.{change_set}
use Rattle.op_validity.specs.Walks.{content_meets}
use Rattle.op_validity.proofs.Demands.{is_met_takes}
use Rattle.op_validity.proofs.demand.Demand.is_met.Goals as goal

pub returns-then-agrees : goal.returns-then-agrees
returns-then-agrees c =
    let meets = content_meets c.args.self c.args.item.now.content in
    c.is_met_by.ensures ∙ ap (λ b. b && meets) (sym (sym c.agrees.ensures ∙ c.if-agrees.true)) ∙ is_met_takes (change_set c.args.running.now) c.args.self c.args.item.now

pub returns-else-agrees : goal.returns-else-agrees
returns-else-agrees c =
    let meets = content_meets c.args.self c.args.item.now.content in
    c.if-agrees.false ∙ ap (λ b. b && meets) (sym (sym c.agrees.ensures ∙ c.if-agrees.false)) ∙ is_met_takes (change_set c.args.running.now) c.args.self c.args.item.now
