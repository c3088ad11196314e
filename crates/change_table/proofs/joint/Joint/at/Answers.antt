use Rattle.std.proofs.Common.{sym, ◌∙◌}
use Rattle.doc_items.proofs.Maps.{get-merge}
use Rattle.change_view.specs.Rules.{combined}
use Rattle.change_view.proofs.Sets.{rule_none}
use Rattle.change_table.proofs.joint.Joint.at.Goals as goal

pub returns-clause-value : goal.returns-clause-value
returns-clause-value c =
    c.combine.ensures.value ∙ (λ i. combined c.args.self.rule (c.at.ensures.value i) (c.at-2.ensures.value i))
    ∙ sym (get-merge (combined c.args.self.rule) c.args.self.first.now c.args.self.second.now c.args.key.now (rule_none c.args.self.rule))
