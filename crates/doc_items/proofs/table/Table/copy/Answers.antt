use Rattle.std.proofs.Common.{◌∙◌}
use Rattle.doc_items.proofs.Views.{same-stored}
use Rattle.doc_items.proofs.table.Table.copy.Goals as goal

pub returns : goal.returns
returns c = same-stored c.self.inside.map.entries c.in_ok-clone.field-0.entries c.in_ok-clone.ensures.cases ∙ c.self.view_is
