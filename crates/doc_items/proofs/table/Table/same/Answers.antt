use Rattle.std.proofs.Common.{◌∙◌}
use Rattle.doc_items.specs.Maps.{same_values}
use Rattle.doc_items.proofs.Views.{same-decided}
use Rattle.doc_items.proofs.table.Table.same.Goals as goal

pub returns : goal.returns
returns c =
    c.eq.ensures ∙ same-decided c.self.inside.map.entries c.other.inside.map.entries c.len-sorted.ensures.ordered c.len-other_sorted.ensures.ordered
    ∙ (λ i. same_values (c.self.view_is i) (c.other.view_is i))
