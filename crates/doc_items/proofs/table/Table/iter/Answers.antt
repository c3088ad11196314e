use Rattle.std.proofs.Common.{sym, ap, ◌∙◌, map}
use Rattle.std.specs.FinMap as finite
use Rattle.doc_items.specs.Maps.{pair_of}
use Rattle.doc_items.proofs.Views.{entries-stored}
use Rattle.doc_items.proofs.table.Table.iter.Goals as goal

pub returns : goal.returns
returns c = ap (map pair_of) c.iter.ensures.rest ∙ sym (entries-stored c.self.inside.map.entries c.iter.ensures.ordered) ∙ ap finite.entries c.self.view_is
