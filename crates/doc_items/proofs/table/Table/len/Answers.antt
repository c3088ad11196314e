use Rattle.std.proofs.Common.{sym, ap, ◌∙◌, length}
use Rattle.std.proofs.lemmas.List.{length-map}
use Rattle.std.specs.FinMap as finite
use Rattle.doc_items.specs.Maps.{pair_of}
use Rattle.doc_items.proofs.Views.{entries-stored}
use Rattle.doc_items.proofs.table.Table.len.Goals as goal

pub returns : goal.returns
returns c = c.len.ensures.len ∙ sym (length-map c.self.inside.map.entries pair_of) ∙ ap length (sym (entries-stored c.self.inside.map.entries c.len.ensures.ordered)) ∙ ap (λ m. length (finite.entries m)) c.self.view_is
