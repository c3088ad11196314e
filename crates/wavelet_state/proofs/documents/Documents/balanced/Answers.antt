use Rattle.std.proofs.Common.{List, subst}
use Rattle.doc_items.specs.Maps.{Map}
use Rattle.doc_items.specs.declared.item.Item.{Item}
use Rattle.wavelet_state.specs.Parts.{AreBalanced}
use Rattle.wavelet_state.proofs.documents.Documents.balanced.Goals as goal

pub returns : goal.returns
returns c = subst (λ (m : Map (List Item)). AreBalanced m) c.self.view_is c.self.invariant
