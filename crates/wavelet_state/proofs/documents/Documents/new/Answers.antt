use Rattle.std.proofs.Common.{sym, ap, subst, List}
use Rattle.std.specs.FinMap as finite
use Rattle.doc_items.specs.Maps.{Map}
use Rattle.doc_items.specs.declared.item.Item.{Item}
use Rattle.wavelet_state.specs.Parts.{AreBalanced}
use Rattle.wavelet_state.proofs.Parts.{balanced_none}
use Rattle.wavelet_state.proofs.documents.Documents.new.Goals as goal

pub invariant_of-result : goal.invariant_of-result
invariant_of-result c = subst (λ (m : Map (List Item)). AreBalanced m) (sym (ap finite.from_entries c.new.ensures.empty)) balanced_none
