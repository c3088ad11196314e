use Rattle.std.proofs.Common.{List, sym, subst}
use Rattle.doc_items.specs.Maps.{Map}
use Rattle.doc_items.specs.declared.item.Item.{Item}
use Rattle.wavelet_state.specs.Parts.{IsTrim}
use Rattle.wavelet_state.proofs.Drafts.{trim_none}
use Rattle.wavelet_state.proofs.state.WaveletState.new.Goals as goal

pub invariant_of-result : goal.invariant_of-result
invariant_of-result c = subst (λ (m : Map (List Item)). IsTrim m) (sym c.new-2.ensures) trim_none
