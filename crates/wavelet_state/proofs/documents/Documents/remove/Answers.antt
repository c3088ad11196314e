use Rattle.std.proofs.Common.{sym, ap, subst, ◌∙◌, List, None, refl}
use Rattle.std.specs.FinMap as finite
use Rattle.doc_items.specs.Maps.{Map}
use Rattle.doc_items.specs.declared.item.Item.{Item}
use Rattle.wavelet_state.specs.Parts.{AreBalanced}
use Rattle.wavelet_state.proofs.Entries.{set-entries}
use Rattle.wavelet_state.proofs.Parts.{balanced_set}
use Rattle.wavelet_state.proofs.documents.Documents.remove.Goals as goal

pub invariant_of-self : goal.invariant_of-self
invariant_of-self c = subst (λ (m : Map (List Item)). AreBalanced m) (sym (set-entries c.args.name.now c.self.inside.map c.remove-old.new.self None c.remove-old.ensures.updates)) (balanced_set _ c.args.name.now None c.self.invariant refl)

pub returns : goal.returns
returns c = set-entries c.args.name.now c.self.inside.map c.remove-old.new.self None c.remove-old.ensures.updates ∙ ap (λ m. finite.remove m c.args.name.now) c.self.view_is
