use Rattle.std.proofs.Common.{sym, subst, ◌∙◌, List, Some}
use Rattle.std.specs.FinMap as finite
use Rattle.doc_items.specs.Maps.{Map}
use Rattle.doc_items.specs.declared.item.Item.{Item}
use Rattle.wavelet_state.specs.Parts.{AreBalanced}
use Rattle.wavelet_state.proofs.Entries.{set-entries}
use Rattle.wavelet_state.proofs.Parts.{balanced_set}
use Rattle.wavelet_state.proofs.documents.Documents.insert.Goals as goal

pub returns-clause-ok : goal.returns-clause-ok
returns-clause-ok c =
    set-entries c.in_ok-name.name c.self.inside.map c.insert.new.self (Some c.args.rope) c.in_ok-_old.ensures.updates
    ∙ (λ i. finite.insert (c.self.view_is i) (c.in_ok-name.ensures i) c.args.rope)

pub invariant_of-self-2 : goal.invariant_of-self-2
invariant_of-self-2 c =
    subst (λ (m : Map (List Item)). AreBalanced m) (sym (set-entries c.in_ok-name.name c.self.inside.map c.insert.new.self (Some c.args.rope) c.in_ok-_old.ensures.updates))
    (balanced_set _ c.in_ok-name.name (Some c.args.rope) c.self.invariant c.requires)
