use Rattle.std.proofs.Common.{ap, sym, ◌∙◌, is_eq, Some, option_map}
use Rattle.std.specs.FinMap as finite
use Rattle.doc_items.specs.Changes.{key_change}
use Rattle.doc_items.proofs.ChangeSets.{at-is}
use Rattle.change_view.specs.Lists.{Entry}
use Rattle.change_table.proofs.Stored.{get-table}
use Rattle.change_table.proofs.table.ChangeTable.at.Goals as goal

pub returns-in-Some-clause-value : goal.returns-in-Some-clause-value
returns-in-Some-clause-value c =
    ap (λ (e : Entry). Some e.1) c.stored.ensures.same ∙ ap (option_map key_change) c.in-Some.ensures.value ∙ sym (get-table c.self.inside.map c.args.key.now)
    ∙ ap (λ m. finite.get m c.args.key.now) c.self.view_is

pub returns-in-Some-clause-key : goal.returns-in-Some-clause-key
returns-in-Some-clause-key c = ap (λ (e : Entry). e.0) c.stored.ensures.same ∙ sym (at-is c.args.key.now _ (ap is_eq c.in-Some.ensures.same_key))

pub returns-in-None-clause-value : goal.returns-in-None-clause-value
returns-in-None-clause-value c = ap (option_map key_change) c.in-None.ensures.value ∙ sym (get-table c.self.inside.map c.args.key.now) ∙ ap (λ m. finite.get m c.args.key.now) c.self.view_is
