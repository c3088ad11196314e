use Rattle.std.proofs.Common.{◌∙◌, Some, string_bytes}
use Rattle.std.specs.FinMap as finite
use Rattle.doc_items.proofs.Views.{set-stored}
use Rattle.doc_items.proofs.table.Table.insert.Goals as goal

pub returns-clause-ok : goal.returns-clause-ok
returns-clause-ok c =
    set-stored (string_bytes c.in_ok-stored_key.stored_key) c.self.inside.map c.insert.new.self (Some c.in_ok-stored_value.stored_value) c.in_ok-_old.ensures.updates
    ∙ (λ i. finite.insert (c.self.view_is i) (c.in_ok-stored_key.ensures.ok i) (c.in_ok-stored_value.ensures.ok i))
