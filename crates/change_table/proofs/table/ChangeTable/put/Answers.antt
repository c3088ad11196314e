use Rattle.std.proofs.Common.{◌∙◌, string_bytes}
use Rattle.std.specs.FinMap as finite
use Rattle.doc_items.specs.Changes.{key_change}
use Rattle.change_table.proofs.Stored.{put-table}
use Rattle.change_table.proofs.table.ChangeTable.put.Goals as goal

pub returns-clause-ok : goal.returns-clause-ok
returns-clause-ok c =
    put-table (string_bytes c.in_ok-key.key) c.self.inside.map c.insert.new.self c.args.change c.in_ok-_old.ensures.updates
    ∙ (λ i. finite.insert (c.self.view_is i) ((c.in_ok-key.ensures.ok ∙ c.as_str.ensures.bytes) i) (key_change c.args.change))
