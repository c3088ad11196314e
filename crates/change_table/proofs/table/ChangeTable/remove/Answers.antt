use Rattle.std.proofs.Common.{ap, ◌∙◌}
use Rattle.std.specs.FinMap as finite
use Rattle.change_table.proofs.Stored.{remove-table}
use Rattle.change_table.proofs.table.ChangeTable.remove.Goals as goal

pub returns : goal.returns
returns c = remove-table c.args.key.now c.self.inside.map c.remove-old.new.self c.remove-old.ensures.updates ∙ ap (λ m. finite.remove m c.args.key.now) c.self.view_is
