use Rattle.std.proofs.Common.{ap, ◌∙◌, None}
use Rattle.std.specs.FinMap as finite
use Rattle.doc_items.proofs.Views.{set-stored}
use Rattle.doc_items.proofs.table.Table.remove.Goals as goal

pub returns : goal.returns
returns c = set-stored c.args.key.now c.self.inside.map c.remove-old.new.self None c.remove-old.ensures.updates ∙ ap (λ m. finite.remove m c.args.key.now) c.self.view_is
