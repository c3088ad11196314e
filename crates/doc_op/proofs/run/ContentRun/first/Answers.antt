use Rattle.std.proofs.Common.{take, sym, ap, ◌∙◌}
use Rattle.std.proofs.lemmas.List.{take-map}
use Rattle.doc_items.specs.declared.item.Content.TheVariants.{Character}
use Rattle.doc_op.specs.declared.run.ContentRun.{ContentRun}
use Rattle.doc_op.specs.Runs.{contents}
use Rattle.doc_op.proofs.run.ContentRun.first.Goals as goal

pub returns-in-Characters : goal.returns-in-Characters
returns-in-Characters c = sym (take-map Character c.args.count c.in-Characters.text.now) ∙ ap (λ (r : ContentRun). take c.args.count (contents r)) (sym c.in-Characters.is)
