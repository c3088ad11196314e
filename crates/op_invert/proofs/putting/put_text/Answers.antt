use Rattle.std.proofs.Common.{◌++◌, map, ap, ◌∙◌}
use Rattle.doc_items.specs.Changes.{ChangeSet}
use Rattle.doc_items.specs.declared.item.Content.TheVariants.{Character}
use Rattle.doc_op.specs.Actions.{insertion}
use Rattle.op_invert.proofs.putting.put_text.Goals as goal

pub returns : goal.returns
returns c = c.in_ok-insert.ensures.added ∙ ap (λ (u : ChangeSet). c.args.out.now ++ map (insertion u) (map Character c.args.text.now)) c.in_ok-shown.ensures
