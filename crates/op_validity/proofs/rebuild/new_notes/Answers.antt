use Rattle.std.proofs.Common.{ap, ◌∙◌}
use Rattle.doc_items.specs.Changes.{change_set, put}
use Rattle.op_validity.proofs.Gives.{new_values_put}
use Rattle.op_validity.proofs.rebuild.new_notes.Goals as goal

pub returns : goal.returns
returns c = c.in_ok-put.ensures.ok ∙ ap (put (change_set c.args.running.now)) c.new-notes.ensures ∙ new_values_put (change_set c.args.running.now)
