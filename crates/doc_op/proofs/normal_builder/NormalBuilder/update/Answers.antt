use Rattle.std.proofs.Common.{◌∷◌, [], refl}
use Rattle.doc_items.specs.Changes.{change_set}
use Rattle.doc_op.specs.Actions.{Keep, Update}
use Rattle.doc_op.proofs.Lengths.{input_room, output_room}
use Rattle.doc_op.proofs.normal_builder.NormalBuilder.update.Goals as goal

pub put_lone-requires-clause-input : goal.put_lone-requires-clause-input
put_lone-requires-clause-input c = input_room c.take-builder.result c.args.self.now (Keep c.args.changes.now (Update (change_set c.in_ok-to_changes.field-0)) ∷ []) 1 c.take-builder.ensures.taken refl c.requires.input

pub put_lone-requires-clause-output : goal.put_lone-requires-clause-output
put_lone-requires-clause-output c = output_room c.take-builder.result c.args.self.now (Keep c.args.changes.now (Update (change_set c.in_ok-to_changes.field-0)) ∷ []) 1 c.take-builder.ensures.taken refl c.requires.output
