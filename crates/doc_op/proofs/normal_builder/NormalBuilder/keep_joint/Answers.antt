use Rattle.std.proofs.Common.{replicate}
use Rattle.change_table.specs.Joints.{together}
use Rattle.doc_op.specs.Actions.{Unchanged, keep}
use Rattle.doc_op.proofs.Lengths.{input_len-kept, output_len-kept, input_room, output_room}
use Rattle.doc_op.proofs.Spelling.{spelling_retain}
use Rattle.doc_op.proofs.normal_builder.NormalBuilder.keep_joint.Goals as goal

pub put-requires-clause-spelled : goal.put-requires-clause-spelled
put-requires-clause-spelled c = spelling_retain (together c.args.joint) c.args.count c.requires.some

pub put-requires-clause-input : goal.put-requires-clause-input
put-requires-clause-input c = let w = together c.args.joint in
    input_room c.take-builder.result c.args.self.now (replicate c.args.count (keep w)) c.args.count c.take-builder.ensures.taken (input_len-kept c.args.count w Unchanged) c.requires.input

pub put-requires-clause-output : goal.put-requires-clause-output
put-requires-clause-output c = let w = together c.args.joint in
    output_room c.take-builder.result c.args.self.now (replicate c.args.count (keep w)) c.args.count c.take-builder.ensures.taken (output_len-kept c.args.count w Unchanged) c.requires.output
