use Rattle.std.proofs.Common.{◌≤◌, length, map, subst, arith}
use Rattle.doc_items.specs.Limits.{max_count}
use Rattle.change_table.specs.Joints.{together}
use Rattle.doc_op.specs.Actions.{insertion}
use Rattle.doc_op.specs.Lengths.{input_len}
use Rattle.doc_op.specs.Runs.{contents}
use Rattle.doc_op.proofs.Lengths.{input_len-insertions, output_len-insertions, input_room, output_room}
use Rattle.doc_op.proofs.normal_builder.NormalBuilder.insert_joint.Goals as goal

pub put_inserted-requires-clause-output : goal.put_inserted-requires-clause-output
put_inserted-requires-clause-output c =
    let w = together c.args.joint in
    let cs = contents c.args.run in
    output_room c.take-builder.result c.args.self.now (map (insertion w) cs) (length cs) c.take-builder.ensures.taken (output_len-insertions w cs) c.requires.output

pub put_inserted-requires-clause-input : goal.put_inserted-requires-clause-input
put_inserted-requires-clause-input c =
    let w = together c.args.joint in
    let cs = contents c.args.run in
    input_room c.take-builder.result c.args.self.now (map (insertion w) cs) 0 c.take-builder.ensures.taken (input_len-insertions w cs)
    (omega (arith, subst (λ acts. input_len acts ≤ max_count) c.take-builder.ensures.taken c.take-builder.ensures.input))
