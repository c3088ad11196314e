use Rattle.std.proofs.Common.{◌≤◌, length, map, subst, arith}
use Rattle.doc_items.specs.Limits.{max_count}
use Rattle.change_table.specs.Joints.{together}
use Rattle.doc_op.specs.Actions.{deletion}
use Rattle.doc_op.specs.Lengths.{output_len}
use Rattle.doc_op.specs.Runs.{contents}
use Rattle.doc_op.proofs.Lengths.{input_len-deletions, output_len-deletions, input_room, output_room}
use Rattle.doc_op.proofs.normal_builder.NormalBuilder.delete_joint.Goals as goal

pub put_deleted-requires-clause-input : goal.put_deleted-requires-clause-input
put_deleted-requires-clause-input c =
    let w = together c.args.joint in
    let cs = contents c.args.run in
    input_room c.take-builder.result c.args.self.now (map (deletion w) cs) (length cs) c.take-builder.ensures.taken (input_len-deletions w cs) c.requires.input

pub put_deleted-requires-clause-output : goal.put_deleted-requires-clause-output
put_deleted-requires-clause-output c =
    let w = together c.args.joint in
    let cs = contents c.args.run in
    output_room c.take-builder.result c.args.self.now (map (deletion w) cs) 0 c.take-builder.ensures.taken (output_len-deletions w cs)
    (omega (arith, subst (λ acts. output_len acts ≤ max_count) c.take-builder.ensures.taken c.take-builder.ensures.output))
