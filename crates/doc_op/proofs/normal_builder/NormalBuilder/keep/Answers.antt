use Rattle.std.proofs.Common.{◌<◌, replicate, arith}
use Rattle.doc_op.specs.Actions.{Unchanged, keep}
use Rattle.doc_op.proofs.Lengths.{input_len-kept, output_len-kept, input_room, output_room}
use Rattle.doc_op.proofs.Spelling.{spelling_retain}
use Rattle.doc_op.proofs.normal_builder.NormalBuilder.keep.Goals as goal

pub put-requires-clause-spelled : goal.put-requires-clause-spelled
put-requires-clause-spelled c = let some : 0 < c.args.count = omega (arith, c.if-count-eq0.false) in spelling_retain c.args.changes.now c.args.count some

pub put-requires-clause-input : goal.put-requires-clause-input
put-requires-clause-input c = let w = c.args.changes.now in
    input_room c.take-builder.result c.args.self.now (replicate c.args.count (keep w)) c.args.count c.take-builder.ensures.taken (input_len-kept c.args.count w Unchanged) c.requires.input

pub put-requires-clause-output : goal.put-requires-clause-output
put-requires-clause-output c = let w = c.args.changes.now in
    output_room c.take-builder.result c.args.self.now (replicate c.args.count (keep w)) c.args.count c.take-builder.ensures.taken (output_len-kept c.args.count w Unchanged) c.requires.output
