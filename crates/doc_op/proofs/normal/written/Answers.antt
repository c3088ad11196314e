use Rattle.doc_op.proofs.Lengths.{input_left, output_left}
use Rattle.doc_op.proofs.normal.written.Goals as goal

pub add-requires-clause-input : goal.add-requires-clause-input
add-requires-clause-input c = input_left c.loop-out.out.builder c.loop-out.cursor.front c.loop-out.cursor.behind _ c.loop-out.invariant.all c.requires.input

pub add-requires-clause-output : goal.add-requires-clause-output
add-requires-clause-output c = output_left c.loop-out.out.builder c.loop-out.cursor.front c.loop-out.cursor.behind _ c.loop-out.invariant.all c.requires.output
