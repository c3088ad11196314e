use Rattle.op_validity.proofs.Replacing.{started}
use Rattle.op_validity.proofs.edits.Edits.new.Goals as goal

pub returns-clause-all : goal.returns-clause-all
returns-clause-all c = λ all. started all c.args.rope.now c.reader.result c.new.result.items c.new-2.result.items c.reader.ensures c.new.ensures.items c.new-2.ensures.items
