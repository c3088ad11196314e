use Rattle.doc_op.specs.Actions.{actions}
use Rattle.load_script.proofs.Erasures.{erased_one, cut_one, past_all}
use Rattle.load_script.proofs.planning.erasing.Goals as goal

pub returns-in-Ok : goal.returns-in-Ok
returns-in-Ok c = erased_one c.args.rope.now c.args.place (actions c.in-Ok.op) c.in-Ok.ensures.can c.in-Ok.ensures.edit.is

pub returns-in-Err-OutOfRange : goal.returns-in-Err-OutOfRange
returns-in-Err-OutOfRange c =
    let why = rw c.in-Err-OutOfRange.field-0-is at c.in-Err-OutOfRange.ensures.refused in
    past_all c.args.rope.now c.args.place why.1

pub returns-in-Err-CutsElement : goal.returns-in-Err-CutsElement
returns-in-Err-CutsElement c =
    let why = rw c.in-Err-CutsElement.field-0-is at c.in-Err-CutsElement.ensures.refused in
    cut_one c.args.rope.now c.args.place why.2
