use Rattle.op_validity.proofs.rebuild.Rebuild.insert_start.Goals as goal

pub returns : goal.returns
returns c = λ more. rw (← c.in_ok-kind.ensures, ← c.in_ok-attributes.ensures) (c.in_ok-insert.ensures more)
