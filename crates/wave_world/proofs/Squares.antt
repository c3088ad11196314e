-- The square of lists of actions, and of operations.
use Rattle.std.proofs.Common.{◌≡◌, true, refl, Option, None, Some, is_none}
use Rattle.doc_op.specs.Actions.{actions}
use Rattle.doc_op.specs.Apply.{apply}
use Rattle.doc_op.specs.Structure.{first_break}
use Rattle.doc_op.proofs.Applying.{passed}
use Rattle.doc_op.proofs.Structures.{unbroken_is_structured}
use Rattle.op_transform.proofs.Laws.{are_structured, square}
use Rattle.wave_world.specs.Square.{ActionSquare, Square}

pub action_square : ActionSquare
action_square l e document after_later after_earlier s t p q =
    let m = square l e document after_later after_earlier s t p q in
    record { meets = m.0; structured = are_structured l e (m.0.later, m.0.earlier) s t m.0.is; balanced = m.1 }

none : {X : Type 0} (o : Option X) → is_none o ≡ true → o ≡ None
none None e = refl
none (Some x) e = absurd (cc)

pub operation_square : Square
operation_square later earlier document after_later after_earlier p q =
    let l = passed (is_none (first_break later)) (apply (actions later) document) after_later p in
    let e = passed (is_none (first_break earlier)) (apply (actions earlier) document) after_earlier q in
    action_square (actions later) (actions earlier) document after_later after_earlier (unbroken_is_structured later (none _ l.test)) (unbroken_is_structured earlier (none _ e.test)) l.rest e.rest
