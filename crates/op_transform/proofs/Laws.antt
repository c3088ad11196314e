-- The laws of the transform.
--     are_structured      both results of structured operations are structured
--     square              operations that apply to one document have a transform, whose results meet in one document, balanced
--                         where the first was
use Rattle.std.proofs.Common.{◌≡◌, ◌<◌, List, Some, Ok, arith, refl}
use Rattle.doc_items.specs.Balance.{Balanced}
use Rattle.doc_items.specs.declared.item.Item.{Item}
use Rattle.doc_op.specs.Actions.{Action}
use Rattle.doc_op.specs.Apply.{apply}
use Rattle.doc_op.specs.Structure.{Structured}
use Rattle.doc_op.proofs.Applying.{keeps_balance}
use Rattle.op_transform.specs.Square.{Meets, AreStructured}
use Rattle.op_transform.specs.Transform.{Both, transform}
use Rattle.op_transform.proofs.Meeting.{meets}
use Rattle.op_transform.proofs.Structures.{ResultDepths, both_structured}

no_depths : ResultDepths 0 0 0 0 0 0 0 0
no_depths = grind arith

pub are_structured : (l e : List Action) (p : Both) → Structured l → Structured e → transform l e ≡ Ok p → AreStructured p
are_structured l e p s t is = both_structured 0 0 l 0 0 e s t (λ (h : 0 < 0). absurd (omega arith)) 0 0 0 0 0 no_depths p is

pub square : (l e : List Action) (document after_later after_earlier : List Item) → Structured l → Structured e → apply l document ≡ Some after_later → apply e document ≡ Some after_earlier
    → (m : Meets (transform l e) after_later after_earlier) × (Balanced document → Balanced m.out)
square l e document after_later after_earlier s t p q =
    let m = meets 0 0 l 0 e document after_later after_earlier p q in
    let r = are_structured l e (m.later, m.earlier) s t m.is in
    (m, λ b. keeps_balance m.later after_earlier m.out 0 0 0 0 refl r.0 (keeps_balance e document after_earlier 0 0 0 0 refl t b q) m.later_applies)
