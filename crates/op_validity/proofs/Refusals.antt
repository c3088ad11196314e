-- What is refused isn't valid.
use Rattle.std.proofs.Common.{◌≡◌, ◌≢◌, ℕ, ◌+◌, Bool, true, false, cond, List, [], ◌∷◌, length, refl, sym, ap, ◌∙◌, arith, Option, Some, None, is_none}
use Rattle.doc_items.specs.declared.item.Item.{Item}
use Rattle.doc_op.specs.declared.component.Component.{Component}
use Rattle.doc_op.specs.Actions.{Action, Keep, Ins, Del, actions}
use Rattle.doc_op.specs.Lengths.{input_len}
use Rattle.doc_op.specs.Structure.{first_break}
use Rattle.doc_op.specs.Apply.{keeps, kept, fits, apply, mismatch_from, valid}
use Rattle.doc_op.proofs.Applying.{no_value, mapped, passed}
use Rattle.op_validity.specs.declared.fault.CheckFault.{CheckFault}
use Rattle.op_validity.specs.declared.fault.CheckFault.TheVariants.{NotStructured, Mismatch, WrongLength, Memory}
use Rattle.op_validity.specs.Refused.{IsRefused}

lengths_agree : (acts : List Action) (items out : List Item) → apply acts items ≡ Some out → input_len acts ≡ length items
lengths_agree [] [] out is = refl
lengths_agree [] (x ∷ items) out is = no_value is
lengths_agree (Ins x ∷ more) items out is =
    let m = mapped (λ (o : List Item). x ∷ o) (apply more items) out is in lengths_agree more items m.value m.had
lengths_agree (Keep u a ∷ more) [] out is = no_value is
lengths_agree (Keep u a ∷ more) (x ∷ items) out is =
    let t = passed (keeps u a x) _ out is in
    let m = mapped (λ (o : List Item). kept u a x ∷ o) (apply more items) out t.rest in
    let e = lengths_agree more items m.value m.had in
    omega (arith, e)
lengths_agree (Del c n ∷ more) [] out is = no_value is
lengths_agree (Del c n ∷ more) (x ∷ items) out is =
    let e = lengths_agree more items out (passed (fits c n x) _ out is).rest in
    omega (arith, e)

all_agree : (acts : List Action) (items out : List Item) (p : ℕ) → apply acts items ≡ Some out → mismatch_from p acts items ≡ None
all_agree [] items out p is = refl
all_agree (Ins x ∷ more) items out p is =
    let m = mapped (λ (o : List Item). x ∷ o) (apply more items) out is in all_agree more items m.value p m.had
all_agree (Keep u a ∷ more) [] out p is = refl
all_agree (Keep u a ∷ more) (x ∷ items) out p is =
    let t = passed (keeps u a x) _ out is in
    let m = mapped (λ (o : List Item). kept u a x ∷ o) (apply more items) out t.rest in
    ap (λ b. cond b (mismatch_from (p + 1) more items) (Some p)) t.test ∙ all_agree more items m.value (p + 1) m.had
all_agree (Del c n ∷ more) [] out p is = refl
all_agree (Del c n ∷ more) (x ∷ items) out p is =
    let t = passed (fits c n x) _ out is in
    ap (λ b. cond b (mismatch_from (p + 1) more items) (Some p)) t.test ∙ all_agree more items out (p + 1) t.rest

unless : {A : Type 0} (o : Option A) → ((x : A) → o ≡ Some x → ⊥) → o ≡ None
unless None h = refl
unless (Some x) h = absurd (h x refl)

not_both : (n : ℕ) (o : Option ℕ) → o ≡ Some n → o ≡ None → ⊥
not_both n o e f = no_value (sym f ∙ e)

unapplied : (cs : List Component) (items : List Item) → apply (actions cs) items ≡ None → valid cs items ≡ None
unapplied cs items e = ap (λ (o : Option (List Item)). cond (is_none (first_break cs)) o None) e ∙ either (is_none (first_break cs))
  where
    either : (b : Bool) → ◌≡◌ {A = Option (List Item)} (cond b None None) None
    either true = refl
    either false = refl

pub refused_invalid : (e : CheckFault) (cs : List Component) (items : List Item) → IsRefused e cs items → e ≢ Memory → valid cs items ≡ None
refused_invalid (NotStructured n) cs items h m = ap (λ (o : Option ℕ). cond (is_none o) (apply (actions cs) items) None) h
refused_invalid (Mismatch n) cs items h m = unapplied cs items (unless (apply (actions cs) items) (λ out is. not_both n _ h.1 (all_agree (actions cs) items out 0 is)))
refused_invalid WrongLength cs items h m = unapplied cs items (unless (apply (actions cs) items) (λ out is. h.2 (lengths_agree (actions cs) items out is)))
refused_invalid Memory cs items h m = absurd (m refl)
