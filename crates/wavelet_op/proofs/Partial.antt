-- Partial results, and tests.
--     and_then_some      what a second step tells of the first
--     next_ok, ok_some   so of results
use Rattle.std.proofs.Common.{◌≡◌, Bool, true, false, refl, sym, ap, ◌∙◌, true≢false, Option, None, Some, Result, Ok, Err, option_and_then}
use Rattle.std.specs.Result.{result_ok}
use Rattle.doc_op.proofs.Applying.{no_value, same_Some}
use Rattle.wavelet_op.specs.Grids.{and_next}

pub and_then_some : {A B : Type 0} (m : Option A) (f : A → Option B) (y : B) → option_and_then f m ≡ Some y → (x : A) × (m ≡ Some x) × (f x ≡ Some y)
and_then_some None f y e = no_value e
and_then_some (Some x) f y e = (x, refl, e)

pub and_then_same : {A B : Type 0} (m : Option A) (f g : A → Option B) → ((x : A) → f x ≡ g x) → option_and_then f m ≡ option_and_then g m
and_then_same None f g h = refl
and_then_same (Some x) f g h = h x

pub and_then_twice : {A B C : Type 0} (m : Option A) (f : A → Option B) (g : B → Option C) → option_and_then g (option_and_then f m) ≡ option_and_then (λ x. option_and_then g (f x)) m
and_then_twice None f g = refl
and_then_twice (Some x) f g = refl

pub next_ok : {A B E : Type 0} (f : A → Result B E) (r : Result A E) (y : B) → and_next f r ≡ Ok y → (x : A) × (r ≡ Ok x) × (f x ≡ Ok y)
next_ok f (Ok x) y e = (x, refl, e)
next_ok f (Err k) y e = absurd (cc)

pub ok_some : {A E : Type 0} (r : Result A E) (y : A) → result_ok r ≡ Some y → r ≡ Ok y
ok_some (Ok x) y e = ap Ok (same_Some e)
ok_some (Err k) y e = no_value e

pub both : {b : Bool} → b ≡ true → b ≡ false → ⊥
both p q = true≢false (sym p ∙ q)

pub same_tests : (a b : Bool) → (a ≡ true → b ≡ true) → (b ≡ true → a ≡ true) → a ≡ b
same_tests true b f g = sym (f refl)
same_tests false true f g = g refl
same_tests false false f g = refl
