-- What a result of the transform tells of the parts that it is made from.
--     no_ok, same_Ok       a refusal is no result; two results that are equal
--     fronted, passed_ok   the results after a front, and after a test
use Rattle.std.proofs.Common.{◌≡◌, ℕ, Bool, true, false, cond, refl, sym, ap, true≢false, Result, Ok, Err, List, ◌++◌}
use Rattle.doc_op.specs.Actions.{Action}
use Rattle.op_transform.specs.Transform.{Both, Outcome, front}

pub same_Ok : {A : Type 0} {x y : A} → ◌≡◌ {A = Result A ℕ} (Ok x) (Ok y) → x ≡ y
same_Ok {x = x} e = ap (λ o. elim o [ Ok y ↦ y | Err k ↦ x ]) e

pub no_ok : {A C : Type 0} {x : A} {k : ℕ} → ◌≡◌ {A = Result A ℕ} (Err k) (Ok x) → C
no_ok e = absurd (true≢false (sym (ap (λ o. elim o [ Ok y ↦ true | Err j ↦ false ]) e)))

-- the results of which these are the fronts
pub record Fronted (l e : List Action) (r : Outcome) (p : Both) : Type 0 where
  pub value : Both
  pub had : r ≡ Ok value
  pub gives : (l ++ value.0, e ++ value.1) ≡ p

pub fronted : (l e : List Action) (r : Outcome) (p : Both) → front l e r ≡ Ok p → Fronted l e r p
fronted l e (Err k) p is = no_ok is
fronted l e (Ok q) p is = record { value = q; had = refl; gives = same_Ok is }

pub record PassedOk {A : Type 0} (b : Bool) (o : Result A ℕ) (y : A) : Type 0 where
  pub test : b ≡ true
  pub rest : o ≡ Ok y

pub passed_ok : {A : Type 0} (k : ℕ) (b : Bool) (o : Result A ℕ) (y : A) → cond b o (Err k) ≡ Ok y → PassedOk b o y
passed_ok k true o y e = record { test = refl; rest = e }
passed_ok k false o y e = no_ok e
