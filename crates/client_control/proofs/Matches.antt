-- What is known of results that were matched.
use Rattle.std.proofs.Common.{◌≡◌, Option, None, Some, Result, Ok, Err, IfOk, IfErr, MatchOption, subst}
use Rattle.doc_op.proofs.Applying.{no_value, same_Some}

pub some_of : {A : Type 0} (N : Type 0) (S : A → Type 0) (o : Option A) (x : A) → o ≡ Some x → MatchOption o N S → S x
some_of N S None x e m = no_value e
some_of N S (Some y) x e m = subst S (same_Some e) m

pub if_ok : {A E : Type 0} {P Q : A → Type 0} (r : Result A E) → IfOk r P → ((x : A) → P x → Q x) → IfOk r Q
if_ok (Ok x) p f = f x p
if_ok (Err e) p f = tt

pub if_err : {A E : Type 0} {P Q : E → Type 0} (r : Result A E) → IfErr r P → ((e : E) → P e → Q e) → IfErr r Q
if_err (Ok x) p f = tt
if_err (Err e) p f = f e p
