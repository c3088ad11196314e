-- Compositions with actions in front.
--     ahead_none, ahead_twice     nothing in front;  fronts join
--     Meets, Stops                what the composition makes of two lists in front, whatever follows
--     MeetsSecond                 so of one list of the second operation
use Rattle.std.proofs.Common.{◌≡◌, ℕ, ◌+◌, Bool, true, false, cond, List, [], ◌++◌, refl, sym, ap, ◌∙◌, append_assoc, arith, Ok, Err}
use Rattle.doc_op.specs.Actions.{Action}
use Rattle.op_compose.specs.Compose.{Composed, ahead, compose}
use Rattle.op_compose.specs.Weaves.{NoDelete}

pub ahead_none : (r : Composed) → ahead [] 0 r ≡ r
ahead_none (Ok c) = refl
ahead_none (Err k) = let e : 0 + k ≡ k = omega arith in ap Err e

pub ahead_twice : (x y : List Action) (n m : ℕ) (r : Composed) → ahead x n (ahead y m r) ≡ ahead (x ++ y) (n + m) r
ahead_twice x y n m (Ok c) = ap Ok (sym (append_assoc x y c))
ahead_twice x y n m (Err k) = let e : n + (m + k) ≡ (n + m) + k = omega arith in ap Err e

pub when : (t : Bool) (r s : Composed) → t ≡ true → cond t r s ≡ r
when t r s h = ap (λ x. cond x r s) h

pub unless : (t : Bool) (r s : Composed) → t ≡ false → cond t r s ≡ s
unless t r s h = ap (λ x. cond x r s) h

-- the composition goes past x and y, which gives z, and n items that the first gives are passed
pub record Meets (x y z : List Action) (n : ℕ) : Type 0 where
  pub is : (f s : List Action) → compose (x ++ f) (y ++ s) ≡ ahead z n (compose f s)

-- it is refused within them
pub record Stops (x y : List Action) (place : ℕ) : Type 0 where
  pub is : (f s : List Action) → compose (x ++ f) (y ++ s) ≡ Err place

-- it goes past an insertion y of the second operation
pub record MeetsSecond (y z : List Action) : Type 0 where
  pub is : (f s : List Action) → NoDelete f → compose f (y ++ s) ≡ ahead z 0 (compose f s)

pub meets_none : Meets [] [] [] 0
meets_none = record { is = λ f s. sym (ahead_none (compose f s)) }

-- one action of each more
pub one_more : (z z' : List Action) (n m k : ℕ) (r q : Composed) → q ≡ ahead z' m r → k ≡ n + m → ahead z n q ≡ ahead (z ++ z') k r
one_more z z' n m k r q h e = ap (ahead z n) h ∙ ahead_twice z z' n m r ∙ ap (λ j. ahead (z ++ z') j r) (sym e)

-- ---- what is done so far stands in front

pub passes : (out : List Action) (place : ℕ) (x y z out' : List Action) (place' n : ℕ) → out' ≡ out ++ z → place' ≡ place + n → Meets x y z n
    → (f s : List Action) → ahead out place (compose (x ++ f) (y ++ s)) ≡ ahead out' place' (compose f s)
passes out place x y z out' place' n o p h f s = ap (ahead out place) (h.is f s) ∙ ahead_twice out z place n (compose f s) ∙ (λ i. ahead (sym o i) (sym p i) (compose f s))

pub passes_second : (out : List Action) (place : ℕ) (y z out' : List Action) (place' : ℕ) → out' ≡ out ++ z → place' ≡ place → MeetsSecond y z
    → (f s : List Action) → NoDelete f → ahead out place (compose f (y ++ s)) ≡ ahead out' place' (compose f s)
passes_second out place y z out' place' o p h f s nd =
    let e : place + 0 ≡ place = omega arith in
    ap (ahead out place) (h.is f s nd) ∙ ahead_twice out z place 0 (compose f s) ∙ (λ i. ahead (sym o i) ((e ∙ sym p) i) (compose f s))

pub stops : (out : List Action) (place : ℕ) (x y : List Action) (n k : ℕ) → k ≡ place + n → Stops x y n → (f s : List Action) → ahead out place (compose (x ++ f) (y ++ s)) ≡ Err k
stops out place x y n k e h f s = ap (ahead out place) (h.is f s) ∙ ap Err (sym e)
