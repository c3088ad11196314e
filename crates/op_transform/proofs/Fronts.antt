-- Results with actions in front.
--     front_none, front_twice     nothing in front;  fronts join
--     when, unless                a test that is passed, or not
--     Meets, Stops                what the walk makes of two lists in front, whatever follows
--     MeetsEarlier                so of one list of the earlier operation
use Rattle.std.proofs.Common.{◌≡◌, ℕ, suc, ◌+◌, Bool, true, false, cond, List, [], ◌++◌, refl, sym, ap, ◌∙◌, append_assoc, arith, Ok, Err}
use Rattle.doc_op.specs.Actions.{Action}
use Rattle.op_transform.specs.Transform.{Outcome, front, transform_from}
use Rattle.op_transform.specs.Walks.{NoInsert}

pub front_none : (r : Outcome) → front [] [] r ≡ r
front_none (Ok p) = refl
front_none (Err k) = refl

pub front_twice : (l e f g : List Action) (r : Outcome) → front l e (front f g r) ≡ front (l ++ f) (e ++ g) r
front_twice l e f g (Ok p) = λ i. Ok (sym (append_assoc l f p.0) i, sym (append_assoc e g p.1) i)
front_twice l e f g (Err k) = refl

pub when : (t : Bool) (r s : Outcome) → t ≡ true → cond t r s ≡ r
when t r s h = ap (λ x. cond x r s) h

pub unless : (t : Bool) (r s : Outcome) → t ≡ false → cond t r s ≡ s
unless t r s h = ap (λ x. cond x r s) h

-- the walk goes past x and y, which gives f and g, and n common items are passed
pub record Meets (k b d : ℕ) (x y f g : List Action) (n b' d' : ℕ) : Type 0 where
  pub is : (ls es : List Action) → transform_from k b (x ++ ls) d (y ++ es) ≡ front f g (transform_from (k + n) b' ls d' es)

-- it is refused within them
pub record Stops (k b d : ℕ) (x y : List Action) (p : ℕ) : Type 0 where
  pub is : (ls es : List Action) → transform_from k b (x ++ ls) d (y ++ es) ≡ Err p

-- it goes past an insertion y of the earlier operation
pub record MeetsEarlier (k b d : ℕ) (y f g : List Action) : Type 0 where
  pub is : (ls es : List Action) → NoInsert ls → transform_from k b ls d (y ++ es) ≡ front f g (transform_from k b ls d es)

-- one item more
pub past_one : (k n b d : ℕ) (f g f' g' ls es : List Action) (r : Outcome) → r ≡ front f' g' (transform_from (suc k + n) b ls d es)
    → front f g r ≡ front (f ++ f') (g ++ g') (transform_from (k + suc n) b ls d es)
past_one k n b d f g f' g' ls es r h =
    let e : suc k + n ≡ k + suc n = omega arith in
    ap (front f g) h ∙ front_twice f g f' g' (transform_from (suc k + n) b ls d es) ∙ ap (λ j. front (f ++ f') (g ++ g') (transform_from j b ls d es)) e

pub past_none : (k b d : ℕ) (ls es : List Action) → transform_from k b ls d es ≡ front [] [] (transform_from (k + 0) b ls d es)
past_none k b d ls es = let e : k ≡ k + 0 = omega arith in ap (λ j. transform_from j b ls d es) e ∙ sym (front_none (transform_from (k + 0) b ls d es))

-- ---- what is done so far stands in front

pub passes : (lo eo : List Action) (k b d : ℕ) (x y : List Action) (lo' eo' : List Action) (k' b' d' : ℕ) (f g : List Action) (n : ℕ)
    → lo' ≡ lo ++ f → eo' ≡ eo ++ g → k' ≡ k + n → Meets k b d x y f g n b' d'
    → (ls es : List Action) → front lo eo (transform_from k b (x ++ ls) d (y ++ es)) ≡ front lo' eo' (transform_from k' b' ls d' es)
passes lo eo k b d x y lo' eo' k' b' d' f g n hl he hk h ls es =
    ap (front lo eo) (h.is ls es) ∙ front_twice lo eo f g (transform_from (k + n) b' ls d' es) ∙ (λ i. front (sym hl i) (sym he i) (transform_from (sym hk i) b' ls d' es))

pub stops : (lo eo : List Action) (k b d : ℕ) (x y : List Action) (p q : ℕ) → q ≡ p → Stops k b d x y p
    → (ls es : List Action) → front lo eo (transform_from k b (x ++ ls) d (y ++ es)) ≡ Err q
stops lo eo k b d x y p q e h ls es = ap (front lo eo) (h.is ls es) ∙ ap Err (sym e)

pub passes_earlier : (lo eo : List Action) (k b d : ℕ) (y lo' eo' : List Action) (k' : ℕ) (f g : List Action)
    → lo' ≡ lo ++ f → eo' ≡ eo ++ g → k' ≡ k → MeetsEarlier k b d y f g
    → (ls es : List Action) → NoInsert ls → front lo eo (transform_from k b ls d (y ++ es)) ≡ front lo' eo' (transform_from k' b ls d es)
passes_earlier lo eo k b d y lo' eo' k' f g hl he hk h ls es ni =
    ap (front lo eo) (h.is ls es ni) ∙ front_twice lo eo f g (transform_from k b ls d es) ∙ (λ i. front (sym hl i) (sym he i) (transform_from (sym hk i) b ls d es))

pub meets_at : (k b d : ℕ) (x y f g : List Action) (n b' d' b2 d2 : ℕ) → b2 ≡ b' → d2 ≡ d' → Meets k b d x y f g n b' d' → Meets k b d x y f g n b2 d2
meets_at k b d x y f g n b' d' b2 d2 p q h = record { is = λ ls es. h.is ls es ∙ (λ i. front f g (transform_from (k + n) (sym p i) ls (sym q i) es)) }
