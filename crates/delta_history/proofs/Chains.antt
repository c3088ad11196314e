-- What is known of the parts of a legal history.
--     legal_more, legal_front, legal_after      a delta more, and the two parts of one
--     starts_at, goes_from      where a delta starts, and that it leads on from there
--     some_ops                  it has an operation
--     at_longer                 the points of the front
use Rattle.std.proofs.Common.{◌≡◌, ℕ, ◌<◌, ◌≤◌, true, nat_le, List, [], ◌∷◌, ◌++◌, length, Some, sym, ap, subst, ◌∙◌, arith, append_assoc, append-nil}
use Rattle.std.proofs.lemmas.Bool.{and_parts}
use Rattle.std.proofs.lemmas.Bool.Decides.{nat_tests}
use Rattle.doc_op.proofs.Applying.{same_Some}
use Rattle.wavelet_op.specs.Deltas.{DeltaOf, is_count}
use Rattle.delta_history.specs.Points.{Point, start, next_point, replay, IsAt}
use Rattle.delta_history.specs.Legal.{IsNext, IsLegalFrom}
use Rattle.delta_history.specs.Laws.{GoesOn}

pub legal_more : (name : List ℕ) (b xs : List DeltaOf) (d : DeltaOf) → IsLegalFrom name b xs → IsNext name (b ++ xs) d → IsLegalFrom name b (xs ++ d ∷ [])
legal_more name b [] d l n = (subst (λ z. IsNext name z d) (append-nil b) n, tt)
legal_more name b (x ∷ xs) d l n = (l.0, legal_more name (b ++ x ∷ []) xs d l.1 (subst (λ z. IsNext name z d) (sym (append_assoc b (x ∷ []) xs)) n))

pub goes_on : GoesOn
goes_on name ds d l n = legal_more name [] ds d l n

pub legal_front : (name : List ℕ) (b xs ys : List DeltaOf) → IsLegalFrom name b (xs ++ ys) → IsLegalFrom name b xs
legal_front name b [] ys l = tt
legal_front name b (x ∷ xs) ys l = (l.0, legal_front name (b ++ x ∷ []) xs ys l.1)

pub legal_after : (name : List ℕ) (b xs ys : List DeltaOf) → IsLegalFrom name b (xs ++ ys) → IsLegalFrom name (b ++ xs) ys
legal_after name b [] ys l = subst (λ z. IsLegalFrom name z ys) (sym (append-nil b)) l
legal_after name b (x ∷ xs) ys l = subst (λ z. IsLegalFrom name z ys) (append_assoc b (x ∷ []) xs) (legal_after name (b ++ x ∷ []) xs ys l.1)

-- ---- a delta of it

pub starts_at : (name : List ℕ) (b : List DeltaOf) (d : DeltaOf) (p : Point) → replay (start name) b ≡ Some p → IsNext name b d → d.from ≡ p.at
starts_at name b d p e n = n.starts ∙ ap (λ (z : Point). z.at) (same_Some (sym n.is_head ∙ e))

pub goes_from : (name : List ℕ) (b : List DeltaOf) (d : DeltaOf) (p : Point) → replay (start name) b ≡ Some p → (n : IsNext name b d) → next_point p d ≡ Some n.after
goes_from name b d p e n = subst (λ (z : Point). next_point z d ≡ Some n.after) (same_Some (sym n.is_head ∙ e)) n.goes

le_true : (a b : ℕ) → nat_le a b ≡ true → a ≤ b
le_true a b h = grind (arith, nat_tests)

pub some_of : (n : ℕ) → is_count n ≡ true → 0 < n
some_of n h = let x = le_true 1 n (and_parts (nat_le 1 n) (nat_le n 1000) h).0 in omega (arith, x)

pub some_ops : (name : List ℕ) (b : List DeltaOf) (d : DeltaOf) → IsNext name b d → 0 < length d.ops
some_ops name b d n = some_of (length d.ops) n.some_ops

-- ---- a longer history

pub at_longer : (name : List ℕ) (xs ys : List DeltaOf) (p : Point) → IsAt name xs p → IsAt name (xs ++ ys) p
at_longer name xs ys p a = record { before = a.before; behind = a.behind ++ ys; whole = sym (append_assoc a.before a.behind ys) ∙ ap (λ z. z ++ ys) a.whole; leads = a.leads }
