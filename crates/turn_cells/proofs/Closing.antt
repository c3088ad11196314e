-- Cells that are closed, from the last on.
--     IsClosing       of the passes `all` these are left, and `vs` are the values of the others
--     closes          one more
--     closed          all of them
--     later_at        what is so of each value
--     no_items        a list without length
use Rattle.std.proofs.Common.{◌≡◌, ℕ, zero, suc, ◌+◌, List, [], ◌∷◌, ◌++◌, length, length-append, append-nil, append_assoc, Option, Some, slice_get, refl, sym, ap, ◌∙◌, subst, arith}
use mathlib.Core.List.{IsPrefix}
use Rattle.turn_lock.specs.declared.cell.Pass.{Pass}
use Rattle.turn_lock.specs.declared.cell.TurnCell.{TurnCell}
use Rattle.turn_lock.specs.Passes.{seen, IsOf}
use Rattle.turn_cells.specs.Cells.{IsOfAt, ArePairs, seen_of, AreLater}
use Rattle.turn_cells.proofs.Places.{get_before, get_last}

module _ {T E : Type 0} (entries : T → List E) where
  pub record IsClosing (all : List (Pass T E)) (cs : List (TurnCell T E)) (ps : List (Pass T E)) (vs : List T) : Type 0 where
    pub tail : List (Pass T E)
    pub is : ps ++ tail ≡ all
    pub even : length cs ≡ length ps
    pub pairs : ArePairs (length ps) cs ps
    pub later : AreLater entries tail vs
    pub counted : length ps + length vs ≡ length all

  pub begins : (all : List (Pass T E)) (cs : List (TurnCell T E)) → length cs ≡ 16 → length all ≡ 16 → ArePairs 16 cs all → (vs : List T) → vs ≡ [] → IsClosing all cs all vs
  begins all cs sc sa pairs vs none = record { tail = []; is = append-nil all; even = omega arith; pairs = λ k l. pairs k (omega arith); later = subst (AreLater entries []) (sym none) tt; counted = ap (λ (w : List T). length all + length w) none ∙ omega arith }

  pub last_pair : (cs : List (TurnCell T E)) (ps : List (Pass T E)) (c : TurnCell T E) (p : Pass T E) → length (cs ++ c ∷ []) ≡ length (ps ++ p ∷ []) → ArePairs (length (ps ++ p ∷ [])) (cs ++ c ∷ []) (ps ++ p ∷ []) → IsOf c p
  last_pair cs ps c p even pairs =
      let one = length-append cs (c ∷ []) in
      let two = length-append ps (p ∷ []) in
      let same : length ps ≡ length cs = omega arith in
      let h : IsOfAt (slice_get (cs ++ c ∷ []) (length ps)) (slice_get (ps ++ p ∷ []) (length ps)) = pairs (length ps) (omega arith) in
      subst (λ (z : Option (TurnCell T E) × Option (Pass T E)). IsOfAt z.0 z.1) (λ j. ((ap (slice_get (cs ++ c ∷ [])) same ∙ get_last cs c) j, get_last ps p j)) h

  pub closes : (all : List (Pass T E)) (cs : List (TurnCell T E)) (ps : List (Pass T E)) (vs : List T) (c : TurnCell T E) (p : Pass T E) (v : T) → IsClosing all (cs ++ c ∷ []) (ps ++ p ∷ []) vs → IsPrefix (seen p) (entries v) → IsClosing all cs ps (v ∷ vs)
  closes all cs ps vs c p v inv begins =
      let one = length-append cs (c ∷ []) in
      let two = length-append ps (p ∷ []) in
      let even = inv.even in
      let counted = inv.counted in
      record {
        tail = p ∷ inv.tail;
        is = sym (append_assoc ps (p ∷ []) inv.tail) ∙ inv.is;
        even = omega arith;
        pairs = λ k l. subst (λ (z : Option (TurnCell T E) × Option (Pass T E)). IsOfAt z.0 z.1) (λ j. (get_before cs c k (omega arith) j, get_before ps p k l j)) (inv.pairs k (omega arith));
        later = (begins, inv.later);
        counted = omega arith;
      }

  pub closed : (all : List (Pass T E)) (cs : List (TurnCell T E)) (ps : List (Pass T E)) (vs : List T) → IsClosing all cs ps vs → length cs ≡ 0 → AreLater entries all vs
  closed all cs [] vs inv none = subst (λ (l : List (Pass T E)). AreLater entries l vs) inv.is inv.later
  closed all cs (p ∷ ps) vs inv none = let even = inv.even in absurd (omega arith)

  pub later_at : (ps : List (Pass T E)) (vs : List T) → AreLater entries ps vs → (k : ℕ) (v : T) → slice_get vs k ≡ Some v → IsPrefix (seen_of (slice_get ps k)) (entries v)
  later_at [] [] all k v e = absurd cc
  later_at [] (w ∷ vs) all k v e = absurd all
  later_at (p ∷ ps) [] all k v e = absurd all
  later_at (p ∷ ps) (w ∷ vs) all zero v e = subst (λ (x : T). IsPrefix (seen p) (entries x)) (same e) all.0
    where
      same : Some w ≡ Some v → w ≡ v
      same e = cc
  later_at (p ∷ ps) (w ∷ vs) all (suc k) v e = later_at ps vs all.1 k v e

pub no_items : {A : Type 0} (xs : List A) → length xs ≡ 0 → xs ≡ []
no_items [] e = refl
no_items (x ∷ xs) e = absurd (omega arith)
