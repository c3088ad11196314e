-- Cells that are made, one after the other.
--     made_push      one more
--     made_lengths   there are as many cells and passes as values
--     made_at, made_seen, made_unused     what is so of each
use Rattle.std.proofs.Common.{◌≡◌, ℕ, zero, suc, ◌<◌, List, [], ◌∷◌, ◌++◌, length, Some, slice_get, refl, ap, ◌∙◌, arith}
use Rattle.turn_lock.specs.declared.cell.Pass.{Pass}
use Rattle.turn_lock.specs.declared.cell.TurnCell.{TurnCell}
use Rattle.turn_cells.specs.Cells.{IsOfAt, seen_of, IsUnusedOf, IsMade, AreMade}

module _ {T E : Type 0} (entries : T → List E) where
  pub made_push : (vs : List T) (cs : List (TurnCell T E)) (ps : List (Pass T E)) (v : T) (c : TurnCell T E) (p : Pass T E) → AreMade entries vs cs ps → IsMade entries v c p → AreMade entries (vs ++ v ∷ []) (cs ++ c ∷ []) (ps ++ p ∷ [])
  made_push [] [] [] v c p all one = (one, tt)
  made_push [] [] (q ∷ ps) v c p all one = absurd all
  made_push [] (d ∷ cs) ps v c p all one = absurd all
  made_push (w ∷ vs) [] ps v c p all one = absurd all
  made_push (w ∷ vs) (d ∷ cs) [] v c p all one = absurd all
  made_push (w ∷ vs) (d ∷ cs) (q ∷ ps) v c p all one = (all.0, made_push vs cs ps v c p all.1 one)

  pub made_lengths : (vs : List T) (cs : List (TurnCell T E)) (ps : List (Pass T E)) → AreMade entries vs cs ps → (length cs ≡ length vs) × (length ps ≡ length vs)
  made_lengths [] [] [] all = (refl, refl)
  made_lengths [] [] (q ∷ ps) all = absurd all
  made_lengths [] (d ∷ cs) ps all = absurd all
  made_lengths (w ∷ vs) [] ps all = absurd all
  made_lengths (w ∷ vs) (d ∷ cs) [] all = absurd all
  made_lengths (w ∷ vs) (d ∷ cs) (q ∷ ps) all = let r = made_lengths vs cs ps all.1 in (ap suc r.0, ap suc r.1)

  pub made_at : (vs : List T) (cs : List (TurnCell T E)) (ps : List (Pass T E)) → AreMade entries vs cs ps → (k : ℕ) → k < length vs → IsOfAt (slice_get cs k) (slice_get ps k)
  made_at [] cs ps all k l = absurd (omega arith)
  made_at (w ∷ vs) [] ps all k l = absurd all
  made_at (w ∷ vs) (d ∷ cs) [] all k l = absurd all
  made_at (w ∷ vs) (d ∷ cs) (q ∷ ps) all zero l = all.0.own
  made_at (w ∷ vs) (d ∷ cs) (q ∷ ps) all (suc k) l = made_at vs cs ps all.1 k (omega arith)

  pub made_unused : (vs : List T) (cs : List (TurnCell T E)) (ps : List (Pass T E)) → AreMade entries vs cs ps → (k : ℕ) → k < length vs → IsUnusedOf (slice_get ps k)
  made_unused [] cs ps all k l = absurd (omega arith)
  made_unused (w ∷ vs) [] ps all k l = absurd all
  made_unused (w ∷ vs) (d ∷ cs) [] all k l = absurd all
  made_unused (w ∷ vs) (d ∷ cs) (q ∷ ps) all zero l = all.0.unused
  made_unused (w ∷ vs) (d ∷ cs) (q ∷ ps) all (suc k) l = made_unused vs cs ps all.1 k (omega arith)

  pub made_seen : (vs : List T) (cs : List (TurnCell T E)) (ps : List (Pass T E)) → AreMade entries vs cs ps → (k : ℕ) (v : T) → slice_get vs k ≡ Some v → seen_of (slice_get ps k) ≡ entries v
  made_seen [] cs ps all k v e = absurd cc
  made_seen (w ∷ vs) [] ps all k v e = absurd all
  made_seen (w ∷ vs) (d ∷ cs) [] all k v e = absurd all
  made_seen (w ∷ vs) (d ∷ cs) (q ∷ ps) all zero v e = all.0.seen ∙ ap entries (same e)
    where
      same : Some w ≡ Some v → w ≡ v
      same e = cc
  made_seen (w ∷ vs) (d ∷ cs) (q ∷ ps) all (suc k) v e = made_seen vs cs ps all.1 k v e
