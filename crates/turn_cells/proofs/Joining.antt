-- Passes that are split and joined, one after the other.
--     IsSplitOf       a second pass, which has seen as much
--     IsJoinedOf      one after a join: it begins with both, and its counts stay
--     IsJoining       the passes `ls` are left of `os` to join; `fs` became `ps`
--     joins           a step of that
--     set_pass        what a split leaves of the passes
use Rattle.std.proofs.Common.{◌≡◌, ℕ, ◌<◌, ◌≤◌, ◌+◌, List, [], ◌∷◌, ◌++◌, length, length-append, length-set, Option, Some, slice_get, set, refl, sym, ap, ◌∙◌, subst, arith}
use mathlib.Core.Logic.{dite}
use mathlib.Core.List.{IsPrefix}
use native.Mathlib.Decide.{ℕ_discrete}
use Rattle.turn_lock.specs.declared.cell.Pass.{Pass}
use Rattle.turn_lock.specs.declared.cell.TurnCell.{TurnCell}
use Rattle.turn_lock.specs.Passes.{seen, loads, added, IsOf, IsSameView}
use Rattle.turn_cells.specs.Cells.{IsOfAt, ArePairs, seen_of, loads_of, added_of, IsUnusedOf, IsSameOf}
use Rattle.turn_cells.proofs.Places.{get_before, get_last, get_set_same, get_set_other, each_set, each_push}

module _ {T E : Type 0} where
  pub record IsSplitOf (c : Option (TurnCell T E)) (o z : Option (Pass T E)) : Type 0 where
    pub own : IsOfAt c z
    pub seen : seen_of z ≡ seen_of o
    pub unused : IsUnusedOf z

  pub record IsJoinedOf (f o z : Option (Pass T E)) : Type 0 where
    pub first : IsPrefix (seen_of f) (seen_of z)
    pub second : IsPrefix (seen_of o) (seen_of z)
    pub loads : loads_of z ≡ loads_of f
    pub added : added_of z ≡ added_of f

  pub record IsJoining (cs : List (TurnCell T E)) (fs os ps ls : List (Pass T E)) : Type 0 where
    pub whole : length ps ≡ 16
    pub few : length ls ≤ 16
    pub own : ArePairs 16 cs ps
    pub others : ArePairs (length ls) cs ls
    pub left : (k : ℕ) → k < length ls → slice_get ls k ≡ slice_get os k
    pub same : (k : ℕ) → k < length ls → slice_get ps k ≡ slice_get fs k
    pub done : (k : ℕ) → length ls ≤ k → k < 16 → IsJoinedOf (slice_get fs k) (slice_get os k) (slice_get ps k)

  pub begins : (cs : List (TurnCell T E)) (fs os : List (Pass T E)) → length fs ≡ 16 → length os ≡ 16 → ArePairs 16 cs fs → ArePairs 16 cs os → IsJoining cs fs os fs os
  begins cs fs os sf so own two = record {
    whole = sf;
    few = omega arith;
    own = own;
    others = λ k l. two k (omega arith);
    left = λ k l. refl;
    same = λ k l. refl;
    done = λ k l m. absurd (omega arith);
  }

  pub last_pair : (cs : List (TurnCell T E)) (ls : List (Pass T E)) (c : TurnCell T E) (p : Pass T E) → ArePairs (length (ls ++ p ∷ [])) cs (ls ++ p ∷ []) → slice_get cs (length ls) ≡ Some c → IsOf c p
  last_pair cs ls c p pairs at =
      let longer = length-append ls (p ∷ []) in
      let h : IsOfAt (slice_get cs (length ls)) (slice_get (ls ++ p ∷ []) (length ls)) = pairs (length ls) (omega arith) in
      subst (λ (z : Option (TurnCell T E) × Option (Pass T E)). IsOfAt z.0 z.1) (λ j. (at j, get_last ls p j)) h

  pub joins : (cs : List (TurnCell T E)) (fs os ps ls : List (Pass T E)) (c : TurnCell T E) (p q n : Pass T E) (i : ℕ) → IsJoining cs fs os ps (ls ++ p ∷ []) → i ≡ length ls → slice_get ps i ≡ Some q → slice_get cs i ≡ Some c
      → IsOf c n → IsPrefix (seen q) (seen n) × IsPrefix (seen p) (seen n) → (loads n ≡ loads q) × (added n ≡ added q) → IsJoining cs fs os (set ps i n) ls
  joins cs fs os ps ls c p q n i inv is at cell own later counts =
      let longer = length-append ls (p ∷ []) in
      let few = inv.few in
      let at_i : slice_get (set ps i n) i ≡ Some n = get_set_same ps i n q at in
      record {
        whole = length-set ps i n ∙ inv.whole;
        few = omega arith;
        own = each_set (λ k z. IsOfAt (slice_get cs k) z) 16 ps i n q at inv.own (subst (λ (z : Option (TurnCell T E)). IsOfAt z (Some n)) (sym cell) own);
        others = λ k l. subst (λ (z : Option (Pass T E)). IsOfAt (slice_get cs k) z) (get_before ls p k l) (inv.others k (omega arith));
        left = λ k l. sym (get_before ls p k l) ∙ inv.left k (omega arith);
        same = λ k l. get_set_other ps i k n (λ e. omega arith) ∙ inv.same k (omega arith);
        done = λ k l m. dite (ℕ_discrete k i)
            (λ e.
            let here : slice_get (set ps i n) k ≡ Some n = ap (slice_get (set ps i n)) e ∙ at_i in
            let first : slice_get fs k ≡ Some q = sym (inv.same k (omega arith)) ∙ (ap (slice_get ps) e ∙ at) in
            let second : slice_get os k ≡ Some p = sym (inv.left k (omega arith)) ∙ (ap (slice_get (ls ++ p ∷ [])) (e ∙ is) ∙ get_last ls p) in
            let both : IsJoinedOf (Some q) (Some p) (Some n) = record { first = later.0; second = later.1; loads = counts.0; added = counts.1 } in
            subst (λ (z : Option (Pass T E) × Option (Pass T E) × Option (Pass T E)). IsJoinedOf z.0 z.1 z.2) (λ j. (sym first j, sym second j, sym here j)) both)
            (λ ne. subst (λ (z : Option (Pass T E)). IsJoinedOf (slice_get fs k) (slice_get os k) z) (sym (get_set_other ps i k n ne)) (inv.done k (omega arith) m));
      }

  pub set_pass : (cs : List (TurnCell T E)) (fs ps : List (Pass T E)) (i : ℕ) (c : TurnCell T E) (q n : Pass T E) → i < 16 → length ps ≡ 16 → ArePairs 16 cs ps → ((k : ℕ) → k < 16 → IsSameOf (slice_get fs k) (slice_get ps k)) → slice_get ps i ≡ Some q → slice_get cs i ≡ Some c
      → IsOf c n → IsSameView q n → ((length (set ps i n) ≡ 16) × ArePairs 16 cs (set ps i n)) × ((k : ℕ) → k < 16 → IsSameOf (slice_get fs k) (slice_get (set ps i n) k))
  set_pass cs fs ps i c q n l size pairs same at cell own view =
      let old : IsSameOf (slice_get fs i) (Some q) = subst (λ (z : Option (Pass T E)). IsSameOf (slice_get fs i) z) at (same i l) in
      let one : IsSameOf (slice_get fs i) (Some n) = record { seen = view.0 ∙ old.seen; loads = view.1 ∙ old.loads; added = view.2 ∙ old.added; ticket = view.3 ∙ old.ticket } in (
        (length-set ps i n ∙ size, each_set (λ k z. IsOfAt (slice_get cs k) z) 16 ps i n q at pairs (subst (λ (z : Option (TurnCell T E)). IsOfAt z (Some n)) (sym cell) own)),
        each_set (λ k z. IsSameOf (slice_get fs k) z) 16 ps i n q at same one,
      )

  pub split_pass : (cs : List (TurnCell T E)) (fs ls : List (Pass T E)) (i : ℕ) (c : TurnCell T E) (q r : Pass T E) → length ls ≡ i → ((k : ℕ) → k < i → IsSplitOf (slice_get cs k) (slice_get fs k) (slice_get ls k)) → IsSameOf (slice_get fs i) (Some q) → slice_get cs i ≡ Some c
      → IsOf c r × (seen r ≡ seen q) → IsUnusedOf (Some r) → (k : ℕ) → k < i + 1 → IsSplitOf (slice_get cs k) (slice_get fs k) (slice_get (ls ++ r ∷ []) k)
  split_pass cs fs ls i c q r size made same cell own unused =
      each_push (λ k z. IsSplitOf (slice_get cs k) (slice_get fs k) z) i ls r size made (record { own = subst (λ (z : Option (TurnCell T E)). IsOfAt z (Some r)) (sym cell) own.0; seen = own.1 ∙ same.seen; unused = unused })
