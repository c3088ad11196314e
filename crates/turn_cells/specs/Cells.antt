-- Cells, and a pass to each.
--     ArePairs n cs ps        the first n passes are of the cells beside them
--     AreOf c ps              each pass is of its cell
--     AreOf-prop              the same, as one fact, for the ghost field of a type that keeps it
--     seen_at ps k            what the pass to the cell at this place has seen
--     loads_at, added_at, ticket_at     its counts
--     IsUnused ps k           it took no turn and no look yet
--     IsSameAt ps qs k        both have seen, looked, added and read the same there
--     AreSame ps qs           so they have at every place
--     AreOthersSame k ps qs   so they have at every place but k
--     BeginsAt ps qs k        what the first have seen there begins what the second have
--     Begins ps qs            so it is at every place
--     AreMade vs cs ps        a new cell for each value, and a pass that has seen its entries
--     AreLater ps vs          what each pass has seen begins the entries of the value beside it
use Rattle.std.specs.Prelude.{◌≡◌, ◌≢◌, ℕ, ◌<◌, List, [], ◌∷◌, Option, Some, None, length, slice_get}
use Rattle.std.specs.Coded.{Coded-set, coded_ℕ, ×_prop}
use mathlib.Core.List.{IsPrefix}
use Rattle.turn_lock.specs.declared.cell.Pass.{Pass}
use Rattle.turn_lock.specs.declared.cell.TurnCell.{TurnCell}
use Rattle.turn_lock.specs.Passes.{seen, loads, added, ticket, IsOf, is_of-prop}
use Rattle.turn_cells.specs.declared.cells.Cells.{Cells}
use Rattle.turn_cells.specs.declared.cells.Passes.{Passes}

module _ {T E : Type 0} where
  abbrev pub IsOfAt : Option (TurnCell T E) → Option (Pass T E) → Type 0
  IsOfAt (Some c) (Some p) = IsOf c p
  IsOfAt (Some c) None = ⊥
  IsOfAt None x = ⊥

  abbrev pub ArePairs : ℕ → List (TurnCell T E) → List (Pass T E) → Type 0
  ArePairs n cells list = (k : ℕ) → k < n → IsOfAt (slice_get cells k) (slice_get list k)

  abbrev pub AreOf : Cells T E → Passes T E → Type 0
  AreOf c ps = (length ps.list.items ≡ 16) × ArePairs 16 c.list.items ps.list.items

  IsOfAt-prop : (a : Option (TurnCell T E)) (b : Option (Pass T E)) → IsProp (IsOfAt a b)
  IsOfAt-prop (Some c) (Some p) = is_of-prop c p
  IsOfAt-prop (Some c) None = λ x y. absurd x
  IsOfAt-prop None b = λ x y. absurd x

  pub AreOf-prop : (c : Cells T E) (ps : Passes T E) → IsProp (AreOf c ps)
  AreOf-prop c ps = ×_prop (Coded-set coded_ℕ _ _)
      (λ f g i k l. IsOfAt-prop (slice_get c.list.items k) (slice_get ps.list.items k) (f k l) (g k l) i)

  -- ---- one place

  abbrev pub seen_of : Option (Pass T E) → List E
  seen_of (Some p) = seen p
  seen_of None = []

  abbrev pub loads_of : Option (Pass T E) → ℕ
  loads_of (Some p) = loads p
  loads_of None = 0

  abbrev pub added_of : Option (Pass T E) → ℕ
  added_of (Some p) = added p
  added_of None = 0

  abbrev pub ticket_of : Option (Pass T E) → ℕ
  ticket_of (Some p) = ticket p
  ticket_of None = 0

  abbrev pub seen_at : Passes T E → ℕ → List E
  seen_at ps k = seen_of (slice_get ps.list.items k)

  abbrev pub loads_at : Passes T E → ℕ → ℕ
  loads_at ps k = loads_of (slice_get ps.list.items k)

  abbrev pub added_at : Passes T E → ℕ → ℕ
  added_at ps k = added_of (slice_get ps.list.items k)

  abbrev pub ticket_at : Passes T E → ℕ → ℕ
  ticket_at ps k = ticket_of (slice_get ps.list.items k)

  pub record IsUnusedOf (o : Option (Pass T E)) : Type 0 where
    pub loads : loads_of o ≡ 0
    pub added : added_of o ≡ 0
    pub ticket : ticket_of o ≡ 0

  abbrev pub IsUnused : Passes T E → ℕ → Type 0
  IsUnused ps k = IsUnusedOf (slice_get ps.list.items k)

  pub record IsSameOf (o p : Option (Pass T E)) : Type 0 where
    pub seen : seen_of p ≡ seen_of o
    pub loads : loads_of p ≡ loads_of o
    pub added : added_of p ≡ added_of o
    pub ticket : ticket_of p ≡ ticket_of o

  abbrev pub IsSameAt : Passes T E → Passes T E → ℕ → Type 0
  IsSameAt ps qs k = IsSameOf (slice_get ps.list.items k) (slice_get qs.list.items k)

  abbrev pub BeginsAt : Passes T E → Passes T E → ℕ → Type 0
  BeginsAt ps qs k = IsPrefix (seen_at ps k) (seen_at qs k)

  -- ---- all places

  abbrev pub AreSame : Passes T E → Passes T E → Type 0
  AreSame ps qs = (k : ℕ) → k < 16 → IsSameAt ps qs k

  abbrev pub AreOthersSame : ℕ → Passes T E → Passes T E → Type 0
  AreOthersSame k ps qs = (j : ℕ) → j ≢ k → slice_get qs.list.items j ≡ slice_get ps.list.items j

  abbrev pub Begins : Passes T E → Passes T E → Type 0
  Begins ps qs = (k : ℕ) → k < 16 → BeginsAt ps qs k

  -- ---- values

  pub record IsMade (entries : T → List E) (v : T) (c : TurnCell T E) (p : Pass T E) : Type 0 where
    pub own : IsOf c p
    pub seen : seen p ≡ entries v
    pub unused : IsUnusedOf (Some p)

  abbrev pub AreMade : (T → List E) → List T → List (TurnCell T E) → List (Pass T E) → Type 0
  AreMade entries [] [] [] = Unit {0}
  AreMade entries [] [] (p ∷ ps) = ⊥
  AreMade entries [] (c ∷ cs) ps = ⊥
  AreMade entries (v ∷ vs) [] ps = ⊥
  AreMade entries (v ∷ vs) (c ∷ cs) [] = ⊥
  AreMade entries (v ∷ vs) (c ∷ cs) (p ∷ ps) = IsMade entries v c p × AreMade entries vs cs ps

  abbrev pub AreLater : (T → List E) → List (Pass T E) → List T → Type 0
  AreLater entries [] [] = Unit {0}
  AreLater entries [] (v ∷ vs) = ⊥
  AreLater entries (p ∷ ps) [] = ⊥
  AreLater entries (p ∷ ps) (v ∷ vs) = IsPrefix (seen p) (entries v) × AreLater entries ps vs
