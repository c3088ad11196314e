-- What a clause reads of a pass: `seen`, `loads`, `added`, `ticket`; that it is of a cell, and where it stands there: `IsOf`, `IsWaiting`,
-- `IsOnTurn`, `IsInside`, `IsGiven`; what stays: `IsSameView`, `IsAsBusy`. Of entries: `IsOneMore`.
use Rattle.std.specs.Prelude.{◌≡◌, ℕ, List, [], ◌∷◌, ◌++◌, length, None}
use Rattle.std.specs.Coded.{Coded-set, coded_ℕ}
use Rattle.atomic_table.specs.Seated.{table_id_coded}
use Rattle.turn_lock.specs.declared.view.Stage.{Stage}
use Rattle.turn_lock.specs.declared.cell.Pass.{Pass}
use Rattle.turn_lock.specs.declared.cell.TurnCell.{TurnCell}
use Rattle.turn_lock.specs.declared.view.Stage.TheVariants.{Out, Waits, Turn, Inside, Fresh, Gave, Told, Joined}

-- 0 where the seat takes no turn
abbrev pub rank : {E : Type 0} → Stage E → ℕ
rank Out = 0
rank (Waits t) = 1
rank (Turn t) = 2
rank (Inside t) = 3
rank (Fresh t e) = 4
rank (Gave t) = 5
rank (Told xs) = 6
rank Joined = 7

module _ {T E : Type 0} where
  -- the beginning of the history that the holder has seen
  abbrev pub seen : Pass T E → List E
  seen p = p.seat.me.0.seen

  -- how often it looked at the length of the history
  abbrev pub loads : Pass T E → ℕ
  loads p = p.seat.me.0.loads

  -- how many entries it added
  abbrev pub added : Pass T E → ℕ
  added p = p.seat.me.0.added

  -- the last ticket word that it read or drew
  abbrev pub ticket : Pass T E → ℕ
  ticket p = p.seat.me.0.ticket

  -- the pass is of this cell, and takes no turn
  abbrev pub IsOf : TurnCell T E → Pass T E → Type 0
  IsOf c p = (p.seat.table_id ≡ c.table.shared.table_id) × (length p.seat.me.1 ≡ 0) × (rank p.seat.me.0.stage ≡ 0)

  -- the same, as one fact, for the ghost field of a type that keeps it
  pub is_of-prop : (c : TurnCell T E) (p : Pass T E) → IsProp (IsOf c p)
  is_of-prop c p = λ x y i. (
    Coded-set table_id_coded p.seat.table_id c.table.shared.table_id x.0 y.0 i,
    Coded-set coded_ℕ (length p.seat.me.1) 0 x.1 y.1 i,
    Coded-set coded_ℕ (rank p.seat.me.0.stage) 0 x.2 y.2 i,
  )

  -- the pass is of this cell, and waits for its turn
  abbrev pub IsWaiting : TurnCell T E → ℕ → Pass T E → Type 0
  IsWaiting c t p = (p.seat.table_id ≡ c.table.shared.table_id) × (p.seat.me.1 ≡ []) × (p.seat.me.0.stage ≡ Waits t)

  -- the pass is of this cell, and learnt that its ticket is served
  abbrev pub IsOnTurn : TurnCell T E → ℕ → Pass T E → Type 0
  IsOnTurn c t p = (p.seat.table_id ≡ c.table.shared.table_id) × (p.seat.me.1 ≡ []) × (p.seat.me.0.stage ≡ Turn t)

  -- the pass is of this cell, and has the ticket that is served and the value
  abbrev pub IsInside : TurnCell T E → ℕ → Pass T E → Type 0
  IsInside c t p = (p.seat.table_id ≡ c.table.shared.table_id) × (p.seat.me.1 ≡ (0, None) ∷ []) × (p.seat.me.0.stage ≡ Inside t)

  -- the pass is of this cell, and gave the value back
  abbrev pub IsGiven : TurnCell T E → ℕ → Pass T E → Type 0
  IsGiven c t p = (p.seat.table_id ≡ c.table.shared.table_id) × (p.seat.me.1 ≡ []) × (p.seat.me.0.stage ≡ Gave t)

  -- it looked as often, and added as many entries, as before
  abbrev pub IsAsBusy : Pass T E → Pass T E → Type 0
  IsAsBusy p q = (loads q ≡ loads p) × (added q ≡ added p)

  -- it has seen, looked, added and read what it had
  abbrev pub IsSameView : Pass T E → Pass T E → Type 0
  IsSameView p q = (seen q ≡ seen p) × (loads q ≡ loads p) × (added q ≡ added p) × (ticket q ≡ ticket p)

-- these entries and one more
abbrev pub IsOneMore : {E : Type 0} → List E → List E → Type 0
IsOneMore {E} xs ys = (e : E) × (ys ≡ xs ++ e ∷ [])
