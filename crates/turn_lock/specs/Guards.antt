-- What a clause reads of a guard and of a refused turn: `IsHeld`, `IsTaken`, `with_value`, `IsRefused`.
use Rattle.std.specs.Prelude.{◌≡◌, ◌<◌, List, length, Result, IfErr}
use Rattle.turn_lock.specs.declared.cell.Guard.{Guard}
use Rattle.turn_lock.specs.declared.cell.TurnCell.{TurnCell}
use Rattle.turn_lock.specs.declared.cell.Pass.{Pass}
use Rattle.turn_lock.specs.declared.cell.Spent.{Spent}
use Rattle.turn_lock.specs.Turns.{turn_limit}
use Rattle.turn_lock.specs.Passes.{seen, loads, added, ticket, IsOf, IsInside}

module _ {T E : Type 0} where
  -- the guard has the value of its cell
  abbrev pub IsHeld : Guard T E → Type 0
  IsHeld g = IsInside g.cell.now g.number g.pass.now × (g.length ≡ length (seen g.pass.now)) × (g.number < turn_limit)

  -- the guard is of this cell, and its value is as it was taken
  abbrev pub IsTaken : (T → List E) → TurnCell T E → Guard T E → Type 0
  IsTaken entries c g = IsHeld g × (g.cell.now ≡ c) × (entries g.value ≡ seen g.pass.now)

  -- the guard with another value
  abbrev pub with_value : Guard T E → T → Guard T E
  with_value g x = record g { value = x }

  -- where no turn was given, the pass is as before, but for the ticket word that it read
  abbrev pub IsRefused : {A : Type 0} → TurnCell T E → Pass T E → Result A Spent → Pass T E → Type 0
  IsRefused c p r q = IsOf c q × (seen q ≡ seen p) × (loads q ≡ loads p) × (added q ≡ added p) × IfErr r (λ s. s.ticket ≡ ticket q)
