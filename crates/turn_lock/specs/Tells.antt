-- What each step tells the seat that makes it: of the step, the seat before, the number found (at a store, the number stored) and the seat
-- after. `TellsTicket`, `TellsDraw`, `TellsServing`, `TellsHead`, `TellsTaken`, `TellsGiven`, `TellsAdded`, `TellsPublished`,
-- `TellsPassed`, `TellsSettled`.
use Rattle.std.specs.Prelude.{◌≡◌, ℕ, ◌+◌, ◌==◌, List, [], ◌∷◌, ◌++◌, length, Option, Some, MatchBool}
use mathlib.Core.List.{IsPrefix}
use Rattle.atomic_table.specs.Table.{Me, Step}
use Rattle.turn_lock.specs.declared.view.View.{View}
use Rattle.turn_lock.specs.declared.view.Stage.TheVariants.{Out, Waits, Turn, Inside, Fresh, Gave, Told}
use Rattle.turn_lock.specs.Turns.{longer_of}

abbrev Sat : Type 0 → Type 0 → Type 0
Sat T E = Me (Option T) (View E)

module _ {T E : Type 0} where
  -- the ticket word
  abbrev pub TellsTicket : Step (Option T) → Sat T E → ℕ → Sat T E → Type 0
  TellsTicket st m n m' = m' ≡ (record m.0 { ticket = n }, m.1)

  -- the ticket word, which is the seat's own ticket where it is the word last read
  abbrev pub TellsDraw : Step (Option T) → Sat T E → ℕ → Sat T E → Type 0
  TellsDraw st m n m' = MatchBool (n == st.first) (m' ≡ (record m.0 { ticket = n; stage = Waits n }, m.1))
      (m' ≡ (record m.0 { ticket = n }, m.1))

  -- whether the seat's ticket is served
  abbrev pub TellsServing : Step (Option T) → Sat T E → ℕ → Sat T E → Type 0
  TellsServing st m n m' = (t : ℕ) → m.0.stage ≡ Waits t → MatchBool (n == t) (m' ≡ (record m.0 { stage = Turn t }, m.1)) (m' ≡ m)

  -- the history of the length found
  abbrev pub TellsHead : Step (Option T) → Sat T E → ℕ → Sat T E → Type 0
  TellsHead st m n m' = (m' ≡ (record m.0 { seen = m'.0.seen; loads = m.0.loads + 1 }, m.1)) × IsPrefix m.0.seen m'.0.seen
      × (length m'.0.seen ≡ n)

  -- the value, whose entries are now seen
  abbrev pub TellsTaken : (T → List E) → Step (Option T) → Sat T E → ℕ → Sat T E → Type 0
  TellsTaken entries st m n m' = (t : ℕ) → m.0.stage ≡ Turn t
      → (x : T) × (m' ≡ (record m.0 { seen = entries x; stage = Inside t }, (0, Some x) ∷ m.1)) × IsPrefix m.0.seen (entries x)

  -- the value is given back as it was
  abbrev pub TellsGiven : Step (Option T) → Sat T E → ℕ → Sat T E → Type 0
  TellsGiven st m n m' = (t : ℕ) → m.0.stage ≡ Inside t → m' ≡ (record m.0 { stage = Gave t }, [])

  -- the value is given back with a new entry, which raises `added`
  abbrev pub TellsAdded : (T → List E) → Step (Option T) → Sat T E → ℕ → Sat T E → Type 0
  TellsAdded entries st m n m' = (t : ℕ) (x : T) → m.0.stage ≡ Inside t → m.1 ≡ (0, Some x) ∷ []
      → (e : E) × (entries x ≡ m.0.seen ++ e ∷ []) × (m' ≡ (record m.0 { added = m.0.added + 1; stage = Fresh t e }, []))

  -- the new entry is seen
  abbrev pub TellsPublished : Step (Option T) → Sat T E → ℕ → Sat T E → Type 0
  TellsPublished st m n m' = (t : ℕ) (e : E) → m.0.stage ≡ Fresh t e → m' ≡ (record m.0 { seen = m.0.seen ++ e ∷ []; stage = Gave t }, m.1)

  -- the seat holds no ticket
  abbrev pub TellsPassed : Step (Option T) → Sat T E → ℕ → Sat T E → Type 0
  TellsPassed st m n m' = (t : ℕ) → m.0.stage ≡ Gave t → m' ≡ (record m.0 { stage = Out }, m.1)

  -- of what the seat had seen and what it was told of, each begins the longer, which is now seen
  abbrev pub TellsSettled : Step (Option T) → Sat T E → ℕ → Sat T E → Type 0
  TellsSettled st m n m' = (xs : List E) → m.0.stage ≡ Told xs
      → (m' ≡ (record m.0 { seen = longer_of m.0.seen xs; stage = Out }, m.1)) × IsPrefix m.0.seen m'.0.seen × IsPrefix xs m'.0.seen
