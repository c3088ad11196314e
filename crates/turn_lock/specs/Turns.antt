-- The rule of a cell, which holds between any two steps: `InTurn`, by `Turned` with its one history. What a seat knows: `Fits`. How views
-- begin, split and join: `newcomer`, `told`, `nobody`, `longer_of`. Word 0 is the ticket that the next seat draws, word 1 the ticket that
-- is served, word 2 the length of the history, and word 3 is 1 while the value is out. The value lies in slot 0.
use Rattle.std.specs.Prelude.{◌≡◌, ℕ, ◌+◌, ◌<◌, ◌≤◌, List, [], ◌∷◌, ◌++◌, length, Option, Some, ltb, if◌then◌else◌}
use mathlib.Core.Option.{some, none}
use mathlib.Core.List.{IsPrefix}
use lib.ListN.{get_elem?}
use Rattle.atomic_table.specs.Table.{State}
use Rattle.turn_lock.specs.declared.view.View.{View}
use Rattle.turn_lock.specs.declared.view.Stage.{Stage}
use Rattle.turn_lock.specs.declared.view.Stage.TheVariants.{Out, Waits, Turn, Inside, Fresh, Gave, Told, Joined}

-- the ticket that is no longer drawn, which is also the number of turns of one cell
abbrev pub turn_limit : ℕ
turn_limit = 9223372036854775808

-- 1 where the seat holds a ticket
abbrev pub holding : {E : Type 0} → Stage E → ℕ
holding Out = 0
holding (Waits t) = 1
holding (Turn t) = 1
holding (Inside t) = 1
holding (Fresh t e) = 1
holding (Gave t) = 1
holding (Told xs) = 0
holding Joined = 0

-- the number of tickets that seats hold
abbrev pub held : {E : Type 0} → List (View E) → ℕ
held [] = 0
held (v ∷ vs) = holding v.stage + held vs

-- the seat holds this ticket
abbrev pub HasTicket : {E : Type 0} → ℕ → Stage E → Type 0
HasTicket n (Waits t) = t ≡ n
HasTicket n (Turn t) = t ≡ n
HasTicket n (Inside t) = t ≡ n
HasTicket n (Fresh t e) = t ≡ n
HasTicket n (Gave t) = t ≡ n
HasTicket n _ = ⊥

-- the seat whose ticket is served has the value out, or gave it back with an entry that is not published
abbrev pub IsBusy : {E : Type 0} → ℕ → Stage E → Type 0
IsBusy n (Inside t) = t ≡ n
IsBusy n (Fresh t e) = t ≡ n
IsBusy n _ = ⊥

module _ {E : Type 0} (ticket serving away : ℕ) (log fresh : List E) (turn : ℕ → ℕ) where
  -- a ticket that a seat holds is its own, and not yet past
  abbrev pub Holds : ℕ → ℕ → Type 0
  Holds seat t = (serving ≤ t) × (t < ticket) × (turn t ≡ seat)

  -- what a seat knows
  abbrev pub Fits : ℕ → List E → Stage E → Type 0
  Fits seat seen Out = IsPrefix seen log
  Fits seat seen (Waits t) = IsPrefix seen log × Holds seat t
  Fits seat seen (Turn t) = IsPrefix seen log × Holds seat t × (t ≡ serving) × (away ≡ 0) × (fresh ≡ [])
  Fits seat seen (Inside t) = (seen ≡ log) × Holds seat t × (t ≡ serving) × (away ≡ 1) × (fresh ≡ [])
  Fits seat seen (Fresh t e) = (seen ≡ log) × Holds seat t × (t ≡ serving) × (away ≡ 0) × (fresh ≡ e ∷ [])
  Fits seat seen (Gave t) = (seen ≡ log) × Holds seat t × (t ≡ serving) × (away ≡ 0) × (fresh ≡ [])
  Fits seat seen (Told xs) = IsPrefix seen log × IsPrefix xs log
  Fits seat seen Joined = Unit {0}

-- The rule, with its one history `log`. `fresh` is the entry that was given back and is not yet published, `away` is 1 while the value is
-- out, and `turn` says which seat drew a ticket.
pub record Turned {T E : Type 0} (entries : T → List E) (log : List E) (s : State (Option T) (View E)) : Type 0 where
  pub ticket : ℕ
  pub serving : ℕ
  pub away : ℕ
  pub fresh : List E
  pub turn : ℕ → ℕ
  -- the head word is the length of the history
  pub words : s.words ≡ ticket ∷ serving ∷ length log ∷ away ∷ []
  -- serving is at most ticket, and ticket at most the limit
  pub order : (serving ≤ ticket) × (ticket ≤ turn_limit) × (away < 2)
  -- as many tickets are held as were drawn and not yet passed
  pub drawn : held s.views + serving ≡ ticket
  -- while the value is home its entries are the history, with the entry that is not yet published
  pub home : away ≡ 0 → (x : T) × (s.homes ≡ some (Some x) ∷ []) × (entries x ≡ log ++ fresh)
  -- while it is out the slot is empty
  pub out : away ≡ 1 → s.homes ≡ none ∷ []
  -- the seat whose ticket is served has it out, or has the entry to publish
  pub busy : 0 < away + length fresh → (v : View E) × (get_elem? s.views (turn serving) ≡ some v) × IsBusy serving v.stage
  -- what each seat knows is so
  pub each : (j : ℕ) (v : View E) → get_elem? s.views j ≡ some v → Fits ticket serving away log fresh turn j v.seen v.stage

-- some history meets the rule
abbrev pub InTurn : {T E : Type 0} → (T → List E) → State (Option T) (View E) → Type 0
InTurn {T} {E} entries s = (log : List E) × Turned entries log s

-- the view of a new seat
abbrev pub newcomer : {E : Type 0} → List E → View E
newcomer seen = record { seen = seen; loads = 0; added = 0; ticket = 0; stage = Out }

-- the view of a seat that was joined into another
abbrev pub nobody : {E : Type 0} → View E
nobody = record { seen = []; loads = 0; added = 0; ticket = 0; stage = Joined }

-- the first view, which is told of what the second has seen
abbrev pub told : {E : Type 0} → View E → View E → View E
told v w = record v { stage = Told w.seen }

-- the longer of two beginnings
abbrev pub longer_of : {E : Type 0} → List E → List E → List E
longer_of xs ys = if ltb (length xs) (length ys) then ys else xs
