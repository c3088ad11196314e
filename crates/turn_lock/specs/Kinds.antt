-- The eight kinds of atomic step, each as what it makes of a state: `Draws`; the looks `LooksAtTicket`, `LooksAtServing`, `LooksAtHead`,
-- `Settles`; `Takes`; `GivesBack` and, with a new entry, `GivesNew`; `Publishes`; `PassesOn`; `SplitsSeat`; `JoinsSeat`. In each, `id` is
-- the seat that steps, `s` the state before and `s'` the state after.
use Rattle.std.specs.Prelude.{◌≡◌, ◌≢◌, ◌⊎◌, ℕ, ◌+◌, ◌<◌, List, [], ◌∷◌, ◌++◌, length, Option, Some, slice_index, slice_set}
use mathlib.Core.Option.{some}
use lib.ListN.{get_elem?}
use Rattle.atomic_table.specs.Table.{State, stepped, keeps, takes, gives}
use Rattle.turn_lock.specs.declared.view.View.{View}
use Rattle.turn_lock.specs.declared.view.Stage.{Stage}
use Rattle.turn_lock.specs.declared.view.Stage.TheVariants.{Out, Waits, Turn, Inside, Fresh, Gave, Told}
use Rattle.turn_lock.specs.Turns.{turn_limit, newcomer, nobody, told, longer_of}

abbrev Place : Type 0 → Type 0 → Type 0
Place T E = State (Option T) (View E)

module _ {T E : Type 0} where
  -- the seat has this view, and stands here
  abbrev pub Stands : Place T E → ℕ → View E → Stage E → Type 0
  Stands s id v stage = (get_elem? s.views id ≡ some v) × (v.stage ≡ stage)

  -- a look at word i, which leaves all but the seat's view
  abbrev pub looked : Place T E → ℕ → ℕ → View E → Place T E
  looked s i id w = stepped s i (slice_index s.words i) id [] w keeps

  -- the ticket word, below the limit, becomes the next one, and the seat holds the old one
  abbrev pub Draws : ℕ → Place T E → Place T E → Type 0
  Draws id s s' = let n : ℕ = slice_index s.words 0 in (v : View E) × Stands s id v Out × (n < turn_limit)
      × (s' ≡ stepped s 0 (n + 1) id [] (record v { ticket = n; stage = Waits n }) keeps)

  -- the seat learns the ticket word, also where it couldn't draw
  abbrev pub LooksAtTicket : ℕ → Place T E → Place T E → Type 0
  LooksAtTicket id s s' = (v : View E) × Stands s id v Out × (s' ≡ looked s 0 id (record v { ticket = slice_index s.words 0 }))

  -- the seat learns whether its ticket is served
  abbrev pub LooksAtServing : ℕ → Place T E → Place T E → Type 0
  LooksAtServing id s s' = let n : ℕ = slice_index s.words 1 in (v : View E) × (t : ℕ) × Stands s id v (Waits t)
      × (((n ≡ t) × (s' ≡ looked s 1 id (record v { stage = Turn t }))) ⊎ ((n ≢ t) × (s' ≡ looked s 1 id v)))

  -- the seat learns the history, whose length is the head word
  abbrev pub LooksAtHead : List E → ℕ → Place T E → Place T E → Type 0
  LooksAtHead log id s s' = (v : View E) × Stands s id v Out × (s' ≡ looked s 2 id (record v { seen = log; loads = v.loads + 1 }))

  -- the look after a join
  abbrev pub Settles : ℕ → Place T E → Place T E → Type 0
  Settles id s s' = (v : View E) × (xs : List E) × Stands s id v (Told xs)
      × (s' ≡ looked s 0 id (record v { seen = longer_of v.seen xs; stage = Out }))

  -- the seat whose ticket is served takes the value out, and has seen its entries
  abbrev pub Takes : (T → List E) → ℕ → Place T E → Place T E → Type 0
  Takes entries id s s' = (v : View E) × (t : ℕ) × (x : T) × Stands s id v (Turn t) × (get_elem? s.homes 0 ≡ some (some (Some x)))
      × (s' ≡ stepped s 3 1 id [] (record v { seen = entries x; stage = Inside t }) (takes 0 (Some x)))

  -- the seat gives the value back with the entries that it has seen
  abbrev pub GivesBack : (T → List E) → ℕ → Place T E → Place T E → Type 0
  GivesBack entries id s s' = (v : View E) × (t : ℕ) × (x : T) × Stands s id v (Inside t) × (entries x ≡ v.seen)
      × (s' ≡ stepped s 3 0 id ((0, Some x) ∷ []) (record v { stage = Gave t }) gives)

  -- the seat gives the value back with one entry more
  abbrev pub GivesNew : (T → List E) → E → ℕ → Place T E → Place T E → Type 0
  GivesNew entries e id s s' = (v : View E) × (t : ℕ) × (x : T) × Stands s id v (Inside t) × (entries x ≡ v.seen ++ e ∷ [])
      × (s' ≡ stepped s 3 0 id ((0, Some x) ∷ []) (record v { added = v.added + 1; stage = Fresh t e }) gives)

  -- the head word becomes the new length, and the new entry is seen
  abbrev pub Publishes : E → ℕ → Place T E → Place T E → Type 0
  Publishes e id s s' = (v : View E) × (t : ℕ) × Stands s id v (Fresh t e)
      × (s' ≡ stepped s 2 (length v.seen + 1) id [] (record v { seen = v.seen ++ e ∷ []; stage = Gave t }) keeps)

  -- the next ticket is served, and the seat holds none
  abbrev pub PassesOn : ℕ → Place T E → Place T E → Type 0
  PassesOn id s s' = (v : View E) × (t : ℕ) × Stands s id v (Gave t) × (s' ≡ stepped s 1 (t + 1) id [] (record v { stage = Out }) keeps)

  -- a new seat, the last, has seen as much
  abbrev pub SplitsSeat : ℕ → Place T E → Place T E → Type 0
  SplitsSeat id s s' = (v : View E) × Stands s id v Out
      × (s' ≡ record { words = s.words; homes = s.homes; views = slice_set s.views id v ++ newcomer v.seen ∷ [] })

  -- the seat is told of what the other has seen, and the other is spent
  abbrev pub JoinsSeat : ℕ → ℕ → Place T E → Place T E → Type 0
  JoinsSeat other id s s' = (v : View E) × (w : View E) × Stands s id v Out × Stands s other w Out × (other ≢ id)
      × (s' ≡ record { words = s.words; homes = s.homes; views = slice_set (slice_set s.views id (told v w)) other nobody })
