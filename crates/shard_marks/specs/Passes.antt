-- What passes to the cells of shards have seen.
--     marks_of ps             of each shard
--     HaveTurned k ps qs      after a call that had a turn of one shard alone: that pass has seen what it had seen at least, and all others
--                             are as they were
--     IsSpentAt ps k s        no turn is left: the ticket of the pass to the shard is at the limit
use Rattle.std.specs.Prelude.{◌≡◌, ◌≤◌, ℕ, List}
use Rattle.turn_lock.specs.Turns.{turn_limit}
use Rattle.turn_lock.specs.declared.cell.Spent.{Spent}
use Rattle.turn_cells.specs.declared.cells.Passes.{Passes}
use Rattle.turn_cells.specs.Cells.{AreOthersSame, BeginsAt, seen_at, loads_at, ticket_at}
use Rattle.shard_marks.specs.declared.mark.Mark.{Mark}

module _ {T : Type 0} where
  abbrev pub marks_of : Passes T Mark → ℕ → List Mark
  marks_of ps k = seen_at ps k

  pub record HaveTurned (k : ℕ) (ps qs : Passes T Mark) : Type 0 where
    pub later : BeginsAt ps qs k
    pub others : AreOthersSame k ps qs
    pub looked : loads_at qs k ≡ loads_at ps k

  pub record IsSpentAt (ps : Passes T Mark) (k : ℕ) (s : Spent) : Type 0 where
    pub limit : turn_limit ≤ s.ticket
    pub ticket : ticket_at ps k ≡ s.ticket
