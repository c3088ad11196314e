use Rattle.std.proofs.Common.{◌≡◌, ◌+◌, ℕ, length}
use Rattle.turn_cells.specs.Cells.{BeginsAt, loads_at, added_at}
use Rattle.shard_marks.specs.Marks.{copied}
use Rattle.shard_marks.specs.Passes.{marks_of}
use Rattle.session_hub.specs.Hubs.{AreOfHub}
use Rattle.session_hub.specs.Items.{across, items_of}
use Rattle.session_hub.proofs.hub.Hub.seek.Given as goal

pub record IsKept (g : goal.Over) (l : goal.Live-loop-shard g) : Type 0 where
  pub own : AreOfHub l.self l.passes
  pub later : (k : ℕ) → BeginsAt l.fn.passes l.passes k
  pub counts : (k : ℕ) → (loads_at l.passes k ≡ loads_at l.fn.passes k) × (added_at l.passes k ≡ added_at l.fn.passes k)
  pub left : l.fn.place ≡ length (across l.shard (λ k. items_of l.wanted l.domain (copied l.self.domain k (marks_of l.passes k)))) + l.left

abbrev pub invariant-loop-shard : goal.invariant-loop-shard
invariant-loop-shard g l = IsKept g l
