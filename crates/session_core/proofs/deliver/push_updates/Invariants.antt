use Rattle.std.proofs.Common.{◌≡◌, ◌++◌, drop, Some}
use Rattle.std.specs.List.{All}
use Rattle.session_core.specs.Access.{Shown}
use Rattle.session_core.specs.Deliveries.{updates}
use Rattle.session_core.specs.News.{messages_of, IsPlaced}
use Rattle.session_core.proofs.deliver.push_updates.Given as goal

abbrev pub invariant-loop-place : goal.invariant-loop-place
invariant-loop-place l = record {
  sent : messages_of l.fn.out.items ++ updates l.name (drop l.first l.deltas) ≡ messages_of l.out.items ++ updates l.name (drop l.place l.deltas);
  placed : (c : Shown) → c.copy l.name ≡ Some l.history → All (IsPlaced c) l.fn.out.items → All (IsPlaced c) l.out.items;
}
