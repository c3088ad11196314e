use Rattle.std.proofs.Common.{◌≡◌}
use Rattle.robot_host.specs.Walks.{IsReached}
use Rattle.robot_host.proofs.walk.Walk.on.Given as goal

abbrev pub invariant-loop : goal.invariant-loop
invariant-loop l = record {
  reached : IsReached l.fn.deltas l.self;
  place : l.self.place ≡ l.counter;
}
