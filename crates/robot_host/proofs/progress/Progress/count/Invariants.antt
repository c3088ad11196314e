use Rattle.std.proofs.Common.{◌≡◌, ℕ, length}
use Rattle.robot_host.specs.Turns.{number_of}
use Rattle.robot_host.proofs.progress.Progress.count.Given as goal

abbrev pub invariant-loop : goal.invariant-loop
invariant-loop l = record {
  numbers : (r : ℕ) → number_of l.self.counts.items r ≡ number_of l.fn.self.counts.items r;
  long : length l.self.counts.items ≡ l.counter;
  edits : l.self.edits ≡ l.fn.self.edits;
}
