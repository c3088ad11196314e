use Rattle.std.proofs.Common.{◌≡◌, ◌≤◌, ◌<◌, ◌-◌, ◌*◌, length, take, Some}
use Rattle.state_cache.specs.States.{AreKept, state_after}
use Rattle.state_cache.proofs.cache.StateCache.keep_all.Given as goal

abbrev pub invariant-loop : goal.invariant-loop
invariant-loop l = record {
  kept : AreKept l.fn.deltas l.self;
  some : 0 < length l.fn.self;
  long : length l.self ≡ l.counter;
  longer : length l.fn.self ≤ length l.self;
  front : take (length l.fn.self) l.self ≡ l.fn.self;
  last : state_after l.fn.deltas ((length l.self - 1) * 64) ≡ Some l.state;
}
