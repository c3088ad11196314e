use Rattle.std.proofs.Common.{◌≡◌, drop, take}
use Rattle.wave_index.specs.Taken.{deltas_in}
use Rattle.inbox_machine.specs.Indexing.{with_deltas}
use Rattle.inbox_machine.proofs.indexing.take_history.Given as goal

abbrev pub invariant-loop-delta : goal.invariant-loop-delta
invariant-loop-delta l = record {
  rest : with_deltas l.index l.fn.history.name (drop l.delta-index l.delta-items) ≡ with_deltas l.fn.index l.fn.history.name l.delta-items;
  taken : deltas_in l.index l.fn.history.name ≡ take l.delta-index l.delta-items;
}
