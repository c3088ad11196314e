use Rattle.std.proofs.Common.{take}
use Rattle.std.specs.List.{All}
use Rattle.wave_index.specs.Versions.{KeepsAll, HasRoom}
use Rattle.wave_index.proofs.changed.ChangedVersions.reserve_all.Given as goal

abbrev pub invariant-loop-op : goal.invariant-loop-op
invariant-loop-op l = record {
  same : KeepsAll l.initial.self.map l.self.map;
  room : All (HasRoom l.self.map) (take l.op-index l.ops);
}
