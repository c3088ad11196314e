use Rattle.std.proofs.Common.{◌≡◌, cond, drop}
use Rattle.std.specs.List.{All}
use Rattle.doc_items.specs.Maps.{Key}
use Rattle.wavelet_op.specs.Acts.{meanings}
use Rattle.wave_index.specs.Changes.{is_changed}
use Rattle.wave_index.specs.Versions.{version_in, HasRoom}
use Rattle.wave_index.proofs.changed.ChangedVersions.note_all.Given as goal

abbrev pub invariant-loop-op : goal.invariant-loop-op
invariant-loop-op l = record {
  noted : (d : Key) → cond (is_changed d (meanings (drop l.op-index l.ops))) l.version (version_in l.self.map d) ≡ cond (is_changed d (meanings l.ops)) l.version (version_in l.initial.self.map d);
  room : All (HasRoom l.self.map) l.ops;
}
