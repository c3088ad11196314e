use Rattle.std.proofs.Common.{◌≡◌, take}
use Rattle.std.specs.List.{AllByRecursion}
use Rattle.wavelet_codec.specs.Spelling.{IsDelta}
use Rattle.delta_journal.specs.Stored.{bytes_of}
use Rattle.wavelet_container.specs.Records.{records_of}
use Rattle.wavelet_container.proofs.load.push_all.Given as goal

abbrev pub invariant-loop-stored : goal.invariant-loop-stored
invariant-loop-stored l = record {
  name : l.history.name ≡ l.fn.history.name;
  records : records_of l.history.deltas ≡ bytes_of (take l.stored-index l.fn.records);
  spelled : AllByRecursion IsDelta l.history.deltas;
}
