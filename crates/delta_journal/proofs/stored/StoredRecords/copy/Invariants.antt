use Rattle.std.proofs.Common.{◌≡◌, take}
use Rattle.delta_journal.proofs.stored.StoredRecords.copy.Given as goal

abbrev pub invariant-loop-one : goal.invariant-loop-one
invariant-loop-one l = l.copied ≡ take l.one-index l.self
