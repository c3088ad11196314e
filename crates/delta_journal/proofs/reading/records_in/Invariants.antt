use Rattle.std.proofs.Common.{◌≡◌, ◌+◌, ◌<◌, ◌++◌, length}
use Rattle.delta_journal.specs.File.{blocks}
use Rattle.delta_journal.specs.Stored.{bytes_of, StandFrom}
use Rattle.delta_journal.proofs.reading.records_in.Given as goal

abbrev pub invariant-loop-behind : goal.invariant-loop-behind
invariant-loop-behind l = record {
  read : l.initial.rest ≡ blocks (bytes_of l.records) ++ l.rest;
  some : 0 < length l.rest;
  at : l.place ≡ l.initial.place + length (blocks (bytes_of l.records));
  gates : StandFrom l.initial.place l.records;
}

abbrev pub decreases-loop-behind : goal.decreases-loop-behind
decreases-loop-behind l = length l.rest
