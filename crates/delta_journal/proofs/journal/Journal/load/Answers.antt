use Rattle.std.proofs.Common.{List, ℕ, subst}
use Rattle.delta_journal.specs.File.{IsDamaged, StandsFor}
use Rattle.delta_journal.specs.Stored.{bytes_of}
use Rattle.delta_journal.proofs.Stages.{sure_stands}
use Rattle.delta_journal.proofs.journal.Journal.load.Goals as goal

pub returns-in-Ok-read_journal-clause-exact : goal.returns-in-Ok-read_journal-clause-exact
returns-in-Ok-read_journal-clause-exact g c told =
    let found = c.in-Ok-read_journal in
    let records = bytes_of found.parsed.records in
    subst (λ (name : List ℕ). StandsFor name records (g.K.Disk.view c.args.disk).seen) c.as_bytes.ensures.value
    (sure_stands found.parsed.stage c.as_bytes.result.now records _ found.ensures.sure found.ensures.empty (found.ensures.shape told))

pub returns-in-Err-read_journal-clause-damaged : goal.returns-in-Err-read_journal-clause-damaged
returns-in-Err-read_journal-clause-damaged g c offset is told =
    subst (λ (name : List ℕ). IsDamaged name offset (g.K.Disk.view c.args.disk).seen) c.as_bytes.ensures.value (c.in-Err-read_journal.ensures.damaged offset is told)
