use Rattle.delta_journal.proofs.Named.{named_once}
use Rattle.delta_journal.proofs.laws.file_named_once.Goals as goal

pub returns : goal.returns
returns c = named_once
