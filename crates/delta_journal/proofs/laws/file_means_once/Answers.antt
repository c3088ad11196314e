use Rattle.delta_journal.proofs.Once.{means_once}
use Rattle.delta_journal.proofs.laws.file_means_once.Goals as goal

pub returns : goal.returns
returns c = means_once
