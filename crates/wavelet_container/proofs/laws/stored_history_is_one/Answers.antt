use Rattle.wavelet_container.proofs.Loaded.{history_is_one, history_is_whole}
use Rattle.wavelet_container.proofs.laws.stored_history_is_one.Goals as goal

pub returns-clause-one : goal.returns-clause-one
returns-clause-one c = history_is_one

pub returns-clause-whole : goal.returns-clause-whole
returns-clause-whole c = history_is_whole
