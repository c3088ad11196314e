use Rattle.wave_world.proofs.Restarts.{goes_on_alike, accepted_is_one_event}
use Rattle.wave_world.proofs.restart_holds.Goals as goal

pub returns-clause-alike : goal.returns-clause-alike
returns-clause-alike c = goes_on_alike

pub returns-clause-one : goal.returns-clause-one
returns-clause-one c = accepted_is_one_event
