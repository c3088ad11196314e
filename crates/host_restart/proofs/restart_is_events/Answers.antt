use Rattle.host_restart.proofs.Restarts.{left_is_accepted, restart_is_events}
use Rattle.host_restart.proofs.restart_is_events.Goals as goal

pub returns-clause-left : goal.returns-clause-left
returns-clause-left c = left_is_accepted

pub returns-clause-reached : goal.returns-clause-reached
returns-clause-reached c = restart_is_events
