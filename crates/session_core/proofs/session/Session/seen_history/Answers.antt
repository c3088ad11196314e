use Rattle.std.proofs.Common.{rules}
use Rattle.session_core.proofs.session.Session.seen_history.Goals as goal

pub returns-in-User : goal.returns-in-User
returns-in-User g c = search rules
