use Rattle.client_session.proofs.Leading.{undos_lead_back}
use Rattle.client_session.proofs.Undoing.{undo_is_said}
use Rattle.client_session.proofs.laws.undos_lead_back.Goals as goal

pub returns-clause-leads : goal.returns-clause-leads
returns-clause-leads c = undos_lead_back

pub returns-clause-refused : goal.returns-clause-refused
returns-clause-refused c = undo_is_said
