use Rattle.client_session.proofs.Lasting.{begin_is_undoable, line_is_undoable, message_is_undoable, link_is_undoable}
use Rattle.client_session.proofs.Undoing.{change_passes}
use Rattle.client_session.proofs.laws.changes_pass.Goals as goal

pub returns-clause-begin : goal.returns-clause-begin
returns-clause-begin c = begin_is_undoable

pub returns-clause-line : goal.returns-clause-line
returns-clause-line c = line_is_undoable

pub returns-clause-message : goal.returns-clause-message
returns-clause-message c = message_is_undoable

pub returns-clause-link : goal.returns-clause-link
returns-clause-link c = link_is_undoable

pub returns-clause-passes : goal.returns-clause-passes
returns-clause-passes c = change_passes
