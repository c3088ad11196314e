use Rattle.undo_control.proofs.Crowding.{change_is_taken, crowd_is_refused, change_has_room}
use Rattle.undo_control.proofs.laws.changes_pass.Goals as goal

pub returns-clause-taken : goal.returns-clause-taken
returns-clause-taken c = change_is_taken

pub returns-clause-refused : goal.returns-clause-refused
returns-clause-refused c = crowd_is_refused

pub returns-clause-room : goal.returns-clause-room
returns-clause-room c = change_has_room
