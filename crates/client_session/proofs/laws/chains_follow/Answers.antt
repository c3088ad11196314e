use Rattle.client_session.proofs.Following.{new_is_followed, edit_is_followed, undo_is_followed, drop_is_followed, submit_is_followed, refusal_is_followed}
use Rattle.client_session.proofs.Updating.{snapshot_is_followed, update_is_followed}
use Rattle.client_session.proofs.laws.chains_follow.Goals as goal

pub returns-clause-new : goal.returns-clause-new
returns-clause-new c = new_is_followed

pub returns-clause-edit : goal.returns-clause-edit
returns-clause-edit c = edit_is_followed

pub returns-clause-undo : goal.returns-clause-undo
returns-clause-undo c = undo_is_followed

pub returns-clause-dropped : goal.returns-clause-dropped
returns-clause-dropped c = drop_is_followed

pub returns-clause-submit : goal.returns-clause-submit
returns-clause-submit c = submit_is_followed

pub returns-clause-refusal : goal.returns-clause-refusal
returns-clause-refusal c = refusal_is_followed

pub returns-clause-snapshot : goal.returns-clause-snapshot
returns-clause-snapshot c = snapshot_is_followed

pub returns-clause-update : goal.returns-clause-update
returns-clause-update c = update_is_followed
