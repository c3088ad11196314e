use Rattle.follower_rules.proofs.Gathers.{submit_is_sound}
use Rattle.follower_rules.proofs.Sounds.{new_is_sound, edit_is_sound, refusal_is_sound, snapshot_is_sound}
use Rattle.follower_rules.proofs.laws.calls_keep.Goals as goal

pub returns-clause-new : goal.returns-clause-new
returns-clause-new c = new_is_sound

pub returns-clause-edit : goal.returns-clause-edit
returns-clause-edit c = edit_is_sound

pub returns-clause-submit : goal.returns-clause-submit
returns-clause-submit c = submit_is_sound

pub returns-clause-refusal : goal.returns-clause-refusal
returns-clause-refusal c = refusal_is_sound

pub returns-clause-snapshot : goal.returns-clause-snapshot
returns-clause-snapshot c = snapshot_is_sound
