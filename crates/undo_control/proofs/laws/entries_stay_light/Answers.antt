use Rattle.undo_control.proofs.Lightness.{edit_is_light, change_is_light}
use Rattle.undo_control.proofs.laws.entries_stay_light.Goals as goal

pub returns-clause-edit : goal.returns-clause-edit
returns-clause-edit c = edit_is_light

pub returns-clause-change : goal.returns-clause-change
returns-clause-change c = change_is_light
