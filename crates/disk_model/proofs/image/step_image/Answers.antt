use Rattle.std.proofs.Common.{rules}
use Rattle.disk_model.proofs.image.step_image.Goals as goal

pub returns-in-Synced : goal.returns-in-Synced
returns-in-Synced c = search rules
