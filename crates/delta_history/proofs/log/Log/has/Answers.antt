use Rattle.std.proofs.Common.{ap, ◌∙◌, is_some}
use Rattle.delta_history.proofs.Finding.{has_place}
use Rattle.delta_history.proofs.log.Log.has.Goals as goal

pub returns : goal.returns
returns c = c.is_some.ensures ∙ ap is_some c.place.ensures ∙ has_place c.args.id.now 0 c.args.self.now.deltas
