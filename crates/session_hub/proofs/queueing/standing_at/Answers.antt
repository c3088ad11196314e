use Rattle.session_hub.proofs.Waiting.{standing_there, standing_none}
use Rattle.session_hub.proofs.queueing.standing_at.Goals as goal

pub returns-in-Some : goal.returns-in-Some
returns-in-Some c = standing_there c.args.replicas.now c.args.name.now c.args.id.now c.in-Some.copy.now c.standing_in.result c.in-Some.ensures.value c.in-Some.ensures.named c.standing_in.ensures

pub returns-in-None : goal.returns-in-None
returns-in-None c = standing_none c.args.replicas.now c.args.name.now c.args.id.now c.in-None.ensures.value
