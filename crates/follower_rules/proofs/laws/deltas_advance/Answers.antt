use Rattle.follower_rules.proofs.Advances.{advances}
use Rattle.follower_rules.proofs.laws.deltas_advance.Goals as goal

pub returns : goal.returns
returns c = advances
