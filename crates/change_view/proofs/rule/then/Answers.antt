use Rattle.std.proofs.Common.{rules}
use Rattle.change_view.proofs.rule.then.Goals as goal

pub returns-in-None : goal.returns-in-None
returns-in-None c = search rules
