use Rattle.std.proofs.Common.{rules, ◌∙◌}
use Rattle.turn_lock.proofs.Allowed.{looks_serving, served_or_waits, served_same}
use Rattle.turn_lock.proofs.cell.TurnCell.look.Goals as goal

pub load-requires : goal.load-requires
load-requires g c = (search rules, search rules, looks_serving g.T.Logged.entries _ _ _ c.args.number c.requires.2)

pub returns-clause-found : goal.returns-clause-found
returns-clause-found g c = served_or_waits g.T.Logged.entries _ _ _ _ c.args.number (c.load.ensures.0 ∙ c.requires.0) c.requires.1 c.requires.2 (c.load.ensures.2 c.args.number c.requires.2)

pub returns-clause-same : goal.returns-clause-same
returns-clause-same g c = served_same g.T.Logged.entries _ _ _ c.args.number (c.load.ensures.2 c.args.number c.requires.2)
