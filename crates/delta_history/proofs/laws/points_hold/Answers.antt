use Rattle.delta_history.proofs.Chains.{goes_on}
use Rattle.delta_history.proofs.Versions.{point_is, point_there, pass_is, begins}
use Rattle.delta_history.proofs.laws.points_hold.Goals as goal

pub returns-clause-point : goal.returns-clause-point
returns-clause-point c = point_is

pub returns-clause-there : goal.returns-clause-there
returns-clause-there c = point_there

pub returns-clause-pass : goal.returns-clause-pass
returns-clause-pass c = pass_is

pub returns-clause-longer : goal.returns-clause-longer
returns-clause-longer c = goes_on

pub returns-clause-beginning : goal.returns-clause-beginning
returns-clause-beginning c = begins
