use Rattle.delta_history.proofs.Causes.{cause_is}
use Rattle.delta_history.proofs.Judges.{judged_is}
use Rattle.delta_history.proofs.Keeping.{kept_is, kept_there}
use Rattle.delta_history.proofs.laws.verdicts_hold.Goals as goal

pub returns-clause-kept : goal.returns-clause-kept
returns-clause-kept c = kept_is

pub returns-clause-new : goal.returns-clause-new
returns-clause-new c = kept_there

pub returns-clause-judged : goal.returns-clause-judged
returns-clause-judged c = judged_is

pub returns-clause-cause : goal.returns-clause-cause
returns-clause-cause c = cause_is
