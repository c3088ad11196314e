use Rattle.std.proofs.Common.{subst}
use Rattle.delta_history.specs.Histories.{HistoryOf}
use Rattle.delta_history.specs.Steps.{IsUnfit}
use Rattle.delta_history.proofs.Pushes.{unfit}
use Rattle.delta_history.proofs.history.History.step_of.Goals as goal

pub returns-in-Err-clause-refused : goal.returns-in-Err-clause-refused
returns-in-Err-clause-refused c = unfit c.args.self.now c.args.delta.now c.in-Err.fault (subst (λ (h : HistoryOf). IsUnfit h c.args.delta.now c.in-Err.fault) c.self.view_is c.in-Err.ensures.refused)
