use Rattle.std.proofs.Common.{sym, ◌∙◌}
use Rattle.delta_history.proofs.Pushes.{unasked}
use Rattle.delta_history.proofs.history.History.if_may_write.Goals as goal

pub returns-else-may_write-clause-refused : goal.returns-else-may_write-clause-refused
returns-else-may_write-clause-refused g c = unasked c.args.self.now c.args.delta.now c.requires (sym c.may_write.ensures ∙ c.if-may_write.false)
