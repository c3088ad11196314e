use Rattle.std.proofs.Common.{is_some, sym, ap, ◌∙◌}
use Rattle.replica_store.proofs.Kept.{has_kept}
use Rattle.replica_store.proofs.histories.kept.Goals as goal

pub returns-clause-has : goal.returns-clause-has
returns-clause-has c = has_kept c.args.history.now.name c.args.history.now.deltas c.args.id.now c.deltas-deltas.ensures.legal ∙ sym (ap is_some c.kept.ensures)
