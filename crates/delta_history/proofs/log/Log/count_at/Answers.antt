use Rattle.std.proofs.Common.{sym, subst}
use Rattle.delta_history.specs.Places.{IsRisingFrom}
use Rattle.delta_history.proofs.Finding.{rising}
use Rattle.delta_history.proofs.log.Log.count_at.Goals as goal

pub started_below-place-requires : goal.started_below-place-requires
started_below-place-requires c = subst (IsRisingFrom 0) (sym c.deltas.ensures.value) (rising c.args.self.now.name c.args.self.now.deltas c.deltas.ensures.legal)
