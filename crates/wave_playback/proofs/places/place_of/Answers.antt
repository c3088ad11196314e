use Rattle.std.proofs.Common.{sym, subst}
use Rattle.delta_history.specs.Places.{IsRisingFrom}
use Rattle.delta_history.proofs.Finding.{rising}
use Rattle.wave_playback.proofs.places.place_of.Goals as goal

pub started_below-place-requires : goal.started_below-place-requires
started_below-place-requires c = subst (IsRisingFrom 0) (sym c.deltas.ensures.value) (rising c.args.history.now.name c.args.history.now.deltas c.deltas.ensures.legal)
