use Rattle.std.proofs.Common.{sym, ap, ◌∙◌, Some, length}
use Rattle.wavelet_op.specs.States.{State}
use Rattle.state_cache.specs.States.{state_after}
use Rattle.wave_playback.proofs.Stands.{head_state}
use Rattle.wave_playback.proofs.walk.from_head.Goals as goal

pub walk_back-requires-clause-here : goal.walk_back-requires-clause-here
walk_back-requires-clause-here c =
    let h = c.args.history.now in
    ap (λ ds. state_after h.deltas (length ds)) c.deltas-all.ensures.value ∙ head_state h c.deltas-all.ensures.legal ∙ ap (λ (s : State). Some s) (sym (c.in_ok-state.ensures ∙ c.state.ensures))
