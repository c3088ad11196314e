use Rattle.std.proofs.Common.{sym, ap, ◌∙◌}
use Rattle.wave_playback.specs.Playing.{shown_at}
use Rattle.wave_playback.proofs.Stands.{start_shown, never_lost}
use Rattle.wave_playback.proofs.steps.replayed.Goals as goal

pub unreachable-requires : goal.unreachable-requires
unreachable-requires c =
    let h = c.args.history.now in
    never_lost h c.args.place c.in_ok-state.field-0 c.deltas-deltas.ensures.legal c.requires (c.in_ok-state.ensures ∙ ap (shown_at h) c.version_at-version.ensures) c.in-None.is

pub returns : goal.returns
returns c =
    let h = c.args.history.now in
    sym (start_shown h c.args.place c.deltas-deltas.ensures.legal c.requires) ∙ sym (c.in_ok-state.ensures ∙ ap (shown_at h) c.version_at-version.ensures) ∙ c.in-Some.is
