use Rattle.std.proofs.lemmas.Result.{on_ok_weaker}
use Rattle.wave_playback.proofs.Stands.{got_at, goes_on, next_at}
use Rattle.wave_playback.proofs.steps.step_again.Goals as goal

pub lead_on-requires : goal.lead_on-requires
lead_on-requires c =
    let h = c.args.history.now in
    let d = c.index-deltas-place.result in
    let at = got_at c.deltas.result.now h.deltas c.args.place d c.deltas.ensures.value c.requires.inside c.index-deltas-place.is in
    goes_on h c.args.place c.args.state.now d c.deltas.ensures.legal c.requires.here at

pub returns-clause-ok : goal.returns-clause-ok
returns-clause-ok c =
    let h = c.args.history.now in
    let d = c.index-deltas-place.result in
    let at = got_at c.deltas.result.now h.deltas c.args.place d c.deltas.ensures.value c.requires.inside c.index-deltas-place.is in
    on_ok_weaker c.lead_on.result (λ goes. next_at h.deltas c.args.place c.args.state.now c.lead_on.new.state d c.requires.here at goes) c.lead_on.ensures.ok
