use Rattle.std.proofs.Common.{◌≡◌, Some, subst}
use Rattle.wave_playback.specs.Playing.{PlaybackOf, shown_at}
use Rattle.wave_playback.proofs.Stands.{there_shown}
use Rattle.wave_playback.proofs.playback.Playback.state.Goals as goal

pub returns : goal.returns
returns c =
    let p = c.self.inside in
    let there = c.self.invariant.there in
    subst (λ (q : PlaybackOf). shown_at q.history q.version ≡ Some p.state) c.self.view_is (there_shown p.history.now p.place p.version p.state there.legal there)
