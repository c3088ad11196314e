use Rattle.std.proofs.Common.{◌≡◌, true, false, is_some, sym, subst, ◌∙◌}
use Rattle.wave_playback.specs.Playing.{PlaybackOf, at_version, shown_at, sought}
use Rattle.wave_playback.proofs.Stands.{goes_to, no_end}
use Rattle.wave_playback.proofs.playback.Playback.seek.Goals as goal

pub returns-in-None-clause-ok : goal.returns-in-None-clause-ok
returns-in-None-clause-ok c =
    let p = c.self.inside in
    subst (λ (q : PlaybackOf). (false, q) ≡ sought q c.args.version) c.self.view_is (no_end (at_version p.history.now p.version) c.args.version c.self.invariant.there.legal (sym c.place_of.ensures.value ∙ c.in-None.is)).ok

pub returns-in-None-clause-end : goal.returns-in-None-clause-end
returns-in-None-clause-end c =
    let p = c.self.inside in
    subst (λ (q : PlaybackOf). false ≡ is_some (shown_at q.history c.args.version)) c.self.view_is (no_end (at_version p.history.now p.version) c.args.version c.self.invariant.there.legal (sym c.place_of.ensures.value ∙ c.in-None.is)).end

pub returns-in_ok-go-in-Some-clause-ok : goal.returns-in_ok-go-in-Some-clause-ok
returns-in_ok-go-in-Some-clause-ok c =
    let p = c.self.inside in
    subst (λ (q : PlaybackOf). (true, at_version p.history.now c.args.version) ≡ sought q c.args.version) c.self.view_is
    (goes_to (at_version p.history.now p.version) c.in-Some.place c.args.version c.go.new.state c.self.invariant.there.legal (sym c.place_of.ensures.value ∙ c.in-Some.is) c.in_ok-go-in-Some.ensures.ok).ok

pub returns-in_ok-go-in-Some-clause-end : goal.returns-in_ok-go-in-Some-clause-end
returns-in_ok-go-in-Some-clause-end c =
    let p = c.self.inside in
    subst (λ (q : PlaybackOf). true ≡ is_some (shown_at q.history c.args.version)) c.self.view_is
    (goes_to (at_version p.history.now p.version) c.in-Some.place c.args.version c.go.new.state c.self.invariant.there.legal (sym c.place_of.ensures.value ∙ c.in-Some.is) c.in_ok-go-in-Some.ensures.ok).end
