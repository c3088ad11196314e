use Rattle.std.proofs.Common.{◌≡◌, ◌↔◌, ◌<◌, true, false, IsFalse, ap, subst, ◌∙◌, arith}
use Rattle.std.proofs.lemmas.Bool.Decides.{nat_tests}
use Rattle.wave_playback.specs.Playing.{PlaybackOf, at_version, back}
use Rattle.wave_playback.proofs.Stands.{stays_back, goes_back}
use Rattle.wave_playback.proofs.playback.Playback.back.Goals as goal

pub returns-then-self-eq0-clause-ok : goal.returns-then-self-eq0-clause-ok
returns-then-self-eq0-clause-ok c =
    let p = c.self.inside in
    let none : p.place ≡ 0 = grind (arith, nat_tests, c.if-self-eq0.true) in
    subst (λ (q : PlaybackOf). (false, q) ≡ back q) c.self.view_is (stays_back p.history.now p.place p.version p.state c.self.invariant.there none).ok

pub returns-then-self-eq0-clause-start : goal.returns-then-self-eq0-clause-start
returns-then-self-eq0-clause-start c =
    let p = c.self.inside in
    let none : p.place ≡ 0 = grind (arith, nat_tests, c.if-self-eq0.true) in
    subst (λ (q : PlaybackOf). IsFalse false ↔ (q.version ≡ 0)) c.self.view_is (stays_back p.history.now p.place p.version p.state c.self.invariant.there none).start

pub returns-clause-ok : goal.returns-clause-ok
returns-clause-ok c =
    let p = c.self.inside in
    let some : 0 < p.place = grind (arith, nat_tests, c.if-self-eq0.false) in
    subst (λ (q : PlaybackOf). (true, at_version p.history.now c.version_at-before.result) ≡ back q) c.self.view_is
    (ap (λ w. (true, at_version p.history.now w)) c.version_at-before.ensures ∙ (goes_back p.history.now p.place p.version p.state c.self.invariant.there some).ok)

pub returns-clause-start : goal.returns-clause-start
returns-clause-start c =
    let p = c.self.inside in
    let some : 0 < p.place = grind (arith, nat_tests, c.if-self-eq0.false) in
    subst (λ (q : PlaybackOf). IsFalse true ↔ (q.version ≡ 0)) c.self.view_is (goes_back p.history.now p.place p.version p.state c.self.invariant.there some).start
