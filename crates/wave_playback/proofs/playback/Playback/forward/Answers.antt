use Rattle.std.proofs.Common.{◌≡◌, ◌↔◌, ◌<◌, true, false, IsFalse, length, ap, subst, ◌∙◌, arith}
use Rattle.std.proofs.lemmas.Bool.Decides.{nat_tests}
use Rattle.delta_history.specs.Histories.{head_of}
use Rattle.wave_playback.specs.Playing.{PlaybackOf, at_version, forward}
use Rattle.wave_playback.proofs.Stands.{stays_on, goes_forward}
use Rattle.wave_playback.proofs.playback.Playback.forward.Goals as goal

pub returns-then-self-deltas-clause-ok : goal.returns-then-self-deltas-clause-ok
returns-then-self-deltas-clause-ok c =
    let p = c.self.inside in
    let same : p.place ≡ length p.history.now.deltas = (let long = ap length c.deltas.ensures.value in grind (arith, nat_tests, long, c.if-self-deltas.true)) in
    subst (λ (q : PlaybackOf). (false, q) ≡ forward q) c.self.view_is (stays_on p.history.now p.place p.version p.state c.self.invariant.there same).ok

pub returns-then-self-deltas-clause-head : goal.returns-then-self-deltas-clause-head
returns-then-self-deltas-clause-head c =
    let p = c.self.inside in
    let same : p.place ≡ length p.history.now.deltas = (let long = ap length c.deltas.ensures.value in grind (arith, nat_tests, long, c.if-self-deltas.true)) in
    subst (λ (q : PlaybackOf). IsFalse false ↔ (q.version ≡ (head_of q.history).at.version)) c.self.view_is (stays_on p.history.now p.place p.version p.state c.self.invariant.there same).head

pub returns-clause-ok : goal.returns-clause-ok
returns-clause-ok c =
    let p = c.self.inside in
    let inside : p.place < length p.history.now.deltas = (let long = ap length c.deltas.ensures.value in let w = c.self.invariant.there.within in grind (arith, nat_tests, long, w, c.if-self-deltas.false)) in
    subst (λ (q : PlaybackOf). (true, at_version p.history.now c.version_at-self-inside.result) ≡ forward q) c.self.view_is
    (ap (λ w. (true, at_version p.history.now w)) c.version_at-self-inside.ensures ∙ (goes_forward p.history.now p.place p.version p.state c.self.invariant.there inside).ok)

pub returns-clause-head : goal.returns-clause-head
returns-clause-head c =
    let p = c.self.inside in
    let inside : p.place < length p.history.now.deltas = (let long = ap length c.deltas.ensures.value in let w = c.self.invariant.there.within in grind (arith, nat_tests, long, w, c.if-self-deltas.false)) in
    subst (λ (q : PlaybackOf). IsFalse true ↔ (q.version ≡ (head_of q.history).at.version)) c.self.view_is (goes_forward p.history.now p.place p.version p.state c.self.invariant.there inside).head
