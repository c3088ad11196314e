use Rattle.std.proofs.Common.{rules, ◌≡◌, ◌+◌, ◌*◌, ◌-◌, ◌/◌, sym, ap, ◌∙◌, arith}
use Rattle.state_cache.specs.States.{state_after}
use Rattle.state_cache.proofs.Runs.{stretch_valid, stretch_leads}
use Rattle.state_cache.proofs.Caches.{looked_up}
use Rattle.state_cache.proofs.cache.StateCache.state_at.Goals as goal

pub apply_counted-requires : goal.apply_counted-requires
apply_counted-requires g c =
    let place = c.args.count / 64 in
    let from = looked_up c.args.deltas.now c.args.self.now c.self.inside.states.items place c.index.result.now c.in_ok-state.state c.requires.cached.kept c.self.view_is (search rules) c.index.ensures c.in_ok-state.ensures in
    stretch_valid c.args.deltas.now (place * 64) (c.args.count - place * 64) c.in_ok-state.state c.requires.valid from

pub returns-clause-value : goal.returns-clause-value
returns-clause-value g c =
    let place = c.args.count / 64 in
    let from = looked_up c.args.deltas.now c.args.self.now c.self.inside.states.items place c.index.result.now c.in_ok-state.state c.requires.cached.kept c.self.view_is (search rules) c.index.ensures c.in_ok-state.ensures in
    let whole : place * 64 + (c.args.count - place * 64) ≡ c.args.count = omega arith in
    ap (state_after c.args.deltas.now) (sym whole) ∙ stretch_leads c.args.deltas.now (place * 64) (c.args.count - place * 64) c.in_ok-state.state c.apply_counted.new.state from c.in_ok-apply_counted.ensures.value
