use Rattle.std.proofs.Common.{◌≡◌, ◌+◌, ◌*◌, ◌-◌, ◌++◌, ◌∷◌, [], Some, sym, ap, subst, ◌∙◌, arith, length}
use Rattle.state_cache.specs.States.{AreKept, state_after}
use Rattle.state_cache.proofs.Runs.{stretch_valid, stretch_leads}
use Rattle.state_cache.proofs.Caches.{kept_more}
use Rattle.state_cache.proofs.cache.StateCache.keep_next.Goals as goal

pub apply_all-requires : goal.apply_all-requires
apply_all-requires c =
    let last = c.len-last.result - 1 in
    let long : c.len-last.result ≡ length c.args.self.now = c.len-last.ensures ∙ c.self.inside.states.ok.0 ∙ ap length c.self.view_is in
    let from = ap (λ n. state_after c.args.deltas.now ((n - 1) * 64)) long ∙ c.requires.last in
    stretch_valid c.args.deltas.now (last * 64) (last * 64 + 64 - last * 64) c.args.state.now c.requires.valid from

pub returns-clause-last : goal.returns-clause-last
returns-clause-last c =
    let last = c.len-last.result - 1 in
    let long : c.len-last.result ≡ length c.args.self.now = c.len-last.ensures ∙ c.self.inside.states.ok.0 ∙ ap length c.self.view_is in
    let from = ap (λ n. state_after c.args.deltas.now ((n - 1) * 64)) long ∙ c.requires.last in
    let to = stretch_leads c.args.deltas.now (last * 64) (last * 64 + 64 - last * 64) c.args.state.now c.apply_all.new.state from c.in_ok-apply_all.ensures in
    let place : length c.args.self.now * 64 ≡ last * 64 + (last * 64 + 64 - last * 64) = omega (arith, long, c.requires.some) in
    ap (state_after c.args.deltas.now) place ∙ to

pub returns-clause-kept : goal.returns-clause-kept
returns-clause-kept c =
    let last = c.len-last.result - 1 in
    let long : c.len-last.result ≡ length c.args.self.now = c.len-last.ensures ∙ c.self.inside.states.ok.0 ∙ ap length c.self.view_is in
    let from = ap (λ n. state_after c.args.deltas.now ((n - 1) * 64)) long ∙ c.requires.last in
    let to = stretch_leads c.args.deltas.now (last * 64) (last * 64 + 64 - last * 64) c.args.state.now c.apply_all.new.state from c.in_ok-apply_all.ensures in
    let place : length c.args.self.now * 64 ≡ last * 64 + (last * 64 + 64 - last * 64) = omega (arith, long, c.requires.some) in
    let all : c.push.new.self.items ≡ c.args.self.now ++ c.in_ok-packed.packed ∷ [] = c.in_ok-push.ensures.items ∙ ap (λ z. z ++ c.in_ok-packed.packed ∷ []) c.self.view_is in
    subst (AreKept c.args.deltas.now) (sym all) (kept_more c.args.deltas.now c.args.self.now c.in_ok-packed.packed c.requires.kept
    (ap (state_after c.args.deltas.now) place ∙ to ∙ ap Some (sym c.in_ok-packed.ensures)))
