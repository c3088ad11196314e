use Rattle.std.proofs.Common.{rules, ◌≡◌, ◌-◌, ◌*◌, ◌<◌, sym, ap, ◌∙◌, le_refl, length, arith}
use Rattle.std.proofs.lemmas.List.{take_all}
use Rattle.state_cache.specs.States.{state_after}
use Rattle.state_cache.proofs.Caches.{begun_kept, begun_long, looked_up, cached}
use Rattle.state_cache.proofs.cache.StateCache.keep_all.Goals as goal

pub loop-init : goal.loop-init
loop-init c =
    let long = begun_long c.args.deltas.now c.args.self.now c.requires.begins in
    let kept = begun_kept c.args.deltas.now c.args.self.now c.requires.begins in
    let counted : c.len-count.result ≡ length c.args.self.now = c.len-count.ensures ∙ c.self.inside.states.ok.0 ∙ ap length c.self.view_is in
    record {
      kept = kept;
      some = long.0;
      long = sym counted;
      longer = le_refl _;
      front = take_all (length c.args.self.now) c.args.self.now (le_refl _);
      last = ap (λ n. state_after c.args.deltas.now ((n - 1) * 64)) (sym counted)
          ∙ looked_up c.args.deltas.now c.args.self.now c.self.inside.states.items (c.len-count.result - 1) c.index.result.now c.in_ok-state.state kept c.self.view_is (search rules) c.index.ensures c.in_ok-state.ensures;
    }

pub returns-then-count-all-clause-ok : goal.returns-then-count-all-clause-ok
returns-then-count-all-clause-ok c =
    let states = c.args.self.now in
    let counted : c.len-count.result ≡ length states = c.len-count.ensures ∙ c.self.inside.states.ok.0 ∙ ap length c.self.view_is in
    let all : length c.args.deltas.now < 64 * length states = omega (arith, counted, c.if-count-all.true) in
    cached c.args.deltas.now states (begun_kept c.args.deltas.now states c.requires.begins) (begun_long c.args.deltas.now states c.requires.begins).1 all
