use Rattle.std.proofs.Common.{rules, ◌≡◌, [], sym, subst, arith}
use Rattle.wavelet_op.specs.States.{State}
use Rattle.wave_playback.specs.Places.{IsThere, AreBacks}
use Rattle.wave_playback.proofs.Stands.{at_the_start, no_backs}
use Rattle.wave_playback.proofs.playback.Playback.new.Goals as goal

pub invariant_of-result : goal.invariant_of-result
invariant_of-result c =
    let h = c.args.history.now in
    let none : [] ≡ c.new-backs.result.items = search rules in
    record {
      there = subst (λ (s : State). IsThere h 0 0 s) (sym c.new-state.ensures) (at_the_start h c.deltas-deltas.ensures.legal);
      backs = subst (AreBacks h.deltas) none (no_backs h.deltas);
      reached = omega arith;
    }
