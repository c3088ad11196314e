use Rattle.std.proofs.Common.{refl, arith, ◌∙◌, sym, [], ◌∷◌, append-nil}
use Rattle.peer_rounds.proofs.Standing.{prefix_self, prefix_then}
use Rattle.peer_rounds.proofs.peer.Peer.run.Goals as goal

pub step_down-requires : goal.step_down-requires
step_down-requires g c = record { out = let o = c.loop.invariant.out in let r = c.requires.out in omega (arith, o, r) }

pub loop-init : goal.loop-init
loop-init g c = record {
  ran = ([], (refl, refl, refl));
  rises = omega arith;
  back = prefix_self (g.N.Net.back c.args.net.now);
  out = refl;
  same = (refl, refl, refl);
  spent = λ t. refl;
  named = refl;
}

pub loop-preserved : goal.loop-preserved
loop-preserved g c = record {
  ran = (c.in-Ok-false.ensures.stepped.came ∷ c.loop.invariant.ran.0, (c.loop.self.link, c.loop.turns, c.loop.net, c.loop.invariant.ran.1, c.in-Ok-false.ensures.stepped.step));
  rises = let o = c.loop.invariant.rises in let n = c.step_down.ensures.rises in omega (arith, o, n);
  back = prefix_then (g.N.Net.back c.args.net.now) (g.N.Net.back c.loop.net) (g.N.Net.back c.step_down.new.net) c.loop.invariant.back c.step_down.ensures.back;
  out = let o = c.loop.invariant.out in let n = c.step_down.ensures.out in omega (arith, o, n);
  same = (c.step_down.ensures.same.0 ∙ c.loop.invariant.same.0, c.step_down.ensures.same.1 ∙ c.loop.invariant.same.1, c.step_down.ensures.same.2 ∙ c.loop.invariant.same.2);
  spent = λ t. c.in-Ok-false.ensures.spent t ∙ append-nil _ ∙ c.loop.invariant.spent t;
  named = c.step_down.ensures.named ∙ c.loop.invariant.named;
}

pub returns-in-Ok-true-clause-run : goal.returns-in-Ok-true-clause-run
returns-in-Ok-true-clause-run g c = record {
  came = c.loop.invariant.ran.0;
  last = c.in-Ok-true.ensures.stepped.came;
  link_then = c.loop.self.link;
  turns_then = c.loop.turns;
  net_then = c.loop.net;
  ran = c.loop.invariant.ran.1;
  step = c.in-Ok-true.ensures.stepped.step;
  ends = sym c.in-Ok-true.ensures.stepped.end_is ∙ c.in-Ok-true.field-0-test;
}

pub returns-in-Ok-true-clause-back : goal.returns-in-Ok-true-clause-back
returns-in-Ok-true-clause-back g c = prefix_then (g.N.Net.back c.args.net.now) (g.N.Net.back c.loop.net) (g.N.Net.back c.step_down.new.net) c.loop.invariant.back c.step_down.ensures.back

pub returns-in-Err-clause-back : goal.returns-in-Err-clause-back
returns-in-Err-clause-back g c = prefix_then (g.N.Net.back c.args.net.now) (g.N.Net.back c.loop.net) (g.N.Net.back c.step_down.new.net) c.loop.invariant.back c.step_down.ensures.back
