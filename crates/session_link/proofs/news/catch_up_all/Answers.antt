use Rattle.std.proofs.Common.{◌≡◌, ◌≤◌, ◌∙◌, arith, refl, sym, subst, OnErr}
use Rattle.std.proofs.lemmas.Result.{err_from_is_err_and}
use Rattle.session_hub.specs.Hubs.{server_of}
use Rattle.session_steps.specs.Going.{HasBroken}
use Rattle.session_steps.proofs.Growing.{grow_same, grow_more}
use Rattle.session_steps.proofs.Serving.{looked_next, loads_next, all_next, others_marks, others_loads}
use Rattle.session_link.proofs.news.catch_up_all.Goals as goal

pub loop-shard-init : goal.loop-shard-init
loop-shard-init g c = record {
  own = c.requires.own;
  later = grow_same _;
  looked = λ k below. absurd (omega (arith, below));
  loads = λ k. omega arith;
  client = c.requires.client;
  sent = c.requires.sent;
  quiet = c.requires.quiet;
  all = λ k below. absurd (omega (arith, below));
  going = λ o on. on;
  polls = λ t. refl;
  unclosed = refl;
  faults = omega arith;
}

pub loop-shard-preserved : goal.loop-shard-preserved
loop-shard-preserved g c = record {
  own = c.in_ok-catch_up.ensures.own;
  later = grow_more _ _ _ c.loop-shard.invariant.later c.in_ok-catch_up.ensures.later;
  looked = looked_next _ _ _ _ c.in_ok-catch_up.ensures.looked (others_loads c.loop-shard.passes c.catch_up.new.passes c.loop-shard.shard c.in_ok-catch_up.ensures.others) c.loop-shard.invariant.loads c.loop-shard.invariant.looked;
  loads = loads_next _ _ _ _ c.in_ok-catch_up.ensures.looked (others_loads c.loop-shard.passes c.catch_up.new.passes c.loop-shard.shard c.in_ok-catch_up.ensures.others) c.loop-shard.invariant.loads;
  client = c.in_ok-catch_up.ensures.client;
  sent = c.in_ok-catch_up.ensures.sent;
  quiet = c.in_ok-catch_up.ensures.quiet;
  all = all_next _ _ _ _ _ c.loop-shard.invariant.all c.in_ok-catch_up.ensures.here c.in_ok-catch_up.ensures.there (others_marks c.loop-shard.passes c.catch_up.new.passes c.loop-shard.shard c.in_ok-catch_up.ensures.others);
  going = λ o on. c.in_ok-catch_up.ensures.going o (c.loop-shard.invariant.going o on);
  polls = λ t. c.in_ok-catch_up.ensures.polls t ∙ c.loop-shard.invariant.polls t;
  unclosed = c.in_ok-catch_up.ensures.unclosed ∙ c.loop-shard.invariant.unclosed;
  faults = omega (arith, c.loop-shard.invariant.faults, c.in_ok-catch_up.ensures.faults);
}

-- the session broke off at this shard
pub returns-in_err-catch_up-clause-later : goal.returns-in_err-catch_up-clause-later
returns-in_err-catch_up-clause-later g c = grow_more _ _ _ c.loop-shard.invariant.later c.catch_up.ensures.later

pub returns-in_err-catch_up-clause-broken : goal.returns-in_err-catch_up-clause-broken
returns-in_err-catch_up-clause-broken g c o on =
    let p = err_from_is_err_and c.from_residual.result c.from_residual.ensures.1 in
    subst (λ r. OnErr r (HasBroken g.C.Clock g.L.Link o (server_of c.args.hub.now) c.catch_up.new.passes c.catch_up.new.link c.args.clock.now)) (sym p.1)
    (c.in_err-catch_up.ensures.broken o (c.loop-shard.invariant.going o on))
