use Rattle.std.proofs.Common.{◌≡◌, ◌∙◌, ◌+◌, ◌≤◌, arith, Some}
use Rattle.session_core.specs.Rules.{fresh}
use Rattle.turn_cells.specs.Cells.{loads_at}
use Rattle.session_hub.specs.Hubs.{server_of}
use Rattle.session_steps.specs.Going.{origin_of}
use Rattle.session_steps.specs.declared.end.EndCause.TheVariants.{Memory}
use Rattle.session_steps.proofs.Growing.{grow_same, grow_more, grow_begins}
use Rattle.session_steps.proofs.Serving.{session_new, sent_new, going_unbegun, ended_unbegun, ended_of, looked_more}
use Rattle.session_link.proofs.Quiet.{quiet_new}
use Rattle.session_link.proofs.serve.serve_link.Goals as goal

pub loop-init : goal.loop-init
loop-init g c = record {
  own = c.requires.own;
  later = grow_same _;
  client = session_new (server_of c.args.hub.now) _ (c.in-Ok.ensures.session ∙ (λ i. fresh (Some (c.domain.ensures i)) (c.peers.ensures i)));
  sent = sent_new _ _ _ _ c.in-Ok.ensures.due;
  quiet = quiet_new (server_of c.args.hub.now) _ _ (c.in-Ok.ensures.session ∙ (λ i. fresh (Some (c.domain.ensures i)) (c.peers.ensures i)));
  going = λ t. going_unbegun (server_of c.args.hub.now) g.C.Clock.tells c.args.passes.now (g.C.Clock.readings c.args.clock.now) (g.L.Link.events c.args.link.now) _ c.requires.unused (c.in-Ok.ensures.session ∙ (λ i. fresh (Some (c.domain.ensures i)) (c.peers.ensures i)));
  looked = λ t k below. omega arith;
  unclosed = λ e. e;
  faults = omega arith;
}

pub loop-preserved : goal.loop-preserved
loop-preserved g c = record {
  own = c.in-Ok-turn.ensures.own;
  later = grow_more _ _ _ c.loop.invariant.later c.in-Ok-turn.ensures.later;
  client = c.in-Ok-turn.ensures.client;
  sent = c.in-Ok-turn.ensures.sent;
  quiet = c.in-Ok-turn.ensures.quiet;
  going = c.in-Ok-turn.ensures.going (origin_of g.C.Clock c.args.passes.now c.args.clock.now) c.loop.invariant.going;
  looked = λ t. looked_more (loads_at c.args.passes.now) (loads_at c.loop.passes) (loads_at c.turn.new.passes) (g.L.Link.events c.args.link.now) (g.L.Link.events c.loop.link) (g.L.Link.events c.turn.new.link) (c.loop.invariant.looked t) (c.in-Ok-turn.ensures.looked t);
  unclosed = λ e. c.in-Ok-turn.ensures.unclosed (c.loop.invariant.unclosed e);
  faults = omega (arith, c.loop.invariant.faults, c.in-Ok-turn.ensures.faults);
}

-- there was no memory for a session
pub returns-in-Err-clause-later : goal.returns-in-Err-clause-later
returns-in-Err-clause-later g c = grow_begins c.args.passes.now c.args.passes.now (grow_same _)

pub returns-in-Err-clause-ended : goal.returns-in-Err-clause-ended
returns-in-Err-clause-ended g c t =
    ended_unbegun (server_of c.args.hub.now) g.C.Clock.tells c.args.passes.now (g.C.Clock.readings c.args.clock.now) (g.L.Link.events c.args.link.now) Memory (λ e. grind arith) c.requires.unused

-- the session ended
pub returns-in-Err-turn-clause-later : goal.returns-in-Err-turn-clause-later
returns-in-Err-turn-clause-later g c = grow_begins c.args.passes.now c.turn.new.passes (grow_more _ _ _ c.loop.invariant.later c.in-Err-turn.ensures.later)

pub returns-in-Err-turn-clause-ended : goal.returns-in-Err-turn-clause-ended
returns-in-Err-turn-clause-ended g c t =
    ended_of (server_of c.args.hub.now) _ _ _ _ _ _ _ _ c.requires.unused (looked_more (loads_at c.args.passes.now) (loads_at c.loop.passes) (loads_at c.turn.new.passes) (g.L.Link.events c.args.link.now) (g.L.Link.events c.loop.link) (g.L.Link.events c.turn.new.link) (c.loop.invariant.looked t) (c.in-Err-turn.ensures.looked t))
    (c.in-Err-turn.ensures.ended (origin_of g.C.Clock c.args.passes.now c.args.clock.now) c.loop.invariant.going t)
