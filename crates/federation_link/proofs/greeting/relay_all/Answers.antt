use Rattle.std.proofs.Common.{refl, subst, ◌∙◌, arith, append-nil}
use Rattle.federation_link.specs.Asking.{HasRelayedNext}
use Rattle.federation_link.proofs.Rounds.{relaying_begin, relaying_next, relaying_over}
use Rattle.federation_link.proofs.greeting.relay_all.Goals as goal

pub loop-place-init : goal.loop-place-init
loop-place-init g c = record {
  going = relaying_begin g.L.Link.tells g.T.PeerTurns.tells c.args.domain.now c.args.unanswered.now (g.L.Link.events c.args.link.now) (g.T.PeerTurns.calls c.args.turns.now);
  spent = λ t. refl;
  gifts = λ t. refl;
  faults = omega arith;
  closed = refl;
}

pub returns-in-Ok-false-clause-asked : goal.returns-in-Ok-false-clause-asked
returns-in-Ok-false-clause-asked g c =
    relaying_over g.L.Link.tells g.T.PeerTurns.tells c.args.domain.now c.loop-place.place c.args.unanswered.now c.loop-place.unanswered c.relay_next.new.unanswered
    (g.L.Link.events c.args.link.now) (g.L.Link.events c.loop-place.link) (g.L.Link.events c.relay_next.new.link)
    (g.T.PeerTurns.calls c.args.turns.now) (g.T.PeerTurns.calls c.loop-place.turns) (g.T.PeerTurns.calls c.relay_next.new.turns) c.loop-place.invariant.going
    (subst (HasRelayedNext g.L.Link.tells g.T.PeerTurns.tells c.args.domain.now c.loop-place.place c.loop-place.unanswered c.relay_next.new.unanswered (g.L.Link.events c.loop-place.link) (g.L.Link.events c.relay_next.new.link) (g.T.PeerTurns.calls c.loop-place.turns) (g.T.PeerTurns.calls c.relay_next.new.turns)) c.in-Ok-false.field-0-test c.in-Ok-false.ensures.next)

pub loop-place-preserved : goal.loop-place-preserved
loop-place-preserved g c = record {
  going = relaying_next g.L.Link.tells g.T.PeerTurns.tells c.args.domain.now c.loop-place.place c.args.unanswered.now c.loop-place.unanswered c.relay_next.new.unanswered
      (g.L.Link.events c.args.link.now) (g.L.Link.events c.loop-place.link) (g.L.Link.events c.relay_next.new.link)
      (g.T.PeerTurns.calls c.args.turns.now) (g.T.PeerTurns.calls c.loop-place.turns) (g.T.PeerTurns.calls c.relay_next.new.turns) c.loop-place.invariant.going
      (subst (HasRelayedNext g.L.Link.tells g.T.PeerTurns.tells c.args.domain.now c.loop-place.place c.loop-place.unanswered c.relay_next.new.unanswered (g.L.Link.events c.loop-place.link) (g.L.Link.events c.relay_next.new.link) (g.T.PeerTurns.calls c.loop-place.turns) (g.T.PeerTurns.calls c.relay_next.new.turns)) c.in-Ok-true.field-0-test c.in-Ok-true.ensures.next);
  spent = λ t. c.in-Ok-true.ensures.spent t ∙ append-nil _ ∙ c.loop-place.invariant.spent t;
  gifts = λ t. c.relay_next.ensures.gifts t ∙ c.loop-place.invariant.gifts t;
  faults = let l = c.relay_next.ensures.later in omega (arith, l, c.loop-place.invariant.faults);
  closed = c.relay_next.ensures.closed ∙ c.loop-place.invariant.closed;
}
