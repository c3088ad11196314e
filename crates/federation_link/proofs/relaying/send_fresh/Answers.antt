use Rattle.std.proofs.Common.{refl, subst, ◌∙◌, arith, append-nil}
use Rattle.federation_link.specs.Asking.{IsNext}
use Rattle.federation_link.proofs.Rounds.{round_begin, round_next, round_over}
use Rattle.federation_link.proofs.relaying.send_fresh.Goals as goal

pub loop-place-init : goal.loop-place-init
loop-place-init g c = record {
  round = round_begin g.L.Link.tells g.T.PeerTurns.tells c.args.domain.now c.args.unanswered.now (g.L.Link.events c.args.link.now) (g.T.PeerTurns.calls c.args.turns.now);
  spent = λ t. refl;
  gifts = λ t. refl;
  faults = omega arith;
  closed = refl;
  looks = refl;
}

pub returns-in-Ok-None-clause-asked : goal.returns-in-Ok-None-clause-asked
returns-in-Ok-None-clause-asked g c =
    round_over g.L.Link.tells g.T.PeerTurns.tells c.args.domain.now c.loop-place.place c.args.unanswered.now c.loop-place.unanswered c.send_next.new.unanswered
    (g.L.Link.events c.args.link.now) (g.L.Link.events c.loop-place.link) (g.L.Link.events c.send_next.new.link)
    (g.T.PeerTurns.calls c.args.turns.now) (g.T.PeerTurns.calls c.loop-place.turns) (g.T.PeerTurns.calls c.send_next.new.turns) c.loop-place.any c.loop-place.invariant.round
    (subst (IsNext g.L.Link.tells g.T.PeerTurns.tells c.args.domain.now c.loop-place.place c.loop-place.unanswered c.send_next.new.unanswered (g.L.Link.events c.loop-place.link) (g.L.Link.events c.send_next.new.link) (g.T.PeerTurns.calls c.loop-place.turns) (g.T.PeerTurns.calls c.send_next.new.turns)) c.in-Ok-None.field-0-is c.in-Ok-None.ensures.next)

pub loop-place-preserved : goal.loop-place-preserved
loop-place-preserved g c = record {
  round = round_next g.L.Link.tells g.T.PeerTurns.tells c.args.domain.now c.loop-place.place c.args.unanswered.now c.loop-place.unanswered c.send_next.new.unanswered
      (g.L.Link.events c.args.link.now) (g.L.Link.events c.loop-place.link) (g.L.Link.events c.send_next.new.link)
      (g.T.PeerTurns.calls c.args.turns.now) (g.T.PeerTurns.calls c.loop-place.turns) (g.T.PeerTurns.calls c.send_next.new.turns) c.loop-place.any c.loop-place.invariant.round c.in-Ok-Some.sent
      (subst (IsNext g.L.Link.tells g.T.PeerTurns.tells c.args.domain.now c.loop-place.place c.loop-place.unanswered c.send_next.new.unanswered (g.L.Link.events c.loop-place.link) (g.L.Link.events c.send_next.new.link) (g.T.PeerTurns.calls c.loop-place.turns) (g.T.PeerTurns.calls c.send_next.new.turns)) c.in-Ok-Some.field-0-is c.in-Ok-Some.ensures.next);
  spent = λ t. c.in-Ok-Some.ensures.spent t ∙ append-nil _ ∙ c.loop-place.invariant.spent t;
  gifts = λ t. c.send_next.ensures.gifts t ∙ c.loop-place.invariant.gifts t;
  faults = let l = c.send_next.ensures.later in omega (arith, l, c.loop-place.invariant.faults);
  closed = c.send_next.ensures.same.0 ∙ c.loop-place.invariant.closed;
  looks = c.send_next.ensures.same.1 ∙ c.loop-place.invariant.looks;
}
