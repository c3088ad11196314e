use Rattle.std.proofs.Common.{Some, sym, subst}
use Rattle.std.proofs.Math.Logic.{∥∥₁_map}
use Rattle.federation_link.specs.Dials.{AreSent, IsGone}
use Rattle.federation_link.specs.Steps.{is_cut, IsIdle}
use Rattle.federation_link.proofs.Sent.{ok_or, step_sent, step_idle}
use Rattle.federation_link.proofs.peer_link.PeerLink.go_on.Goals as goal

pub invariant_of-self : goal.invariant_of-self
invariant_of-self g c = record {
  linked = ok_or (is_cut c.step.new.ear);
  sent = ∥∥₁_map (subst (λ z. AreSent g.L.Link.tells g.L.Link.events z c.args.self.now.unanswered) c.in-Some.is c.args.self.now.sent)
      (step_sent g.L.Link.tells g.T.PeerTurns.tells c.args.self.now.domain _ _ c.args.self.now.ear c.step.new.ear c.args.self.now.unanswered c.step.new.unanswered _ _ _ _ _ _ _ c.step.result c.step.ensures.stepped);
}

pub returns-clause-idle : goal.returns-clause-idle
returns-clause-idle g c = subst (λ z. IsGone z (Some c.step.new.link) (λ l m. IsIdle g.L.Link.tells g.T.PeerTurns.tells c.args.self.now.domain (g.L.Link.events l) (g.L.Link.events m) (g.T.PeerTurns.calls c.args.turns.now) (g.T.PeerTurns.calls c.step.new.turns) (g.L.Link.looks l) (g.L.Link.looks m) c.step.result)) (sym c.in-Some.is)
    (step_idle g.L.Link.tells g.T.PeerTurns.tells c.args.self.now.domain _ _ c.args.self.now.ear c.step.new.ear c.args.self.now.unanswered c.step.new.unanswered _ _ _ _ _ _ _ c.step.result c.step.ensures.stepped
    (subst (λ z. AreSent g.L.Link.tells g.L.Link.events z c.args.self.now.unanswered) c.in-Some.is c.args.self.now.sent))
