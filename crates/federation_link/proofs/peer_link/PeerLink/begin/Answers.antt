use Rattle.std.proofs.Common.{◌∙◌, sym, ap, ◌++◌, ◌∷◌, [], Some, append-nil}
use Rattle.federation_link.proofs.Sent.{greeted_sent}
use Rattle.federation_link.proofs.peer_link.PeerLink.begin.Goals as goal

pub hold-requires : goal.hold-requires
hold-requires g c = record { sent = greeted_sent g.L.Link.tells g.T.PeerTurns.tells c.args.self.now.domain c.args.self.now.own c.greet.new.unanswered _ (g.L.Link.events c.greet.new.link) _ _ c.in-Ok.ensures.greeted }

pub returns-clause-back : goal.returns-clause-back
returns-clause-back g c = (Some c.greet.new.link, c.put.ensures.back ∙ ap (λ z. z ++ c.greet.new.link ∷ []) (sym (append-nil _)))
