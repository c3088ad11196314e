use Rattle.federation_link.proofs.Rounds.{ok_map, greeted}
use Rattle.federation_link.proofs.greeting.greet.Goals as goal

pub returns-in-Ok-clause-greeted : goal.returns-in-Ok-clause-greeted
returns-in-Ok-clause-greeted g c = ok_map c.tell_and_relay.result
    (greeted g.L.Link.tells g.T.PeerTurns.tells c.args.domain.now c.args.own.now c.tell_and_relay.new.unanswered
    (g.L.Link.events c.args.link.now) (g.L.Link.events c.send_peer.new.link) (g.L.Link.events c.tell_and_relay.new.link)
    (g.T.PeerTurns.calls c.args.turns.now) (g.T.PeerTurns.calls c.tell_and_relay.new.turns) c.in-Ok.ensures.sent)
    c.tell_and_relay.ensures.told
