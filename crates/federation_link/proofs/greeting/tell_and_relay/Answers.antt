use Rattle.federation_link.proofs.Rounds.{ok_map, told_both}
use Rattle.federation_link.proofs.greeting.tell_and_relay.Goals as goal

pub returns-in-Ok-clause-told : goal.returns-in-Ok-clause-told
returns-in-Ok-clause-told g c = ok_map c.relay_all.result
    (told_both g.L.Link.tells g.T.PeerTurns.tells c.args.domain.now c.args.unanswered.now c.relay_all.new.unanswered
    (g.L.Link.events c.args.link.now) (g.L.Link.events c.tell_all.new.link) (g.L.Link.events c.relay_all.new.link)
    (g.T.PeerTurns.calls c.args.turns.now) (g.T.PeerTurns.calls c.tell_all.new.turns) (g.T.PeerTurns.calls c.relay_all.new.turns) c.requires.none c.in-Ok.ensures.told)
    c.relay_all.ensures.asked
