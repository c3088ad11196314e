use Rattle.client_session.specs.Machine.{machine_of}
use Rattle.client_terminal.specs.Whole.{origin_of}
use Rattle.client_terminal.proofs.Ending.{greeted_reading, ungreeted}
use Rattle.client_terminal.proofs.run.run.Goals as goal

pub returns-in-Ok-clause-edited : goal.returns-in-Ok-clause-edited
returns-in-Ok-clause-edited g c = c.obey_lines.ensures.edited (origin_of c.args.user c.args.key (g.L.Link.events c.args.link.now) (g.W.Sink.written c.args.sink.now))
    (greeted_reading g.L.Link.tells c.args.user c.args.key (g.L.Link.events c.args.link.now) (g.L.Link.events c.greet.new.link) (g.W.Sink.written c.args.sink.now) (g.W.Sink.written c.greet.new.sink)
    (machine_of c.new-client.result) c.new-client.ensures (machine_of c.greet.new.client) c.in-Ok.ensures.machine c.in-Ok.ensures.sent c.in-Ok.ensures.said)

pub returns-in-Ok-clause-stopped : goal.returns-in-Ok-clause-stopped
returns-in-Ok-clause-stopped g c = c.obey_lines.ensures.stopped (origin_of c.args.user c.args.key (g.L.Link.events c.args.link.now) (g.W.Sink.written c.args.sink.now))
    (greeted_reading g.L.Link.tells c.args.user c.args.key (g.L.Link.events c.args.link.now) (g.L.Link.events c.greet.new.link) (g.W.Sink.written c.args.sink.now) (g.W.Sink.written c.greet.new.sink)
    (machine_of c.new-client.result) c.new-client.ensures (machine_of c.greet.new.client) c.in-Ok.ensures.machine c.in-Ok.ensures.sent c.in-Ok.ensures.said)

pub returns-clause-stopped : goal.returns-clause-stopped
returns-clause-stopped g c =
    ungreeted g.L.Link.tells c.args.user c.args.key (g.L.Link.events c.args.link.now) (g.L.Link.events c.greet.new.link) (g.W.Sink.written c.args.sink.now) (g.W.Sink.written c.greet.new.sink)
    (machine_of c.new-client.result) c.new-client.ensures c.in-Err.stop (g.S.Source.left c.args.source.now) c.in-Err.ensures.cause c.in-Err.ensures.unsent c.in-Err.ensures.unsaid
