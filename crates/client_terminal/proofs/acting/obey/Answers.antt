use Rattle.std.proofs.Common.{refl}
use Rattle.client_commands.specs.Lines.{command_of}
use Rattle.client_session.specs.Machine.{machine_of}
use Rattle.client_terminal.specs.Moods.{after_run}
use Rattle.client_terminal.proofs.Short.{commanded_short}
use Rattle.client_terminal.proofs.Stepping.{line_goes, line_stops}
use Rattle.client_terminal.proofs.acting.obey.Goals as goal

pub act-requires : goal.act-requires
act-requires g c = commanded_short (machine_of c.args.client.now) (command_of c.args.line.now) (machine_of c.on_command.new.self, c.in_ok-acts.acts) c.in_ok-acts.ensures.ok

pub returns-in-Ok-clause-goes : goal.returns-in-Ok-clause-goes
returns-in-Ok-clause-goes g c = λ o ls h.
    line_goes g.L.Link.tells o (machine_of c.args.client.now) ls (g.L.Link.events c.args.link.now) (g.L.Link.events c.act.new.link) (g.W.Sink.written c.args.sink.now) (g.W.Sink.written c.act.new.sink) c.args.line.now (machine_of c.on_command.new.self, c.in_ok-acts.acts)
    h c.in_ok-acts.ensures.ok (after_run c.after.result) c.after.ensures (machine_of c.on_command.new.self) refl c.in-Ok.ensures.sent c.in-Ok.ensures.said

pub returns-clause-halts : goal.returns-clause-halts
returns-clause-halts g c = λ o ls h.
    line_stops g.L.Link.tells o (machine_of c.args.client.now) ls (g.L.Link.events c.args.link.now) (g.L.Link.events c.act.new.link) (g.W.Sink.written c.args.sink.now) (g.W.Sink.written c.act.new.sink) c.args.line.now (machine_of c.on_command.new.self, c.in_ok-acts.acts)
    h c.in_ok-acts.ensures.ok c.in-Err.ensures.unsent c.in-Err.ensures.unsaid
