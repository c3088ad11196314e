use Rattle.client_commands.specs.Lines.{command_of}
use Rattle.client_session.specs.Machine.{machine_of}
use Rattle.client_session.proofs.Commanding.{leaves, goes_on, stops}
use Rattle.client_session.proofs.state.ClientState.on_command.Goals as goal

pub returns-then-acts-clause-ok : goal.returns-then-acts-clause-ok
returns-then-acts-clause-ok c = leaves (machine_of c.args.self.now) _ (command_of c.args.line.now) (machine_of c.obey.new.self, c.in_ok-acts.acts) c.in_ok-command.ensures c.in_ok-acts.ensures.ok c.if-acts.true

pub returns-clause-ok : goal.returns-clause-ok
returns-clause-ok c = goes_on (machine_of c.args.self.now) _ (command_of c.args.line.now) (machine_of c.obey.new.self, c.in_ok-acts.acts) c.in_ok-command.ensures c.in_ok-acts.ensures.ok c.finish.result (machine_of c.finish.new.self) c.if-acts.false c.finish.ensures.ok

pub returns-clause-err : goal.returns-clause-err
returns-clause-err c = stops (machine_of c.args.self.now) _ (command_of c.args.line.now) (machine_of c.obey.new.self, c.in_ok-acts.acts) c.in_ok-command.ensures c.in_ok-acts.ensures.ok c.finish.result (machine_of c.finish.new.self) c.finish.ensures.err
