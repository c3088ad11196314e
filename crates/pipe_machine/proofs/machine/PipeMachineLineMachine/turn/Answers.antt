use Rattle.pipe_machine.specs.Pipes.{pipe_of}
use Rattle.pipe_machine.specs.Keeping.{submits_to}
use Rattle.pipe_machine.proofs.Turning.{answered_on, since_more, reached_after, tried_after}
use Rattle.pipe_machine.proofs.machine.PipeMachineLineMachine.turn.Goals as goal

pub returns-clause-answered : goal.returns-clause-answered
returns-clause-answered g c = answered_on c.take_line.result (pipe_of c.args.self.now) (pipe_of c.take_line.new.self) c.args.out.now.items c.take_line.new.out.items c.args.time c.args.line.now c.take_line.ensures.pipe c.take_line.ensures.sent

pub returns-clause-since : goal.returns-clause-since
returns-clause-since g c start ts s = since_more start.shelf c.args.self.now.shelf c.take_line.new.self.shelf ts c.args.time c.args.line.now s c.take_line.ensures.moved

pub returns-clause-reached : goal.returns-clause-reached
returns-clause-reached g c = reached_after c.take_line.result c.args.self.now c.take_line.new.self (submits_to c.args.line.now) c.args.time c.args.line.now c.take_line.ensures.pipe c.take_line.ensures.moved c.take_line.ensures.ended

pub returns-clause-tried : goal.returns-clause-tried
returns-clause-tried g c = tried_after c.take_line.result c.args.self.now c.take_line.new.self c.args.time c.args.line.now c.take_line.ensures.ended
