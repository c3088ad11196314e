use Rattle.std.proofs.Common.{refl}
use Rattle.pipe_machine.specs.Runs.{seats_in}
use Rattle.pipe_machine.proofs.Searching.{ordered_names}
use Rattle.pipe_machine.proofs.Seating.{plain_seats}
use Rattle.pipe_machine.proofs.pipe.PipeMachine.deliver.Goals as goal

pub invariant_of-self-2 : goal.invariant_of-self-2
invariant_of-self-2 g c = record { plain = plain_seats _ c.deliver.ensures.plain; ordered = ordered_names (seats_in c.args.self.now.seats.runs.items) _ c.deliver.ensures.names c.args.self.now.ordered; told = c.in_ok-deliver.ensures.told }

pub invariant_of-self-in-Break-branch-2 : goal.invariant_of-self-in-Break-branch-2
invariant_of-self-in-Break-branch-2 g c = record { plain = plain_seats _ c.deliver.ensures.plain; ordered = ordered_names (seats_in c.args.self.now.seats.runs.items) _ c.deliver.ensures.names c.args.self.now.ordered; told = refl }
