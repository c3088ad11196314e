use Rattle.wave_world.proofs.Squares.{action_square, operation_square}
use Rattle.wave_world.proofs.square_holds.Goals as goal

pub returns-clause-operations : goal.returns-clause-operations
returns-clause-operations c = operation_square

pub returns-clause-actions : goal.returns-clause-actions
returns-clause-actions c = action_square
