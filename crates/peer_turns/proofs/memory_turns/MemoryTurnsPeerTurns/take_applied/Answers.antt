use Rattle.std.proofs.Common.{rules}
use Rattle.peer_turns.proofs.memory_turns.MemoryTurnsPeerTurns.take_applied.Goals as goal

pub returns : goal.returns
returns g c = search rules
