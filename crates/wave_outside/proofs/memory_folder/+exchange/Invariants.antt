use Rattle.std.proofs.Common.{length}
use Rattle.wave_outside.proofs.memory_folder.+exchange.Given as goal

abbrev pub decreases-exchange : goal.decreases-exchange
decreases-exchange l = length l.list.now
