use Rattle.std.proofs.Common.{length}
use Rattle.wave_outside.proofs.memory_folder.+has.Given as goal

abbrev pub decreases-has : goal.decreases-has
decreases-has l = length l.list.now
