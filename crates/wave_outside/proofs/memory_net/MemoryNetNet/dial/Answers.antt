use Rattle.std.proofs.Common.{rules}
use Rattle.wave_outside.proofs.memory_net.MemoryNetNet.dial.Goals as goal

pub returns-in-None : goal.returns-in-None
returns-in-None c = search rules
