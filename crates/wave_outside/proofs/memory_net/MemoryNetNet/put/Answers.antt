use Rattle.std.proofs.Common.{rules}
use Rattle.wave_outside.proofs.memory_net.MemoryNetNet.put.Goals as goal

pub returns : goal.returns
returns c = search rules
