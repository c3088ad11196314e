use Rattle.std.proofs.Common.{rules}
use Rattle.wave_outside.proofs.memory_link.MemoryLinkLink.send.Goals as goal

pub returns : goal.returns
returns c = search rules
