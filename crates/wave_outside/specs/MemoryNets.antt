-- What a net in memory holds: `net_calls`, its calls; `net_back`, the links that were put back; `net_asked`, the addresses that were
-- dialled.
use Rattle.std.specs.Prelude.{ℕ, List, map, string_bytes}
use Rattle.wave_outside.specs.declared.calls.Calls.{Calls}
use Rattle.wave_outside.specs.declared.memory_link.MemoryLink.{MemoryLink}
use Rattle.wave_outside.specs.declared.memory_net.MemoryNet.{MemoryNet}

abbrev pub net_calls : MemoryNet → Calls
net_calls n = n.calls

abbrev pub net_back : MemoryNet → List MemoryLink
net_back n = n.back.items

abbrev pub net_asked : MemoryNet → List (List ℕ)
net_asked n = map string_bytes n.asked.items
