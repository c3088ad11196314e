-- Why a step stops.
--     link_stop f       a link that gave nothing for this reason
--     stop_refused r    the turn that was refused, where a step stopped for it
--     IsLinkStop e      no turn was refused
use Rattle.std.specs.Prelude.{◌≡◌, ◌⊎◌, List, [], Result, Ok, Err}
use Rattle.wave_outside.specs.declared.link.LinkFault.{LinkFault}
use Rattle.wave_outside.specs.declared.link.LinkFault.TheVariants as link
use Rattle.turn_lock.specs.declared.cell.Spent.{Spent}
use Rattle.peer_turns.specs.Calls.{fault_refused}
use Rattle.peer_turns.specs.declared.fault.TurnFault.TheVariants.{Memory}
use Rattle.federation_link.specs.declared.stop.Stop.{Stop}
use Rattle.federation_link.specs.declared.stop.Stop.TheVariants.{Link, Turn}

abbrev pub link_stop : LinkFault → Stop
link_stop link.Failed = Link
link_stop link.Memory = Turn Memory

abbrev pub stop_refused : {A : Type 0} → Result A Stop → List Spent
stop_refused (Ok a) = []
stop_refused (Err Link) = []
stop_refused (Err (Turn f)) = fault_refused f

abbrev pub IsLinkStop : Stop → Type 0
IsLinkStop e = (e ≡ Link) ⊎ (e ≡ Turn Memory)
