-- A message that wasn't read for want of memory asks for no call yet.
--     unread       whatever it is
use Rattle.std.proofs.Common.{refl, [], Ok, Err}
use Rattle.message_json.specs.declared.message.Message.{Message}
use Rattle.message_json.specs.declared.message.Message.TheVariants as message
use Rattle.peer_turns.specs.declared.fault.TurnFault.TheVariants.{Memory}
use Rattle.federation_link.specs.Takes.{Heard, KeepsOf, Keeps}

unread_of : (m : Message) → KeepsOf Memory m []
unread_of (message.Applied name delta) = refl
unread_of (message.Relayed name id verdict) = refl
unread_of (message.Dropped name) = refl
unread_of m = (refl, refl)

pub unread : (h : Heard) → Keeps Memory h []
unread (Ok m) = unread_of m
unread (Err k) = (refl, refl)
