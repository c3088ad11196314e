-- What turns in memory hold: `made_calls`, the calls that were answered; `relays_of` and `copies_of`, what they were handed.
use Rattle.std.specs.Prelude.{List}
use Rattle.peer_turns.specs.declared.call.TurnCall.{TurnCall}
use Rattle.peer_turns.specs.declared.item.CopyAt.{CopyAt}
use Rattle.peer_turns.specs.declared.item.Relay.{Relay}
use Rattle.peer_turns.specs.declared.memory_turns.MemoryTurns.{MemoryTurns}

abbrev pub made_calls : MemoryTurns → List TurnCall
made_calls t = t.calls.items

abbrev pub relays_of : MemoryTurns → List Relay
relays_of t = t.relays.items

abbrev pub copies_of : MemoryTurns → List CopyAt
copies_of t = t.copies.items
