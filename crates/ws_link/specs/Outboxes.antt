-- What an outbox holds: `contents`, the messages that wait in it, the first one first.
use Rattle.std.specs.Prelude.{ℕ, List, map}
use Rattle.ws_link.specs.declared.outbox.Outbox.{Outbox}

abbrev pub contents : Outbox → List (List ℕ)
contents o = map (λ m. m.items) o.messages.items
