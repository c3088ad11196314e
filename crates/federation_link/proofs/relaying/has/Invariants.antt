use Rattle.std.proofs.Common.{◌≡◌, drop}
use Rattle.federation_link.specs.Sends.{has}
use Rattle.federation_link.proofs.relaying.has.Given as goal

abbrev pub invariant-loop-waiting : goal.invariant-loop-waiting
invariant-loop-waiting l = has l.list l.relay ≡ has (drop l.waiting-index l.list) l.relay
