use Rattle.std.proofs.Common.{◌≡◌, drop}
use Rattle.client_control.specs.Parts.{follower_of}
use Rattle.load_script.specs.Exchanges.{received}
use Rattle.load_script.proofs.exchange.receive.Given as goal

abbrev pub invariant-loop-delta : goal.invariant-loop-delta
invariant-loop-delta l = received (follower_of l.initial.follower) l.deltas ≡ received (follower_of l.follower) (drop l.delta-index l.deltas)
