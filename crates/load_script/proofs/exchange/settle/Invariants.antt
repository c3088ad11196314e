use Rattle.std.proofs.Common.{◌≡◌}
use Rattle.client_control.specs.Parts.{follower_of}
use Rattle.load_script.specs.Exchanges.{meeting, settling}
use Rattle.load_script.proofs.exchange.settle.Given as goal

abbrev pub invariant-loop-left : goal.invariant-loop-left
invariant-loop-left l = settling l.fn.time l.fn.rounds (meeting l.initial.host (follower_of l.initial.follower)) ≡ settling l.fn.time l.left (meeting l.host (follower_of l.follower))

abbrev pub decreases-loop-left : goal.decreases-loop-left
decreases-loop-left l = l.left
