use Rattle.std.proofs.Common.{◌≡◌, drop}
use Rattle.conversation.specs.Edits.{is_blip, has}
use Rattle.wave_screen.proofs.screen.has_blip.Given as goal

abbrev pub invariant-loop-node : goal.invariant-loop-node
invariant-loop-node l = has (is_blip l.name) (drop l.node-index l.nodes) ≡ has (is_blip l.name) l.nodes
