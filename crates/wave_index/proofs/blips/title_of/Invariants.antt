use Rattle.std.proofs.Common.{◌≡◌, drop}
use Rattle.wave_index.specs.Blips.{title_of}
use Rattle.wave_index.proofs.blips.title_of.Given as goal

abbrev pub invariant-loop-node : goal.invariant-loop-node
invariant-loop-node l = title_of l.state (drop l.node-index l.nodes) ≡ title_of l.state l.nodes
