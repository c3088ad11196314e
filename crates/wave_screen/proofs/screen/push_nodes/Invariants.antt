use Rattle.std.proofs.Common.{◌≡◌, ◌++◌, drop, string_bytes}
use Rattle.std.specs.List.{flat_map}
use Rattle.wave_screen.specs.Screen.{node_line}
use Rattle.wave_screen.proofs.screen.push_nodes.Given as goal

abbrev pub invariant-loop-node : goal.invariant-loop-node
invariant-loop-node l = string_bytes l.out ++ flat_map (node_line l.state) (drop l.node-index l.nodes) ≡ string_bytes l.fn.out ++ flat_map (node_line l.state) l.nodes
