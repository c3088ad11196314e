use Rattle.std.proofs.Common.{◌≡◌, ◌++◌, drop, map, string_bytes}
use Rattle.std.specs.List.{flat_map}
use Rattle.wave_screen.specs.Screen.{document_line}
use Rattle.wave_screen.proofs.screen.push_named.Given as goal

abbrev pub invariant-loop-name : goal.invariant-loop-name
invariant-loop-name l = string_bytes l.out ++ flat_map (document_line l.state l.nodes) (map (λ n. n.now) (drop l.name-index l.names)) ≡ string_bytes l.fn.out ++ flat_map (document_line l.state l.nodes) (map (λ n. n.now) l.names)
