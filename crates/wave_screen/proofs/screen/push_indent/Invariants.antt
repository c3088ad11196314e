use Rattle.std.proofs.Common.{◌≡◌, ◌++◌, ◌-◌, string_bytes}
use Rattle.wave_screen.specs.Screen.{indent}
use Rattle.wave_screen.proofs.screen.push_indent.Given as goal

abbrev pub invariant-loop : goal.invariant-loop
invariant-loop l = string_bytes l.out ++ indent (l.depth - l.counter) ≡ string_bytes l.fn.out ++ indent l.depth
