use Rattle.std.proofs.Common.{◌≡◌, ◌++◌, IsUtf8, string_bytes}
use Rattle.std.specs.Str.Iter.{chars_rest}
use Rattle.wave_screen.specs.Escapes.{escaped_text}
use Rattle.wave_screen.proofs.escape.push_text.Given as goal

abbrev pub invariant-loop-c : goal.invariant-loop-c
invariant-loop-c l = IsUtf8 (chars_rest l.c-iterator) × (string_bytes l.out ++ escaped_text (chars_rest l.c-iterator) ≡ string_bytes l.fn.out ++ escaped_text l.fn.text)
