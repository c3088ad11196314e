use Rattle.std.proofs.Common.{◌≡◌, take, string_bytes}
use Rattle.std.specs.Str.{encode_utf8_all}
use Rattle.wave_index.proofs.title.text_of.Given as goal

abbrev pub invariant-loop-c : goal.invariant-loop-c
invariant-loop-c l = encode_utf8_all (take l.c-index l.chars) ≡ string_bytes l.string
