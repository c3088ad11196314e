use Rattle.std.proofs.Common.{◌≡◌, ◌++◌, map, codes, string_bytes}
use Rattle.std.specs.FinMap as finite
use Rattle.doc_items.specs.Maps.{pair_of}
use Rattle.wave_screen.specs.Escapes.{joined_pairs, rest_pairs}
use Rattle.wave_screen.proofs.document.push_notes.Given as goal

abbrev pub invariant-loop-key : goal.invariant-loop-key
invariant-loop-key l = string_bytes l.out ++ rest_pairs l.first (map pair_of l.key-iterator) ≡ string_bytes l.fn.out ++ codes "{" ++ joined_pairs (finite.entries l.notes)
