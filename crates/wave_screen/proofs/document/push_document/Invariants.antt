use Rattle.std.proofs.Common.{◌≡◌, ◌++◌, ◌≤◌, ◌-◌, length, drop, string_bytes}
use Rattle.wave_screen.specs.Escapes.{items_text, document_text}
use Rattle.wave_screen.proofs.document.push_document.Given as goal

abbrev pub invariant-loop-run : goal.invariant-loop-run
invariant-loop-run l = record {
  text : string_bytes l.out ++ items_text l.before (drop l.place l.rope) ≡ string_bytes l.fn.out ++ document_text l.rope;
  within : l.place ≤ length l.rope;
}

abbrev pub decreases-loop-run : goal.decreases-loop-run
decreases-loop-run l = length l.rope - l.place
