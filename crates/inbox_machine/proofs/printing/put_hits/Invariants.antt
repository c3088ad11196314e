use Rattle.std.proofs.Common.{◌≡◌, ◌++◌, drop, string_bytes}
use Rattle.inbox_machine.specs.Printed.{hits_text}
use Rattle.inbox_machine.proofs.printing.put_hits.Given as goal

abbrev pub invariant-loop-hit : goal.invariant-loop-hit
invariant-loop-hit l = string_bytes l.out ++ hits_text (drop l.hit-index l.hits) ≡ string_bytes l.initial.out ++ hits_text l.hits
