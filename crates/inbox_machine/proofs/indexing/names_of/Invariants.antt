use Rattle.std.proofs.Common.{◌≡◌, ◌-◌, map, take, length}
use Rattle.inbox_machine.proofs.indexing.names_of.Given as goal

abbrev pub invariant-loop-name : goal.invariant-loop-name
invariant-loop-name g l = map (λ n. n.now) l.names.items ≡ take (length l.names.items) (g.C.Copies.hosts l.copies)

abbrev pub decreases-loop-name : goal.decreases-loop-name
decreases-loop-name g l = length (g.C.Copies.hosts l.copies) - length l.names.items
