use Rattle.std.proofs.Common.{◌≡◌, drop, map}
use Rattle.inbox_machine.specs.Indexing.{deltas_of, with_all, indexed}
use Rattle.inbox_machine.proofs.Taking.{IsReady}
use Rattle.inbox_machine.proofs.indexing.take_copies.Given as goal

abbrev pub invariant-loop-name : goal.invariant-loop-name
invariant-loop-name g l = record {
  rest : with_all l.index (map (λ n. n.now) (drop l.name-index l.names)) (λ n. deltas_of (g.C.Copies.copies l.copies n)) ≡ indexed (map (λ n. n.now) l.names) (λ n. deltas_of (g.C.Copies.copies l.copies n));
  ready : IsReady l.index (map (λ n. n.now) (drop l.name-index l.names));
}
