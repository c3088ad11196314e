use Rattle.std.proofs.Common.{◌≡◌, ◌+◌, ◌≤◌, ◌++◌, length, take, drop}
use Rattle.doc_pack.specs.Packed.{shared_items}
use Rattle.doc_pack.proofs.packed.PackedDocument.pack.Given as goal

abbrev pub invariant-loop-items : goal.invariant-loop-items
invariant-loop-items l = record {
  inside : l.place ≤ length l.rope;
  same : shared_items l.pieces.items ++ drop l.place l.rope ≡ l.rope;
}

abbrev pub decreases-loop-items : goal.decreases-loop-items
decreases-loop-items l = length (drop l.place l.rope)
