use Rattle.std.proofs.Common.{◌≡◌, ◌++◌, drop}
use Rattle.doc_pack.specs.Packed.{shared_items}
use Rattle.doc_pack.proofs.packed.PackedDocument.unpack.Given as goal

abbrev pub invariant-loop-piece : goal.invariant-loop-piece
invariant-loop-piece l = l.items.items ++ shared_items (drop l.piece-index l.piece-items) ≡ shared_items l.piece-items
