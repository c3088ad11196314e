use Rattle.std.proofs.Common.{◌≡◌, ◌++◌, drop}
use Rattle.doc_pack.specs.Packed.{all_items}
use Rattle.doc_pack.proofs.piece.PackedPiece.copy_to.Given as goal

abbrev pub invariant-loop-run : goal.invariant-loop-run
invariant-loop-run l = l.to.items ++ all_items (drop l.run-index l.run-items) ≡ l.fn.to.items ++ all_items l.run-items
