use Rattle.std.proofs.Common.{◌≡◌, ◌++◌, take}
use Rattle.doc_pack.specs.Packed.{all_items}
use Rattle.doc_pack.proofs.piece.PackedPiece.is.Given as goal

abbrev pub invariant-loop-run : goal.invariant-loop-run
invariant-loop-run l = all_items (take l.run-index l.run-items) ++ l.rest ≡ l.fn.items
