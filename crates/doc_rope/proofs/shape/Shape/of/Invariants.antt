use Rattle.std.proofs.Common.{◌≡◌, take}
use Rattle.doc_rope.specs.Shapes.{shape_of}
use Rattle.doc_rope.proofs.shape.Shape.of.Given as goal

abbrev pub invariant-loop-item : goal.invariant-loop-item
invariant-loop-item l = l.shape ≡ shape_of (take l.item-index l.items)
