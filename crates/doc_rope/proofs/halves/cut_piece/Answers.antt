use Rattle.std.proofs.Common.{arith}
use Rattle.doc_rope.specs.Pieces.{pieces}
use Rattle.doc_rope.proofs.Seams.{middle_at_most, packed_tail}
use Rattle.doc_rope.proofs.halves.cut_piece.Goals as goal

pub cut-requires-clause-room : goal.cut-requires-clause-room
cut-requires-clause-room c =
    let h = middle_at_most (pieces c.args.left) c.args.node.value.piece (pieces c.args.right) c.requires.packed in
    grind arith

pub concat-after-requires-clause-packed : goal.concat-after-requires-clause-packed
concat-after-requires-clause-packed c = packed_tail (pieces c.args.left) c.args.node.value.piece (pieces c.args.right) c.requires.packed
