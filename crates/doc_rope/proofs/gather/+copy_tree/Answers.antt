use Rattle.std.proofs.Common.{rules}
use Rattle.doc_rope.specs.Pieces.{pieces}
use Rattle.doc_rope.proofs.Laws.{fits_again}
use Rattle.doc_rope.proofs.gather.+copy_tree.Goals as goal

pub fork-requires-clause-fits : goal.fork-requires-clause-fits
fork-requires-clause-fits t c =
    let n = c.in-Fork.node.value in
    fits_again (pieces c.in_ok-left-in-Fork.left) (pieces c.in_ok-right-in-Fork.right) (pieces n.left) (pieces n.right) c.in_ok-middle-in-Fork.middle.value.piece n.piece 18446744073709551616 (search rules) (search rules) (search rules) (search rules)
