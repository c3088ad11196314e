use Rattle.std.proofs.Common.{rules, refl}
use Rattle.doc_rope.specs.Pieces.{pieces}
use Rattle.doc_rope.proofs.Between.{between_here}
use Rattle.doc_rope.proofs.within.put_here.Goals as goal

pub returns-then-put-clause-packed : goal.returns-then-put-clause-packed
returns-then-put-clause-packed c =
    between_here c.args.prior _ _ (pieces c.args.left) c.args.node.value.piece _ (pieces c.args.right) c.args.next c.least_between-least.result refl c.fork-then-put.ensures.pieces c.requires.packed c.least_between-least.ensures.before c.least_between-least.ensures.behind (search rules) (search rules) (search rules)
