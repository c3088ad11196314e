use Rattle.std.proofs.Common.{List, length, subst}
use Rattle.doc_items.specs.declared.item.Item.{Item}
use Rattle.doc_rope.specs.Replacements.{InOrder}
use Rattle.op_validity.specs.Sources.{ahead}
use Rattle.op_validity.proofs.Replacing.{order_whole}
use Rattle.op_validity.proofs.edits.Edits.finish.Goals as goal

pub returns-clause-order : goal.returns-clause-order
returns-clause-order c =
    let s = c.close.new.self in
    subst (λ (items : List Item). InOrder 0 s.done.items (length items)) c.close.ensures.rope
    (order_whole s.rope.now s.done.items s.from (ahead s.build.rest) c.in_ok-close.ensures.at)
