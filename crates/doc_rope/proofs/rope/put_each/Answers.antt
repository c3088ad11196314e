use Rattle.std.proofs.Common.{List, ap, sym, subst, ◌∙◌, arith}
use Rattle.doc_rope.specs.declared.replacement.Replacement.{Replacement}
use Rattle.doc_rope.specs.Pieces.{pieces, joined, total}
use Rattle.doc_rope.specs.Replacements.{all_replaced, InOrder, put_in}
use Rattle.doc_rope.proofs.Replaced.{replaced_last, put_in_last, order_last, order_further}
use Rattle.doc_rope.proofs.rope.put_each.Goals as goal

pub put_into-tree-requires-clause-inside : goal.put_into-tree-requires-clause-inside
put_into-tree-requires-clause-inside c =
    let order = subst (λ (rs : List Replacement). InOrder 0 rs (total (pieces c.loop-next.tree))) c.in-Some.ensures.items c.loop-next.invariant.inside in
    (order_last 0 c.pop.new.self.items c.in-Some.next (total (pieces c.loop-next.tree)) order).1

pub put_into-tree-requires-clause-fits : goal.put_into-tree-requires-clause-fits
put_into-tree-requires-clause-fits c =
    let more = ap put_in c.in-Some.ensures.items ∙ put_in_last c.pop.new.self.items c.in-Some.next in
    omega (arith, more, c.loop-next.invariant.fits)

pub loop-next-preserved : goal.loop-next-preserved
loop-next-preserved c =
    let r = c.in-Some.next in
    let n = total (pieces c.loop-next.tree) in
    let order = order_last 0 c.pop.new.self.items r n (subst (λ (rs : List Replacement). InOrder 0 rs n) c.in-Some.ensures.items c.loop-next.invariant.inside) in
    let more = ap put_in c.in-Some.ensures.items ∙ put_in_last c.pop.new.self.items r in
    record {
      joined = ap (all_replaced c.pop.new.self.items) c.put_into-tree.ensures.joined ∙ sym (replaced_last c.pop.new.self.items r (joined (pieces c.loop-next.tree)))
          ∙ ap (λ (rs : List Replacement). all_replaced rs (joined (pieces c.loop-next.tree))) (sym c.in-Some.ensures.items) ∙ c.loop-next.invariant.joined;
      sound = c.put_into-tree.ensures.sound;
      packed = c.put_into-tree.ensures.packed;
      inside = order_further 0 c.pop.new.self.items r.from (total (pieces c.put_into-tree.result)) order.0 (omega (arith, order.1, c.put_into-tree.ensures.count));
      fits = omega (arith, more, c.put_into-tree.ensures.count, c.loop-next.invariant.fits);
    }
