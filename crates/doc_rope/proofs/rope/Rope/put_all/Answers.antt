use Rattle.std.proofs.Common.{◌≤◌, ℕ, length, ap, sym, subst, ◌∙◌, arith}
use Rattle.doc_items.specs.Limits.{max_count}
use Rattle.doc_rope.specs.Pieces.{pieces, joined, total}
use Rattle.doc_rope.specs.Replacements.{all_replaced, InOrder}
use Rattle.doc_rope.proofs.Laws.{length_joined}
use Rattle.doc_rope.proofs.Replaced.{room_for_all}
use Rattle.doc_rope.proofs.rope.Rope.put_all.Goals as goal

pub put_each-requires-clause-inside : goal.put_each-requires-clause-inside
put_each-requires-clause-inside c =
    let whole = ap (λ t. joined (pieces t)) c.replace-tree.ensures.value ∙ c.self.view_is in
    subst (λ (n : ℕ). InOrder 0 c.args.replacements.items n) (sym (ap length whole) ∙ length_joined (pieces c.replace-tree.result)) c.requires.inside

pub put_each-requires-clause-fits : goal.put_each-requires-clause-fits
put_each-requires-clause-fits c =
    let whole = ap (λ t. joined (pieces t)) c.replace-tree.ensures.value ∙ c.self.view_is in
    let len = sym (ap length whole) ∙ length_joined (pieces c.replace-tree.result) in
    let same = ap (λ t. total (pieces t)) c.replace-tree.ensures.value in
    let bound : length c.args.self.now ≤ max_count = omega (arith, len, same, c.self.invariant.bound) in
    let room = room_for_all c.args.replacements.items c.args.self.now max_count c.requires.inside c.requires.bound bound in
    omega (arith, len, room)

pub invariant_of-self : goal.invariant_of-self
invariant_of-self c =
    let whole = ap (λ t. joined (pieces t)) c.replace-tree.ensures.value ∙ c.self.view_is in
    let now = ap length (c.put_each.ensures.joined ∙ ap (all_replaced c.args.replacements.items) whole) in
    let len = length_joined (pieces c.put_each.result) in
    record {
      sound = c.put_each.ensures.sound;
      packed = c.put_each.ensures.packed;
      bound = omega (arith, now, len, c.requires.bound);
    }
