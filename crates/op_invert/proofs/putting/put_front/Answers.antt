use Rattle.std.proofs.Common.{◌≡◌, ℕ, List, ◌++◌, length, map, ap, ◌∙◌, rules}
use Rattle.doc_items.specs.declared.item.Content.TheVariants.{Character}
use Rattle.change_view.specs.Sets.{from_absent}
use Rattle.doc_op.specs.Actions.{insertion}
use Rattle.op_invert.proofs.Inserted.{front_put}
use Rattle.op_invert.proofs.putting.put_front.Goals as goal

pub returns-clause-out : goal.returns-clause-out
returns-clause-out c =
    let notes = c.index-items-0.result.notes in
    let text = c.in_ok-text.text.items in
    let n : c.len.result ≡ length text = search rules in
    front_put c.args.items.now notes text c.len.result c.args.out.now c.put_text.new.out c.in_ok-text.ensures n
    (c.in_ok-put_text.ensures ∙ ap (λ (t : List ℕ). c.args.out.now ++ map (insertion (from_absent notes)) (map Character t)) c.as_slice.ensures.value)
