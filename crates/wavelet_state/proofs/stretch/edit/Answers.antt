use Rattle.std.proofs.Common.{◌-◌, sym, ap, ◌∙◌, refl, arith}
use Rattle.doc_rope.specs.Replacements.{all_replaced}
use Rattle.wavelet_state.specs.Stretches.{first_from, last_end}
use Rattle.wavelet_state.proofs.Stretches.{measures, restores}
use Rattle.wavelet_state.proofs.stretch.edit.Goals as goal

pub end-requires : goal.end-requires
end-requires c =
    let rs = c.in_ok-edits.edits.items in
    let m = measures rs c.args.rope.now (all_replaced rs c.args.rope.now) c.in_ok-edits.ensures.order refl in
    let b = ap (last_end 0) c.as_slice-list.ensures.value in
    omega (arith, m.inside, b, c.len-before.ensures.value, c.len-before.ensures.bound)

pub overflow_sub-stretch : goal.overflow_sub-stretch
overflow_sub-stretch c =
    let rs = c.in_ok-edits.edits.items in
    let m = measures rs c.args.rope.now (all_replaced rs c.args.rope.now) c.in_ok-edits.ensures.order refl in
    let a = c.start-from.ensures ∙ ap first_from c.as_slice-list.ensures.value in
    let b = c.end.ensures ∙ ap (last_end 0) c.as_slice-list.ensures.value in
    omega (arith, m.order, a, b)

pub copied-requires : goal.copied-requires
copied-requires c =
    let rs = c.in_ok-edits.edits.items in
    let m = measures rs c.args.rope.now (all_replaced rs c.args.rope.now) c.in_ok-edits.ensures.order refl in
    let a = c.start-from.ensures ∙ ap first_from c.as_slice-list.ensures.value in
    let b = c.end.ensures ∙ ap (last_end 0) c.as_slice-list.ensures.value in
    omega (arith, m.order, m.inside, a, b)

pub overflow_add-count : goal.overflow_add-count
overflow_add-count c =
    let rs = c.in_ok-edits.edits.items in
    let m = measures rs c.args.rope.now (all_replaced rs c.args.rope.now) c.in_ok-edits.ensures.order refl in
    let b = c.end.ensures ∙ ap (last_end 0) c.as_slice-list.ensures.value in
    omega (arith, m.inside, b, c.len-before.ensures.value, c.len-before.ensures.bound, c.len.ensures.bound)

pub overflow_sub-count : goal.overflow_sub-count
overflow_sub-count c =
    let rs = c.in_ok-edits.edits.items in
    let m = measures rs c.args.rope.now c.put_all.new.self c.in_ok-edits.ensures.order (sym c.put_all.ensures) in
    let a = c.start-from.ensures ∙ ap first_from c.as_slice-list.ensures.value in
    let b = c.end.ensures ∙ ap (last_end 0) c.as_slice-list.ensures.value in
    omega (arith, m.room, a, b, c.len-before.ensures.value, c.len.ensures.value)

pub returns-clause-back : goal.returns-clause-back
returns-clause-back c =
    let rs = c.in_ok-edits.edits.items in
    let m = measures rs c.args.rope.now c.put_all.new.self c.in_ok-edits.ensures.order (sym c.put_all.ensures) in
    let a = c.start-from.ensures ∙ ap first_from c.as_slice-list.ensures.value in
    let b = c.end.ensures ∙ ap (last_end 0) c.as_slice-list.ensures.value in
    restores rs c.args.rope.now c.put_all.new.self _ (c.end.result - c.start-from.result) c.in_ok-edits.ensures.order (sym c.put_all.ensures)
    a (omega (arith, m.order, a, b)) (omega (arith, m.room, a, b, c.len-before.ensures.value, c.len.ensures.value)) c.in_ok-items.ensures
