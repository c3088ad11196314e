use Rattle.std.proofs.Common.{◌&&◌, cond, sym, ap, ◌∙◌}
use Rattle.doc_items.specs.Maps.{same_text}
use Rattle.document_words.specs.Places.{count_in}
use Rattle.wave_index.specs.Counts.{touched, moved}
use Rattle.wave_index.proofs.Keeping.{not_first, is_the_first, ok_to, found}
use Rattle.wave_index.proofs.kept.move_first.Goals as goal

pub returns-then-is_mutated : goal.returns-then-is_mutated
returns-then-is_mutated c w n d =
    not_first c.args.way (same_text c.args.name.now n) c.in-Mutate.document c.in-Mutate.op c.args.ops.now c.args.place (count_in c.args.places.now w n d) (touched c.args.state.now c.args.ops.now w d) d c.requires
    (found c.args.ops.now c.args.place _ _ c.index-ops-place.is c.in-Mutate.is) (sym c.is_mutated.ensures ∙ c.if-is_mutated.true)

pub returns : goal.returns
returns c =
    let first = is_the_first c.in-Mutate.document c.in-Mutate.op c.args.ops.now c.args.place in
    let there = found c.args.ops.now c.args.place _ _ c.index-ops-place.is c.in-Mutate.is in
    ok_to c.move_document.result
    (λ h w n d. h w n d
    ∙ ap (λ b. moved c.args.way (count_in c.args.places.now w n d) (cond (same_text c.args.name.now n && b) (touched c.args.state.now c.args.ops.now w d) 0))
    (first d c.requires there (sym c.is_mutated.ensures ∙ c.if-is_mutated.false)))
    c.move_document.ensures
