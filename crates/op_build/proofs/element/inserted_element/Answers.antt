use Rattle.std.proofs.Common.{arith, ◌∷◌, []}
use Rattle.doc_items.specs.declared.item.Content.TheVariants.{Start, End}
use Rattle.op_build.proofs.Counts.{input_retained, output_retained, input_inserted, output_inserted}
use Rattle.op_build.proofs.element.inserted_element.Goals as goal

pub insert-requires : goal.insert-requires
insert-requires c = omega (arith, output_retained _ _ c.in_ok-out.ensures, c.requires.place, c.requires.room)

pub insert-requires-2 : goal.insert-requires-2
insert-requires-2 c =
    let start = output_inserted c.insert.new.self c.in_ok-out.out c.args.notes.now (Start c.args.kind.now c.args.attributes.now ∷ []) c.in_ok-insert.ensures.added in
    omega (arith, output_retained _ _ c.in_ok-out.ensures, start, c.requires.place, c.requires.room)

pub ended-requires-clause-input : goal.ended-requires-clause-input
ended-requires-clause-input c =
    let start = input_inserted c.insert.new.self c.in_ok-out.out c.args.notes.now (Start c.args.kind.now c.args.attributes.now ∷ []) c.in_ok-insert.ensures.added in
    let end = input_inserted c.insert-2.new.self c.insert.new.self c.args.notes.now (End ∷ []) c.in_ok-insert-2.ensures.added in
    omega (arith, input_retained _ _ c.in_ok-out.ensures, start, end, c.requires.place, c.requires.room)

pub ended-requires-clause-output : goal.ended-requires-clause-output
ended-requires-clause-output c =
    let start = output_inserted c.insert.new.self c.in_ok-out.out c.args.notes.now (Start c.args.kind.now c.args.attributes.now ∷ []) c.in_ok-insert.ensures.added in
    let end = output_inserted c.insert-2.new.self c.insert.new.self c.args.notes.now (End ∷ []) c.in_ok-insert-2.ensures.added in
    omega (arith, output_retained _ _ c.in_ok-out.ensures, start, end, c.requires.place, c.requires.room)
