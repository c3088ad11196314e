use Rattle.std.proofs.Common.{arith}
use Rattle.std.proofs.lemmas.List.{length-map}
use Rattle.doc_items.specs.declared.item.Content.TheVariants.{Character}
use Rattle.op_build.proofs.Counts.{input_retained, output_retained, input_inserted, output_inserted}
use Rattle.op_build.proofs.typing.inserted_text.Goals as goal

pub insert-requires : goal.insert-requires
insert-requires c = omega (arith, output_retained _ _ c.in_ok-out.ensures, length-map c.args.text.now Character, c.requires.place, c.requires.room)

pub ended-requires-clause-input : goal.ended-requires-clause-input
ended-requires-clause-input c = omega (arith, input_retained _ _ c.in_ok-out.ensures, input_inserted _ _ _ _ c.in_ok-insert.ensures.added, c.requires.place, c.requires.room)

pub ended-requires-clause-output : goal.ended-requires-clause-output
ended-requires-clause-output c = omega (arith, output_retained _ _ c.in_ok-out.ensures, output_inserted _ _ _ _ c.in_ok-insert.ensures.added, length-map c.args.text.now Character, c.requires.place, c.requires.room)
