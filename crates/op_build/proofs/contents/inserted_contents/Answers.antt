use Rattle.std.proofs.Common.{refl, take, arith}
use Rattle.std.proofs.lemmas.List.{length-take}
use Rattle.doc_items.specs.Changes.{none_running}
use Rattle.op_build.specs.Plans.{retained}
use Rattle.op_build.proofs.Counts.{input_retained, output_retained, input_inserted, output_inserted}
use Rattle.op_build.proofs.contents.inserted_contents.Goals as goal

pub insert_one-requires : goal.insert_one-requires
insert_one-requires c =
    let done = take c.loop-content.content-index c.args.contents.now in
    let added = output_inserted c.loop-content.out (retained c.args.place) none_running done c.loop-content.invariant in
    omega (arith, added, output_retained (retained c.args.place) c.args.place refl, length-take c.loop-content.content-index c.args.contents.now, c.requires.place, c.requires.room)

pub ended-requires-clause-input : goal.ended-requires-clause-input
ended-requires-clause-input c =
    let done = take c.loop-content.content-index c.args.contents.now in
    let added = input_inserted c.loop-content.out (retained c.args.place) none_running done c.loop-content.invariant in
    omega (arith, added, input_retained (retained c.args.place) c.args.place refl, c.requires.place, c.requires.room)

pub ended-requires-clause-output : goal.ended-requires-clause-output
ended-requires-clause-output c =
    let done = take c.loop-content.content-index c.args.contents.now in
    let added = output_inserted c.loop-content.out (retained c.args.place) none_running done c.loop-content.invariant in
    omega (arith, added, output_retained (retained c.args.place) c.args.place refl, length-take c.loop-content.content-index c.args.contents.now, c.requires.place, c.requires.room)
