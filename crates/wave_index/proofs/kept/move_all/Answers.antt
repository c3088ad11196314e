use Rattle.doc_items.specs.Maps.{same_text}
use Rattle.document_words.specs.Places.{count_in}
use Rattle.wave_index.specs.Counts.{touched}
use Rattle.wave_index.proofs.Keeping.{step_on, all_moved}
use Rattle.wave_index.proofs.kept.move_all.Goals as goal

pub loop-place-preserved : goal.loop-place-preserved
loop-place-preserved c w n d =
    step_on c.args.way (same_text c.args.name.now n) d c.args.ops.now c.loop-place.place (count_in c.args.places.now w n d) _ _ (touched c.args.state.now c.args.ops.now w d)
    (c.loop-place.invariant w n d) (c.in_ok-move_first.ensures w n d)

pub returns : goal.returns
returns c w n d =
    all_moved c.args.way (same_text c.args.name.now n) c.args.state.now c.args.ops.now c.loop-place.place w d (count_in c.args.places.now w n d) _ c.loop-place-test.false (c.loop-place.invariant w n d)
