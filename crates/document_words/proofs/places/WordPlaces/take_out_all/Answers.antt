use Rattle.std.proofs.Common.{◌&&◌}
use Rattle.doc_items.specs.Maps.{same_text}
use Rattle.document_words.proofs.Counting.{take_next}
use Rattle.document_words.proofs.places.WordPlaces.take_out_all.Goals as goal

pub loop-word-preserved : goal.loop-word-preserved
loop-word-preserved c w n d =
    take_next w c.word-item.result (same_text c.args.name.now n && same_text c.args.document.now d) c.args.words.now c.loop-word.word-index _ _ _ c.loop-word-test.true c.word-item.is (c.take_out.ensures w n d)
    (c.loop-word.invariant w n d)
