use Rattle.std.proofs.Common.{sym, ◌∙◌}
use Rattle.document_words.proofs.Stretching.{letter_next}
use Rattle.document_words.proofs.stretch.words_between.Goals as goal

pub loop-place-preserved : goal.loop-place-preserved
loop-place-preserved c =
    letter_next c.loop-place.cutter c.put.new.self c.args.document.now c.loop-place.place c.args.until c.in-Some.item.now c.letter.result c.loop-place-test.true (sym c.in-Some.ensures) c.letter.ensures
    c.in_ok-put.ensures
    ∙ c.loop-place.invariant
