use Rattle.std.proofs.Common.{sym, ◌∙◌, arith}
use Rattle.document_words.specs.Words.{letters}
use Rattle.document_words.proofs.Stretching.{begin_next, begin_here}
use Rattle.document_words.proofs.stretch.begin.Goals as goal

pub loop-steps-preserved : goal.loop-steps-preserved
loop-steps-preserved c = begin_next (letters c.args.document.now) c.args.place c.loop-steps.steps c.loop-steps-test.true (sym c.has_letter.ensures ∙ c.if-not-has_letter.false) c.loop-steps.invariant

pub returns-then-not-has_letter-clause-value : goal.returns-then-not-has_letter-clause-value
returns-then-not-has_letter-clause-value c =
    let inside = c.loop-steps-test.true in
    sym (begin_here (letters c.args.document.now) _ (omega arith) (sym c.has_letter.ensures ∙ c.if-not-has_letter.true)) ∙ c.loop-steps.invariant
