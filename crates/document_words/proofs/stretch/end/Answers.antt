use Rattle.std.proofs.Common.{sym, ◌∙◌}
use Rattle.document_words.specs.Words.{letters}
use Rattle.document_words.proofs.Stretching.{end_on, end_here}
use Rattle.document_words.proofs.stretch.end.Goals as goal

pub loop-end-preserved : goal.loop-end-preserved
loop-end-preserved c = end_on (letters c.args.document.now) c.loop-end.end (sym c.has_letter.ensures ∙ c.if-not-has_letter.false) ∙ c.loop-end.invariant

pub returns-then-not-has_letter-clause-value : goal.returns-then-not-has_letter-clause-value
returns-then-not-has_letter-clause-value c = sym (end_here (letters c.args.document.now) c.loop-end.end (sym c.has_letter.ensures ∙ c.if-not-has_letter.true)) ∙ c.loop-end.invariant
