use Rattle.std.proofs.Common.{◌≡◌}
use Rattle.document_words.specs.Stretches.{end_of}
use Rattle.document_words.specs.Words.{letters}
use Rattle.document_words.proofs.stretch.end.Given as goal

abbrev pub invariant-loop-end : goal.invariant-loop-end
invariant-loop-end l = end_of (letters l.document) l.end ≡ end_of (letters l.document) l.place
