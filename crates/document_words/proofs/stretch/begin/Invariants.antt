use Rattle.std.proofs.Common.{◌≡◌, ◌-◌}
use Rattle.document_words.specs.Stretches.{begin_of}
use Rattle.document_words.specs.Words.{letters}
use Rattle.document_words.proofs.stretch.begin.Given as goal

abbrev pub invariant-loop-steps : goal.invariant-loop-steps
invariant-loop-steps l = begin_of (letters l.document) (l.place - l.steps) ≡ begin_of (letters l.document) l.place
