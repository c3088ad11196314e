use Rattle.std.proofs.Common.{◌≡◌, drop, take}
use Rattle.document_words.specs.Words.{letters, words, words_with}
use Rattle.document_words.proofs.stretch.words_between.Given as goal

abbrev pub invariant-loop-place : goal.invariant-loop-place
invariant-loop-place l = words_with l.cutter (letters (drop l.place (take l.until l.document))) ≡ words (letters (drop l.from (take l.until l.document)))
