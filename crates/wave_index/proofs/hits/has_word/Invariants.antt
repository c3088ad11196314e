use Rattle.std.proofs.Common.{◌≡◌, drop, nat_lt}
use Rattle.document_words.specs.Words.{occurrences}
use Rattle.wave_index.proofs.hits.has_word.Given as goal

abbrev pub invariant-loop-other : goal.invariant-loop-other
invariant-loop-other l = nat_lt 0 (occurrences l.word (drop l.other-index l.other-items)) ≡ nat_lt 0 (occurrences l.word l.other-items)
