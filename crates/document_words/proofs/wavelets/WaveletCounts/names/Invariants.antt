use Rattle.std.proofs.Common.{◌≡◌, ◌++◌, map}
use Rattle.document_words.proofs.wavelets.WaveletCounts.names.Given as goal

abbrev pub invariant-loop-name : goal.invariant-loop-name
invariant-loop-name l = map (λ k. k.now) l.list.items ++ l.name-iterator ≡ l.initial.name-iterator
