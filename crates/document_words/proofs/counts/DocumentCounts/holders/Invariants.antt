use Rattle.std.proofs.Common.{◌≡◌, ◌++◌, map, nat_lt}
use Rattle.std.specs.List.{filter}
use Rattle.std.specs.Map.{keys_of}
use Rattle.document_words.proofs.counts.DocumentCounts.holders.Given as goal

abbrev pub invariant-loop-document : goal.invariant-loop-document
invariant-loop-document l = map (λ d. d.now) l.list.items ++ keys_of (filter (λ e. nat_lt 0 e.1) l.document-iterator) ≡ keys_of (filter (λ e. nat_lt 0 e.1) l.initial.document-iterator)
