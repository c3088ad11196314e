use Rattle.std.proofs.Common.{Option, [], sym, ap}
use Rattle.std.specs.Option.{option_map_or}
use Rattle.document_words.specs.Places.{held}
use Rattle.document_words.specs.declared.counts.DocumentCounts.{DocumentCounts}
use Rattle.document_words.proofs.Counting.{none_in_order}
use Rattle.document_words.proofs.wavelets.WaveletCounts.holders.Goals as goal

pub returns-in-None-clause-order : goal.returns-in-None-clause-order
returns-in-None-clause-order c = none_in_order _ (ap (λ (o : Option DocumentCounts). option_map_or held o []) (sym c.in-None.ensures.value))
