use Rattle.std.proofs.Common.{Option, [], sym, ap}
use Rattle.std.specs.Option.{option_map_or}
use Rattle.document_words.specs.Places.{held_at}
use Rattle.document_words.specs.declared.wavelets.WaveletCounts.{WaveletCounts}
use Rattle.document_words.proofs.Counting.{none_in_order}
use Rattle.document_words.proofs.places.WordPlaces.holders.Goals as goal

pub returns-in-None-clause-order : goal.returns-in-None-clause-order
returns-in-None-clause-order c = none_in_order _ (ap (λ (o : Option WaveletCounts). option_map_or (λ x. held_at x c.args.name.now) o []) (sym c.in-None.ensures.value))
