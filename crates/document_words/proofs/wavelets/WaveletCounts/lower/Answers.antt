use Rattle.std.proofs.Common.{Some, sym, refl}
use Rattle.doc_items.specs.Maps.{same_text}
use Rattle.document_words.specs.Places.{count_of}
use Rattle.document_words.proofs.Counting.{value_less, there_as}
use Rattle.document_words.proofs.wavelets.WaveletCounts.lower.Goals as goal

pub returns-in-Some : goal.returns-in-Some
returns-in-Some c n d =
    value_less count_of c.args.self.now.wavelets (c.get_mut.follows.lender c.take_out.new.self) c.args.name.now (Some c.in-Some.counts.now) c.take_out.new.self (λ d. same_text c.args.document.now d)
    (sym c.in-Some.ensures.value) ((c.get_mut.follows.holds c.take_out.new.self).3 (there_as _ _ c.in-Some.ensures.value refl)).0 c.take_out.ensures n d
