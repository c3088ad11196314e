use Rattle.std.proofs.Common.{Some, sym}
use Rattle.doc_items.specs.Maps.{same_text}
use Rattle.document_words.specs.Places.{count_of}
use Rattle.document_words.proofs.Counting.{value_more, ok_to}
use Rattle.document_words.proofs.wavelets.WaveletCounts.put_again.Goals as goal

pub returns : goal.returns
returns c =
    ok_to c.put.result
    (λ h n d. value_more count_of c.args.self.now.wavelets (c.get_mut.follows.lender c.put.new.self) c.args.name.now (Some c.in-Some.counts.now) c.put.new.self (λ d. same_text c.args.document.now d)
    (sym c.in-Some.ensures.value) ((c.get_mut.follows.holds c.put.new.self).3 c.requires).0 h n d)
    c.put.ensures
