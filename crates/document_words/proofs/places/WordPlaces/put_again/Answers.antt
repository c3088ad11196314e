use Rattle.std.proofs.Common.{Some, ◌&&◌, sym}
use Rattle.doc_items.specs.Maps.{same_text}
use Rattle.document_words.proofs.Counting.{value_more, ok_to, by_document}
use Rattle.document_words.proofs.places.WordPlaces.put_again.Goals as goal

pub returns : goal.returns
returns c =
    ok_to c.put.result
    (λ h w n d. value_more by_document c.args.self.now.words (c.get_mut.follows.lender c.put.new.self) c.args.word.now (Some c.in-Some.counts.now) c.put.new.self (λ q. same_text c.args.name.now q.0 && same_text c.args.document.now q.1)
    (sym c.in-Some.ensures.value) ((c.get_mut.follows.holds c.put.new.self).3 c.requires).0 (λ q. h q.0 q.1) w (n, d))
    c.put.ensures
