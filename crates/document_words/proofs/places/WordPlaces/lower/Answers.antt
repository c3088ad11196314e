use Rattle.std.proofs.Common.{Some, ◌&&◌, sym, refl}
use Rattle.doc_items.specs.Maps.{same_text}
use Rattle.document_words.proofs.Counting.{value_less, there_as, by_document}
use Rattle.document_words.proofs.places.WordPlaces.lower.Goals as goal

pub returns-in-Some : goal.returns-in-Some
returns-in-Some c w n d =
    value_less by_document c.args.self.now.words (c.get_mut.follows.lender c.take_out.new.self) c.args.word.now (Some c.in-Some.counts.now) c.take_out.new.self (λ q. same_text c.args.name.now q.0 && same_text c.args.document.now q.1)
    (sym c.in-Some.ensures.value) ((c.get_mut.follows.holds c.take_out.new.self).3 (there_as _ _ c.in-Some.ensures.value refl)).0 (λ q. c.take_out.ensures q.0 q.1) w (n, d)
