use Rattle.std.proofs.Common.{sym}
use Rattle.document_words.proofs.Counting.{value_gone, by_document}
use Rattle.document_words.proofs.places.WordPlaces.forget_empty.Goals as goal

pub returns-then-is_empty : goal.returns-then-is_empty
returns-then-is_empty c w n d =
    value_gone by_document c.args.self.now.words c.remove-old.new.self c.args.word.now c.in-Some.counts.now (sym c.in-Some.ensures.value) c.remove-old.ensures.updates.0 (λ q. c.is_empty.ensures c.if-is_empty.true q.0 q.1) w (n, d)
