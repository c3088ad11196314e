use Rattle.std.proofs.Common.{None, Some, ◌+◌, ◌&&◌, cond, ap, subst, ◌∙◌}
use Rattle.doc_items.specs.Maps.{Key, same_text}
use Rattle.document_words.proofs.Counting.{Answers, value_more, by_document}
use Rattle.document_words.proofs.places.WordPlaces.put_first.Goals as goal

pub returns : goal.returns
returns c w n d =
    value_more by_document c.args.self.now.words c.insert.new.self c.args.word.now None c.put.new.self (λ q. same_text c.args.name.now q.0 && same_text c.args.document.now q.1) c.requires
    (subst (λ (k : Key). Answers c.args.self.now.words c.insert.new.self k (Some c.put.new.self)) c.in_ok-word.ensures c.in_ok-_old.ensures.updates.0)
    (λ q. c.in_ok-put.ensures q.0 q.1 ∙ ap (λ k. k + cond (same_text c.args.name.now q.0 && same_text c.args.document.now q.1) 1 0) (c.new-counts.ensures q.0 q.1)) w (n, d)
