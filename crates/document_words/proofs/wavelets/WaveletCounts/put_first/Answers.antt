use Rattle.std.proofs.Common.{None, Some, ◌+◌, cond, ap, subst, ◌∙◌}
use Rattle.doc_items.specs.Maps.{Key, same_text}
use Rattle.document_words.specs.Places.{count_of}
use Rattle.document_words.proofs.Counting.{Answers, value_more}
use Rattle.document_words.proofs.wavelets.WaveletCounts.put_first.Goals as goal

pub returns : goal.returns
returns c n d =
    value_more count_of c.args.self.now.wavelets c.insert.new.self c.args.name.now None c.put.new.self (λ d. same_text c.args.document.now d) c.requires
    (subst (λ (k : Key). Answers c.args.self.now.wavelets c.insert.new.self k (Some c.put.new.self)) c.in_ok-name.ensures c.in_ok-_old.ensures.updates.0)
    (λ d. c.in_ok-put.ensures d ∙ ap (λ k. k + cond (same_text c.args.document.now d) 1 0) (c.new-counts.ensures d)) n d
