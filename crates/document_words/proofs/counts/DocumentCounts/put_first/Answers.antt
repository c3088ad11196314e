use Rattle.std.proofs.Common.{Some, ap, ◌∙◌, cond}
use Rattle.doc_items.specs.Maps.{Key, same_text}
use Rattle.document_words.specs.Places.{count_of}
use Rattle.document_words.proofs.Counting.{counts_at}
use Rattle.document_words.proofs.counts.DocumentCounts.put_first.Goals as goal

pub returns : goal.returns
returns c q = counts_at c.args.self.now.counts c.insert.new.self c.in_ok-document.document (Some 1) c.in_ok-_old.ensures.updates.0 q ∙ ap (λ (k : Key). cond (same_text k q) 1 (count_of c.args.self.now q)) c.in_ok-document.ensures
