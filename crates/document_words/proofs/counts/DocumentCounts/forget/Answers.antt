use Rattle.std.proofs.Common.{None}
use Rattle.document_words.proofs.Counting.{counts_at}
use Rattle.document_words.proofs.counts.DocumentCounts.forget.Goals as goal

pub returns : goal.returns
returns c = counts_at c.args.self.now.counts c.remove-old.new.self c.args.document.now None c.remove-old.ensures.updates.0
