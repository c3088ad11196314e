use Rattle.std.proofs.Common.{Some}
use Rattle.document_words.proofs.Counting.{counts_at, there_of}
use Rattle.document_words.proofs.counts.DocumentCounts.set.Goals as goal

pub returns-in-Some : goal.returns-in-Some
returns-in-Some c = counts_at c.args.self.now.counts (c.get_mut.follows.lender c.args.count) c.args.document.now (Some c.args.count) ((c.get_mut.follows.holds c.args.count).3 (there_of _ c.requires)).0
