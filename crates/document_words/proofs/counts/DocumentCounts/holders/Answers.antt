use Rattle.std.proofs.Common.{nat_lt}
use Rattle.document_words.proofs.Counting.{in_order, among}
use Rattle.document_words.proofs.counts.DocumentCounts.holders.Goals as goal

pub returns-clause-order : goal.returns-clause-order
returns-clause-order c = in_order (λ e. nat_lt 0 e.1) c.args.self.now.counts.entries c.iter-document-items.ensures.ordered

pub returns-clause-among : goal.returns-clause-among
returns-clause-among c = among c.args.self.now.counts.entries c.iter-document-items.ensures.ordered
