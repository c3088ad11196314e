use Rattle.std.proofs.Common.{sym}
use Rattle.document_words.specs.Places.{count_of}
use Rattle.document_words.proofs.Counting.{value_gone}
use Rattle.document_words.proofs.wavelets.WaveletCounts.forget_empty.Goals as goal

pub returns-then-is_empty : goal.returns-then-is_empty
returns-then-is_empty c n d =
    value_gone count_of c.args.self.now.wavelets c.remove-old.new.self c.args.name.now c.in-Some.counts.now (sym c.in-Some.ensures.value) c.remove-old.ensures.updates.0 (c.is_empty.ensures c.if-is_empty.true) n d
