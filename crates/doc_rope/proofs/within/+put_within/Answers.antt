use Rattle.std.proofs.Common.{rules, arith}
use Rattle.doc_rope.proofs.Laws.{total_append}
use Rattle.doc_rope.proofs.Between.{between_after}
use Rattle.doc_rope.proofs.within.+put_within.Goals as goal

pub put_within-requires-then-behind-end : goal.put_within-requires-then-behind-end
put_within-requires-then-behind-end t c = (search (rules, arith), (search rules, (search (rules, between_after), (grind (arith, total_append), grind (arith, total_append)))))
