use Rattle.std.proofs.Common.{◌≡◌, ◌+◌, map, drop}
use Rattle.doc_items.specs.declared.item.Content.TheVariants.{Character}
use Rattle.op_runs.specs.Contents.{common}
use Rattle.op_runs.proofs.contents.common_text.Given as goal

abbrev pub invariant-loop-i : goal.invariant-loop-i
invariant-loop-i l = common (map Character l.text) (map Character l.words) ≡ l.i + common (map Character (drop l.i l.text)) (map Character (drop l.i l.words))
