use Rattle.std.proofs.Common.{◌≡◌, drop, None}
use Rattle.std.specs.Option.{option_copied}
use Rattle.doc_items.specs.Changes.{ChangeSet}
use Rattle.doc_op.specs.Refusals.{bad_end}
use Rattle.doc_op.specs.Running.{Follows}
use Rattle.doc_op.proofs.keys.bad_end.Given as goal

abbrev pub invariant-loop-key : goal.invariant-loop-key
invariant-loop-key l = (u : ChangeSet) → Follows u l.running → bad_end u None l.ends ≡ bad_end u (option_copied l.last) (drop l.key-index l.ends)
