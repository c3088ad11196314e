use Rattle.std.proofs.Common.{◌≡◌, List, ℕ, drop, None}
use Rattle.std.specs.Option.{option_copied}
use Rattle.std.specs.Str.{encode_utf8_all}
use Rattle.doc_items.specs.Changes.{is_named}
use Rattle.doc_op.specs.Refusals.{bad_change}
use Rattle.doc_op.specs.Running.{on_at}
use Rattle.doc_op.proofs.keys.bad_change.Given as goal

abbrev pub invariant-loop-change : goal.invariant-loop-change
invariant-loop-change l = (ends : List (List ℕ)) → ((k : List ℕ) → on_at l.ended (encode_utf8_all k) ≡ is_named ends k)
    → bad_change ends None l.changes ≡ bad_change ends (option_copied l.last) (drop l.change-index l.changes)
