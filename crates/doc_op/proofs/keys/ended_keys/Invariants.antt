use Rattle.std.proofs.Common.{◌≡◌, List, ℕ, take}
use Rattle.std.specs.Str.{encode_utf8_all}
use Rattle.doc_items.specs.Changes.{is_named}
use Rattle.doc_op.specs.Running.{on_at}
use Rattle.doc_op.proofs.keys.ended_keys.Given as goal

abbrev pub invariant-loop-key : goal.invariant-loop-key
invariant-loop-key l = (k : List ℕ) → on_at l.ended (encode_utf8_all k) ≡ is_named (take l.key-index l.ends) k
