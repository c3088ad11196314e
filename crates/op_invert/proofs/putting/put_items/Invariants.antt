use Rattle.std.proofs.Common.{◌≡◌, ◌+◌, ◌≤◌, ◌++◌, length, map}
use Rattle.doc_items.specs.Limits.{max_count}
use Rattle.doc_op.specs.Actions.{Ins}
use Rattle.doc_op.specs.Lengths.{output_len}
use Rattle.op_invert.proofs.putting.put_items.Given as goal

abbrev pub invariant-loop-rest : goal.invariant-loop-rest
invariant-loop-rest l = record {
  out : l.out ++ map Ins l.rest ≡ l.fn.out ++ map Ins l.fn.items;
  room : output_len l.out + length l.rest ≤ max_count;
}

abbrev pub decreases-loop-rest : goal.decreases-loop-rest
decreases-loop-rest l = length l.rest
