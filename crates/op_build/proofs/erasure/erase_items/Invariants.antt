use Rattle.std.proofs.Common.{◌≡◌, ◌+◌, ◌≤◌, ◌++◌, map}
use Rattle.doc_items.specs.Limits.{max_count}
use Rattle.doc_op.specs.Lengths.{input_len}
use Rattle.op_build.specs.Edits.{range}
use Rattle.op_build.specs.Plans.{erase_one}
use Rattle.op_build.proofs.erasure.erase_items.Given as goal

abbrev pub invariant-loop-left : goal.invariant-loop-left
invariant-loop-left g l = record {
  is : l.out ++ map erase_one (range (g.D.Items.items l.document) l.place l.left) ≡ l.fn.out ++ map erase_one (range (g.D.Items.items l.document) l.fn.from l.fn.count);
  room : input_len l.out + l.left ≤ max_count;
  place : l.place + l.left ≡ l.fn.from + l.fn.count;
}

abbrev pub decreases-loop-left : goal.decreases-loop-left
decreases-loop-left g l = l.left
