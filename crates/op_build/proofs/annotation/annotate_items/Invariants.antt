use Rattle.std.proofs.Common.{◌≡◌, ◌+◌, ◌≤◌, ◌++◌, map}
use Rattle.std.specs.Option.{option_copied}
use Rattle.doc_items.specs.Limits.{max_count}
use Rattle.doc_op.specs.Lengths.{input_len, output_len}
use Rattle.op_build.specs.Edits.{range}
use Rattle.op_build.specs.Plans.{annotate_one}
use Rattle.op_build.proofs.annotation.annotate_items.Given as goal

abbrev pub invariant-loop-left : goal.invariant-loop-left
invariant-loop-left g l = record {
  is : l.out ++ map (annotate_one l.key (option_copied l.value)) (range (g.D.Items.items l.document) l.place l.left)
      ≡ l.fn.out ++ map (annotate_one l.key (option_copied l.value)) (range (g.D.Items.items l.document) l.fn.from l.fn.count);
  input : input_len l.out + l.left ≤ max_count;
  output : output_len l.out + l.left ≤ max_count;
  place : l.place + l.left ≡ l.fn.from + l.fn.count;
}

abbrev pub decreases-loop-left : goal.decreases-loop-left
decreases-loop-left g l = l.left
