use Rattle.std.proofs.Common.{◌≡◌, ◌+◌, ◌++◌, map, take, drop}
use Rattle.doc_op.specs.Actions.{Ins}
use Rattle.doc_op.specs.Lengths.{output_len}
use Rattle.op_invert.specs.Walks.{items_of}
use Rattle.op_invert.proofs.reversal.Reversal.put_back.Given as goal

abbrev pub invariant-loop-left : goal.invariant-loop-left
invariant-loop-left l = record {
  out : l.self.out ++ map Ins (take l.left (drop l.self.place (items_of l.fn.items))) ≡ l.fn.self.out ++ map Ins (take l.fn.count (drop l.fn.self.place (items_of l.fn.items)));
  place : l.self.place + l.left ≡ l.fn.self.place + l.fn.count;
  room : output_len l.self.out + l.left ≡ output_len l.fn.self.out + l.fn.count;
}

abbrev pub decreases-loop-left : goal.decreases-loop-left
decreases-loop-left l = l.left
