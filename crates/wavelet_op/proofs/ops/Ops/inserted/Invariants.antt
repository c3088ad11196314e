use Rattle.std.proofs.Common.{◌≡◌, ◌≤◌, ◌+◌, ◌*◌, drop}
use Rattle.doc_items.specs.Limits.{max_count}
use Rattle.wavelet_op.specs.Acts.{inserted, meanings}
use Rattle.wavelet_op.proofs.ops.Ops.inserted.Given as goal

abbrev pub invariant-loop-op : goal.invariant-loop-op
invariant-loop-op l = record {
  value : l.sum + inserted (meanings (drop l.op-index l.list)) ≡ inserted (meanings l.list);
  bound : l.sum ≤ l.op-index * max_count;
}
