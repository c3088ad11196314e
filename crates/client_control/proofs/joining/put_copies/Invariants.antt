use Rattle.std.proofs.Common.{◌≡◌, ◌++◌, take}
use Rattle.client_control.proofs.joining.put_copies.Given as goal

abbrev pub invariant-loop-op : goal.invariant-loop-op
invariant-loop-op l = l.list.items ≡ l.initial.list.items ++ take l.op-index l.ops
