use Rattle.std.proofs.Common.{◌≡◌, map}
use Rattle.change_view.specs.Rules.{passing}
use Rattle.change_view.specs.Lists.{entry_of, pairs, all_pass}
use Rattle.change_view.specs.Walks.{ahead, left}
use Rattle.change_view.proofs.meet.passes.Given as goal

abbrev pub invariant-loop-met : goal.invariant-loop-met
invariant-loop-met l = all_pass (passing l.test) (pairs (map entry_of l.fn.first) (map entry_of l.fn.second)) ≡ all_pass (passing l.test) (ahead l.walk)

abbrev pub decreases-loop-met : goal.decreases-loop-met
decreases-loop-met l = left l.walk
