use Rattle.std.proofs.Common.{◌≡◌, map, ◌++◌}
use Rattle.change_view.specs.Rules.{combined}
use Rattle.change_view.specs.Lists.{entry_of, pairs, made}
use Rattle.change_view.specs.Walks.{ahead, left}
use Rattle.change_view.proofs.meet.merged.Given as goal

abbrev pub invariant-loop-met : goal.invariant-loop-met
invariant-loop-met l = made (combined l.rule) (pairs (map entry_of l.fn.first) (map entry_of l.fn.second)) ≡ map entry_of l.out.items ++ made (combined l.rule) (ahead l.walk)

abbrev pub decreases-loop-met : goal.decreases-loop-met
decreases-loop-met l = left l.walk
