use Rattle.std.proofs.Common.{◌≡◌, map, drop}
use Rattle.change_view.specs.Lists.{entry_of, put_all}
use Rattle.change_view.proofs.lists.put.Given as goal

abbrev pub invariant-loop-change : goal.invariant-loop-change
invariant-loop-change l = put_all (map entry_of l.list) l.fn.texts ≡ put_all (map entry_of (drop l.change-index l.list)) l.texts
