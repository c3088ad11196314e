use Rattle.std.proofs.Common.{◌≡◌, map, take}
use Rattle.change_view.specs.Lists.{entry_of, deleted_entry}
use Rattle.change_view.proofs.lists.deleted.Given as goal

abbrev pub invariant-loop-change : goal.invariant-loop-change
invariant-loop-change l = map entry_of l.out.items ≡ map deleted_entry (map entry_of (take l.change-index l.list))
