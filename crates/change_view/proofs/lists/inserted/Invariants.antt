use Rattle.std.proofs.Common.{◌≡◌, map, drop, ◌++◌}
use Rattle.change_view.specs.Lists.{entry_of, inserted_entries}
use Rattle.change_view.proofs.lists.inserted.Given as goal

abbrev pub invariant-loop-change : goal.invariant-loop-change
invariant-loop-change l = inserted_entries (map entry_of l.list) ≡ map entry_of l.out.items ++ inserted_entries (map entry_of (drop l.change-index l.list))
