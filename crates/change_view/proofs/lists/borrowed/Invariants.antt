use Rattle.std.proofs.Common.{◌≡◌, true, map, take}
use Rattle.change_view.specs.Lists.{entry_of, of_change, all_texts}
use Rattle.change_view.proofs.lists.borrowed.Given as goal

abbrev pub invariant-loop-change : goal.invariant-loop-change
invariant-loop-change l = (map entry_of l.out.items ≡ map of_change (take l.change-index l.changes)) × (all_texts (map entry_of l.out.items) ≡ true)
