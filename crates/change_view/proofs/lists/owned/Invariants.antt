use Rattle.std.proofs.Common.{◌≡◌, map, take}
use Rattle.change_view.specs.Texts.{as_change}
use Rattle.change_view.specs.Lists.{entry_of}
use Rattle.change_view.proofs.lists.owned.Given as goal

abbrev pub invariant-loop-change : goal.invariant-loop-change
invariant-loop-change l = l.out.items ≡ map as_change (map entry_of (take l.change-index l.list))
