use Rattle.std.proofs.Common.{◌≡◌, map, take}
use Rattle.std.specs.Str.{chars}
use Rattle.change_view.specs.Lists.{entry_of}
use Rattle.change_view.proofs.lists.keys.Given as goal

abbrev pub invariant-loop-change : goal.invariant-loop-change
invariant-loop-change l = l.out.items ≡ map chars (map (λ e. e.0) (map entry_of (take l.change-index l.list)))
