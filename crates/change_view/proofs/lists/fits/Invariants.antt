use Rattle.std.proofs.Common.{◌≡◌, map, drop}
use Rattle.change_view.specs.Lists.{entry_of, all_fit}
use Rattle.change_view.proofs.lists.fits.Given as goal

abbrev pub invariant-loop-change : goal.invariant-loop-change
invariant-loop-change l = all_fit (map entry_of l.list) l.texts ≡ all_fit (map entry_of (drop l.change-index l.list)) l.texts
