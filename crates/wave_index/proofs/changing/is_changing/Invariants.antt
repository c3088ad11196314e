use Rattle.std.proofs.Common.{◌≡◌, drop}
use Rattle.std.specs.List.{list_all}
use Rattle.wave_index.specs.Versions.{is_retain}
use Rattle.wave_index.proofs.changing.is_changing.Given as goal

abbrev pub invariant-loop-component : goal.invariant-loop-component
invariant-loop-component l = list_all is_retain (drop l.component-index l.component-items) ≡ list_all is_retain l.component-items
