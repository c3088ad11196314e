use Rattle.std.proofs.Common.{◌≡◌, true, map, ◌++◌}
use Rattle.change_view.specs.Lists.{entry_of, all_texts}
use Rattle.change_table.specs.Tables.{stored_entry}
use Rattle.change_table.proofs.table.ChangeTable.view.Given as goal

abbrev pub invariant-loop-key : goal.invariant-loop-key
invariant-loop-key l = (map entry_of l.list.items ++ map stored_entry l.key-iterator ≡ map stored_entry l.initial.key-iterator) × (all_texts (map entry_of l.list.items) ≡ true)
