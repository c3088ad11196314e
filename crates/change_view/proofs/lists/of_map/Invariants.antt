use Rattle.std.proofs.Common.{◌≡◌, true, map, ◌++◌}
use Rattle.doc_items.specs.Maps.{pair_of}
use Rattle.change_view.specs.Lists.{entry_of, fresh_entry, all_texts}
use Rattle.change_view.proofs.lists.of_map.Given as goal

abbrev pub invariant-loop-key : goal.invariant-loop-key
invariant-loop-key l = (map entry_of l.out.items ++ map fresh_entry (map pair_of l.key-iterator) ≡ map fresh_entry (map pair_of l.initial.key-iterator)) × (all_texts (map entry_of l.out.items) ≡ true)
