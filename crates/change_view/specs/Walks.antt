-- Two lists side by side, as code goes over them.
--     meeting m      what stands at a key
--     ahead w        the keys ahead
--     left w         how many changes are ahead
use Rattle.std.specs.Prelude.{ℕ, ◌+◌, List, map, length}
use Rattle.std.specs.Option.{option_map}
use Rattle.change_view.specs.Lists.{value_of, entry_of, Meeting, pairs}
use Rattle.change_view.specs.declared.meet.Met.{Met}
use Rattle.change_view.specs.declared.meet.Walk.{Walk}

abbrev pub meeting : Met → Meeting
meeting m = record { key = m.key.now; first = option_map value_of m.first; second = option_map value_of m.second }

abbrev pub ahead : Walk → List Meeting
ahead w = pairs (map entry_of w.first.now) (map entry_of w.second.now)

abbrev pub left : Walk → ℕ
left w = length w.first.now + length w.second.now
