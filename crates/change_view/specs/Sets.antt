-- Change sets made of others, key by key.
--     joined r u w          what the rule r makes of the two at each key
--     passes t u w          the two pass the test t at each key
--     same_changes u w      the test of ≡
--     start_at u m          the keys of u, from the map's values to u's new ones
--     as_inserted u         the keys of u with a new value, as absent before
--     as_deleted u          the keys of u, as absent afterwards
--     from_absent m         the keys of a map, each from absent to its value
use Rattle.std.specs.Prelude.{Bool, true, false, Option, None, Some, option_and_then}
use Rattle.std.specs.FinMap.{get, keys}
use Rattle.doc_items.specs.Maps.{Key, Map, tabulate, each, merge, matches}
use Rattle.doc_items.specs.Changes.{KeyChange, ChangeSet}
use Rattle.change_view.specs.declared.rule.Rule.{Rule}
use Rattle.change_view.specs.declared.rule.Test.{Test}
use Rattle.change_view.specs.Rules.{combined, passing, same_change}
pub use Rattle.change_view.specs.Rules.{fresh, one_inserted, one_deleted}

abbrev pub joined : Rule → ChangeSet → ChangeSet → ChangeSet
joined r u w = merge (combined r) u w

abbrev pub passes : Test → ChangeSet → ChangeSet → Bool
passes t u w = matches (passing t) u w

abbrev pub same_one : Option KeyChange → Option KeyChange → Bool
same_one None None = true
same_one None (Some w) = false
same_one (Some u) None = false
same_one (Some u) (Some w) = same_change u w

abbrev pub same_changes : ChangeSet → ChangeSet → Bool
same_changes u w = matches same_one u w

abbrev pub one_from : Option KeyChange → Option Key → Option KeyChange
one_from None v = None
one_from (Some u) v = Some (record { old = v; new = u.new })

abbrev pub start_at : ChangeSet → Map Key → ChangeSet
start_at u m = merge one_from u m

abbrev pub as_inserted : ChangeSet → ChangeSet
as_inserted u = tabulate (keys u) (λ k. option_and_then one_inserted (get u k))

abbrev pub as_deleted : ChangeSet → ChangeSet
as_deleted u = each one_deleted u

abbrev pub from_absent : Map Key → ChangeSet
from_absent m = each fresh m
