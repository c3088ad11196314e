-- Changes as they are stored.
--     stored_entry e   a stored change, by the bytes of its key
--     table_of es      the change set of these stored changes
--     with_entry u e   the set with this change and its key; None leaves it as it is
use Rattle.std.specs.Prelude.{List, map, string_bytes, String, Option, None, Some}
use Rattle.std.specs.Global.{Global}
use Rattle.std.specs.FinMap.{from_entries, insert}
use Rattle.doc_items.specs.Maps.{Key}
use Rattle.doc_items.specs.Changes.{KeyChange, ChangeSet, key_change}
use Rattle.doc_items.specs.declared.change.Change.{Change}
use Rattle.change_view.specs.Lists.{Entry}

abbrev pub stored_entry : String Global × Change → Key × KeyChange
stored_entry e = (string_bytes e.0, key_change e.1)

abbrev pub table_of : List (String Global × Change) → ChangeSet
table_of es = from_entries (map stored_entry es)

abbrev pub with_entry : ChangeSet → Option Entry → ChangeSet
with_entry u None = u
with_entry u (Some e) = insert u e.0 e.1
