-- Change sets whose keys and values are texts, and how components write them.
--     is_text_change k c    the key and the values of the change are UTF-8
--     AreTexts u            all keys and values of a change set are UTF-8
--     change_list u         the changes, in byte order of their keys
--     key_list u            the keys, in byte order
--     boundary_between u w  where u runs before and w after: the keys of u that w lacks end, and those of w change that u hasn't so
use Rattle.std.specs.Prelude.{◌≡◌, ℕ, Bool, true, ◌&&◌, List, map, Option, None, Some}
use Rattle.std.specs.Option.{option_map}
use Rattle.std.specs.Str.{chars, is_utf8}
use Rattle.std.specs.FinMap.{get, keys, entries}
use Rattle.doc_items.specs.Maps.{Key, merge}
use Rattle.doc_items.specs.Changes.{KeyChange, ChangeSet}
use Rattle.doc_items.specs.declared.change.Change.{Change}
use Rattle.doc_items.specs.declared.change.Boundary.{Boundary}
use Rattle.change_view.specs.Rules.{one_under, one_unlike}

abbrev pub is_text_value : Option Key → Bool
is_text_value None = true
is_text_value (Some v) = is_utf8 v

abbrev pub is_text_change : Key → KeyChange → Bool
is_text_change k c = is_utf8 k && (is_text_value c.old && is_text_value c.new)

abbrev pub is_text_at : Key → Option KeyChange → Bool
is_text_at k None = true
is_text_at k (Some c) = is_text_change k c

abbrev pub AreTexts : ChangeSet → Type 0
AreTexts u = (k : Key) → is_text_at k (get u k) ≡ true

abbrev pub as_change : Key × KeyChange → Change
as_change e = record { key = chars e.0; old = option_map chars e.1.old; new = option_map chars e.1.new }

abbrev pub change_list : ChangeSet → List Change
change_list u = map as_change (entries u)

abbrev pub key_list : ChangeSet → List (List ℕ)
key_list u = map chars (keys u)

abbrev pub boundary_between : ChangeSet → ChangeSet → Boundary
boundary_between u w = record { end = key_list (merge one_under u w); change = change_list (merge one_unlike w u) }
