-- Objects with exactly some members.
--     member_count d          how many members an object has, and 0 for another value
--     only_member d           the name and the value of an object's one member
--     two_members a b d       the values of an object's two members, which have these names
--     three_members a b c d   so of three
use Rattle.std.specs.Prelude.{ℕ, ◌+◌, ◌==◌, List, if◌then◌else◌, Option, Some, None, option_map, option_and_then}
use Rattle.serde_json.specs.Data.{Data, Members, no_members, member}
use Rattle.serde_json.specs.Find.{get, as_object}

abbrev pub members_len : Members → ℕ
members_len no_members = 0
members_len (member k d ms) = members_len ms + 1

abbrev pub some_len : Option Members → ℕ
some_len None = 0
some_len (Some ms) = members_len ms

abbrev pub member_count : Data → ℕ
member_count d = some_len (as_object d)

abbrev pub only : Members → Option (List ℕ × Data)
only no_members = None
only (member k d no_members) = Some (k, d)
only (member k d (member l e ms)) = None

abbrev pub only_member : Data → Option (List ℕ × Data)
only_member d = option_and_then only (as_object d)

abbrev pub two_members : List ℕ → List ℕ → Data → Option (Data × Data)
two_members a b d = if member_count d == 2 then
    option_and_then (λ x. option_map (λ y. (x, y)) (get b d)) (get a d)
    else None

abbrev pub three_members : List ℕ → List ℕ → List ℕ → Data → Option (Data × Data × Data)
three_members a b c d = if member_count d == 3 then
    option_and_then (λ x. option_and_then (λ y. option_map (λ z. (x, y, z)) (get c d)) (get b d)) (get a d)
    else None
