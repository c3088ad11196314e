-- How texts and documents are shown.
--     hex c               two hexadecimal digits
--     escaped_char c      a character: `<`, `{` and `\` with a `\` before them, one below U+0020 and U+007F as `\x` and its number
--     escaped cs, escaped_text t     characters, and the characters of UTF-8 bytes
--     pairs_text es       pairs of a key and a value, joined by `;`
--     notes_text m        annotations
--     content_text c      a character, a start or an end
--     item_text m i       an item, with its annotations where they differ from those before it
--     items_text m items  items one by one, after these annotations
--     notes_after m items    the annotations of the last of them
--     document_text items the items of a document
--     rope_text o         those of a document that may not be there
use Rattle.std.specs.Prelude.{ℕ, ◌/◌, ◌%◌, ◌==◌, ◌||◌, ◌∷◌, ◌++◌, nat_lt, Bool, true, false, cond, List, [], Option, Some, None, codes, encode_utf8}
use Rattle.std.specs.Char.{digit_char}
use Rattle.std.specs.FinMap.{empty, entries}
use Rattle.std.specs.List.{flat_map}
use Rattle.std.specs.Str.{chars}
use Rattle.doc_items.specs.Maps.{Key, Map, same_values}
use Rattle.doc_items.specs.declared.item.Content.{Content}
use Rattle.doc_items.specs.declared.item.Content.TheVariants.{Character, Start, End}
use Rattle.doc_items.specs.declared.item.Item.{Item}

-- ---- characters

abbrev pub hex : ℕ → List ℕ
hex c = digit_char (c / 16) ∷ digit_char (c % 16) ∷ []

abbrev pub is_marked : ℕ → Bool
is_marked c = (c == 60) || (c == 123) || (c == 92)

abbrev pub is_control : ℕ → Bool
is_control c = nat_lt c 32 || (c == 127)

abbrev pub escaped_char : ℕ → List ℕ
escaped_char c = cond (is_marked c) (92 ∷ c ∷ []) (cond (is_control c) (codes "\\x" ++ hex c) (encode_utf8 c))

abbrev pub escaped : List ℕ → List ℕ
escaped cs = flat_map escaped_char cs

abbrev pub escaped_text : List ℕ → List ℕ
escaped_text t = escaped (chars t)

-- ---- annotations

abbrev pub pair_text : Key × Key → List ℕ
pair_text e = escaped_text e.0 ++ codes "=" ++ escaped_text e.1

abbrev pub pairs_text : List (Key × Key) → List ℕ
pairs_text [] = []
pairs_text (e ∷ es) = codes ";" ++ pair_text e ++ pairs_text es

abbrev pub joined_pairs : List (Key × Key) → List ℕ
joined_pairs [] = []
joined_pairs (e ∷ es) = pair_text e ++ pairs_text es

-- those that are left, where the first is one of them, and where it isn't
abbrev pub rest_pairs : Bool → List (Key × Key) → List ℕ
rest_pairs true es = joined_pairs es
rest_pairs false es = pairs_text es

abbrev pub notes_text : Map Key → List ℕ
notes_text m = codes "{" ++ joined_pairs (entries m) ++ codes "}"

-- ---- items

abbrev pub content_text : Content → List ℕ
content_text (Character c) = escaped_char c
content_text (Start kind m) = codes "<" ++ escaped kind ++ codes ">"
content_text End = codes "</>"

abbrev pub change_text : Map Key → Map Key → List ℕ
change_text m n = cond (same_values m n) [] (notes_text n)

abbrev pub item_text : Map Key → Item → List ℕ
item_text m i = change_text m i.notes ++ content_text i.content

abbrev pub items_text : Map Key → List Item → List ℕ
items_text m [] = []
items_text m (i ∷ items) = item_text m i ++ items_text i.notes items

abbrev pub notes_after : Map Key → List Item → Map Key
notes_after m [] = m
notes_after m (i ∷ items) = notes_after i.notes items

abbrev pub document_text : List Item → List ℕ
document_text items = items_text empty items

abbrev pub rope_text : Option (List Item) → List ℕ
rope_text None = []
rope_text (Some items) = document_text items
