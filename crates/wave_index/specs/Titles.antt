-- The title of a document: the characters of its first line that has one, at most 80 of them.
--     is_line kind          an element of this type begins a line
--     ends_at begun c       the line ends before this content, where it has a character already
--     shown c               the characters that a content adds
--     begun_after begun c  whether the line has a character after the content
--     line_from begun items the characters of the line that is left of these items
--     max_title             how many characters a title has at most
--     title items           the title
--     is_begun t            a title has a character
--     is_whole t c          a title is whole before this content
use Rattle.std.specs.Prelude.{ℕ, Bool, true, false, cond, ◌&&◌, ◌||◌, ◌==◌, not, codes, List, [], ◌∷◌, ◌++◌, length, take}
use Rattle.std.specs.Str.{encode_utf8_all}
use Rattle.doc_items.specs.Maps.{same_text}
use Rattle.doc_items.specs.declared.item.Content.{Content}
use Rattle.doc_items.specs.declared.item.Content.TheVariants.{Character, Start, End}
use Rattle.doc_items.specs.declared.item.Item.{Item}

abbrev pub is_line : List ℕ → Bool
is_line kind = same_text (encode_utf8_all kind) (codes "line")

abbrev pub ends_at : Bool → Content → Bool
ends_at begun (Character c) = false
ends_at begun (Start kind m) = begun && is_line kind
ends_at begun End = false

abbrev pub shown : Content → List ℕ
shown (Character c) = c ∷ []
shown (Start kind m) = []
shown End = []

abbrev pub begun_after : Bool → Content → Bool
begun_after begun (Character c) = true
begun_after begun (Start kind m) = begun
begun_after begun End = begun

abbrev pub line_from : Bool → List Item → List ℕ
line_from begun [] = []
line_from begun (i ∷ items) = cond (ends_at begun i.content) [] (shown i.content ++ line_from (begun_after begun i.content) items)

abbrev pub max_title : ℕ
max_title = 80

abbrev pub title : List Item → List ℕ
title items = take max_title (line_from false items)

-- ---- as it is read

abbrev pub is_begun : List ℕ → Bool
is_begun t = not (length t == 0)

abbrev pub is_whole : List ℕ → Content → Bool
is_whole t c = (length t == max_title) || ends_at (is_begun t) c
