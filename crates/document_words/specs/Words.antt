-- The words of a document: the longest runs of neighbouring letters. A word is seen as its UTF-8 bytes.
--     is_letter c          an ASCII letter or digit, or a character from U+0080 on
--     letter_of c          the letter that a content is; None parts words
--     letters items        the letters of items
--     ended w ws           an open word in front of others; one without letters is none
--     words_from w ls      the words of letters after an open word
--     words ls             the words of letters
--     document_words       those of a document
--     occurrences w ws     how often a word is among others
--     CutOf, words_with    the words that were cut off, and the open one; with the words of letters after them
use Rattle.std.specs.Prelude.{ℕ, ◌+◌, Bool, cond, ◌||◌, nat_le, List, [], ◌∷◌, ◌++◌, map, Option, Some, None, encode_utf8}
use Rattle.std.specs.Char.{is_ascii_alphanumeric}
use Rattle.doc_items.specs.Maps.{Key, same_text}
use Rattle.doc_items.specs.declared.item.Content.{Content}
use Rattle.doc_items.specs.declared.item.Content.TheVariants.{Character, Start, End}
use Rattle.doc_items.specs.declared.item.Item.{Item}

abbrev pub is_letter : ℕ → Bool
is_letter c = is_ascii_alphanumeric c || nat_le 128 c

abbrev pub letter_of : Content → Option ℕ
letter_of (Character c) = cond (is_letter c) (Some c) None
letter_of (Start kind m) = None
letter_of End = None

abbrev pub letters : List Item → List (Option ℕ)
letters items = map (λ i. letter_of i.content) items

abbrev pub ended : Key → List Key → List Key
ended [] ws = ws
ended (b ∷ w) ws = (b ∷ w) ∷ ws

abbrev pub words_from : Key → List (Option ℕ) → List Key
words_from w [] = ended w []
words_from w (None ∷ ls) = ended w (words_from [] ls)
words_from w (Some c ∷ ls) = words_from (w ++ encode_utf8 c) ls

abbrev pub words : List (Option ℕ) → List Key
words ls = words_from [] ls

abbrev pub document_words : List Item → List Key
document_words items = words (letters items)

abbrev pub occurrences : Key → List Key → ℕ
occurrences w [] = 0
occurrences w (v ∷ ws) = cond (same_text w v) 1 0 + occurrences w ws

-- ---- as they are cut

pub record CutOf : Type 0 where
  pub done : List Key
  pub begun : Key

abbrev pub words_with : CutOf → List (Option ℕ) → List Key
words_with c ls = c.done ++ words_from c.begun ls
