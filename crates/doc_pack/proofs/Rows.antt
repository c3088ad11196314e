-- Characters in a row.
--     is_character, no_character, one_more
--     text_more     a text with one character more at its end
--     text_none     one without bytes has no characters
--     passed_letter     a letter more is passed
--     same_start, same_item     what tests of ≡ say of an element's start, and of an item
use Rattle.std.proofs.Common.{◌≡◌, ℕ, true, ◌+◌, ◌<◌, ◌≤◌, List, [], ◌∷◌, ◌++◌, length, map, take, get_or, sym, ap, ◌∙◌, arith, append-nil, IsUtf8}
use Rattle.std.proofs.lemmas.List.{map-append, take_more, length_push}
use Rattle.std.specs.Str.{chars, encode_utf8_all}
use Rattle.std.specs.Cmp.Lexicographic.{bytes_decides}
use Rattle.std.proofs.Math.Utf8.{encode}
use Rattle.std.proofs.lemmas.Str.{chars_from_encodes, encodes-append, encodes-chars, chars-nil}
use Rattle.doc_items.specs.Maps.{Key, Map, same_text, same_values}
use Rattle.doc_items.specs.declared.item.Content.{Content}
use Rattle.doc_items.specs.declared.item.Content.TheVariants.{Character, Start}
use Rattle.doc_items.specs.declared.item.Item.{Item}
use Rattle.doc_items.proofs.Maps.{same_values-is}
use Rattle.doc_pack.specs.Characters.{character_item, character_items, AreCharacters}

pub is_character : (x : Item) (m : Map Key) (c : ℕ) → x.content ≡ Character c → same_values x.notes m ≡ true → x ≡ character_item c m
is_character x m c e h = λ i. record { content = e i; notes = same_values-is x.notes m h i }

pub no_character : (items : List Item) (m : Map Key) (text : List ℕ) → text ≡ [] → AreCharacters items m text
no_character items m text e = record {
  are = ap (λ (w : List ℕ). take (length w) items) e ∙ ap (map (λ c. character_item c m)) (sym e);
  fits = omega (arith, ap length e);
}

pub one_more : (items : List Item) (m : Map Key) (text more : List ℕ) (i : ℕ) (x : Item) (c : ℕ) → AreCharacters items m text
    → length text ≡ i → i < length items → x ≡ get_or items i x → x ≡ character_item c m → more ≡ text ++ c ∷ [] → AreCharacters items m more
one_more items m text more i x c h n less is e f =
    let len : length more ≡ i + 1 = ap length f ∙ length_push text c ∙ ap (λ k. k + 1) n in
    record {
      are = ap (λ k. take k items) len ∙ take_more items i x less
          ∙ (λ j. take (sym n j) items ++ (sym is ∙ e) j ∷ [])
          ∙ ap (λ (xs : List Item). xs ++ character_item c m ∷ []) h.are
          ∙ sym (map-append (λ d. character_item d m) text (c ∷ []))
          ∙ ap (map (λ d. character_item d m)) (sym f);
      fits = omega (arith, len, less);
    }

pub text_more : (bs more : List ℕ) (c : ℕ) → IsUtf8 bs → IsUtf8 more → more ≡ bs ++ encode c → chars more ≡ chars bs ++ c ∷ []
text_more bs more c u v e = sym (chars_from_encodes (chars bs ++ c ∷ []) more v
    (encodes-append (chars bs) (c ∷ []) ∙ (λ k. encodes-chars bs u k ++ append-nil (encode c) k) ∙ sym e))

pub text_none : (bs : List ℕ) → length bs ≡ 0 → chars bs ≡ []
text_none [] e = chars-nil
text_none (b ∷ bs) e = absurd (omega (arith, e))

pub same_start : (x : Content) (k j : List ℕ) (m n : Map Key) → x ≡ Start k m → same_text k j ≡ true → same_values m n ≡ true → x ≡ Start j n
same_start x k j m n e h g = e ∙ (λ i. Start ((bytes_decides k j).0 h i) (same_values-is m n g i))

pub same_item : (x y : Item) → x.content ≡ y.content → same_values x.notes y.notes ≡ true → x ≡ y
same_item x y e h = λ i. record { content = e i; notes = same_values-is x.notes y.notes h i }

pub passed_letter : (m : Map Key) (bs cs : List ℕ) (c : ℕ) (rest others other : List Item) (first : Item) → chars bs ≡ c ∷ chars cs → rest ≡ first ∷ others → first ≡ character_item c m
    → others ≡ character_items m (chars cs) ++ other → rest ≡ character_items m (chars bs) ++ other
passed_letter m bs cs c rest others other first e f g h =
    f ∙ (λ i. g i ∷ h i) ∙ ap (λ (t : List ℕ). character_items m t ++ other) (sym e)
