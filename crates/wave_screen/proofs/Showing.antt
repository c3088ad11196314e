-- How texts and documents are shown, piece by piece.
--     escaped_step, escaped_none     a text, by its first character, and one without any
--     pair_step, pairs_done          annotations, pair by pair
--     items_append, run_step         items in a row, and a run of a document from a place on
--     rope_kept                      a document that isn't kept is empty
--     threads_none                   a manifest that isn't kept has no threads
--     indent_step                    two spaces of those that are left
--     on_ok_written                  what a call wrote, where it wrote it
--     line_apart, line_written       the line of a document that is no blip's, and as it is written piece by piece
--     manifest_there                 the manifest's name is one
use Rattle.std.proofs.Common.{◌≡◌, ℕ, suc, ◌+◌, ◌-◌, ◌<◌, Bool, true, false, cond, not, ◌&&◌, List, [], ◌∷◌, ◌++◌, length, take, drop, Option, None, Result, Ok, Err, refl, sym, ap, ◌∙◌, arith, append_assoc, codes, chars, encode_utf8, IsUtf8}
use Rattle.std.proofs.lemmas.List.{nil_from_length, take-append-drop, drop-drop}
use Rattle.std.specs.Bool.{if◌then◌else◌}
use Rattle.std.specs.Result.{OnOk, is_ok}
use Rattle.std.proofs.lemmas.Str.{chars_past_char, chars-nil}
use Rattle.doc_items.specs.Maps.{Key, Map, same_text}
use Rattle.doc_items.specs.declared.item.Item.{Item}
use Rattle.wave_base.specs.Grammar.{is_id, is_word}
use Rattle.wavelet_op.specs.States.{State, document_of, kept}
use Rattle.wave_screen.specs.Escapes.{escaped_char, escaped, escaped_text, pair_text, pairs_text, rest_pairs, item_text, items_text, notes_after, document_text, rope_text}
use Rattle.conversation.specs.Edits.{is_blip, has}
use Rattle.conversation.specs.Trees.{thread_tree}
use Rattle.conversation.specs.declared.node.Node.{Node}
use Rattle.wave_screen.specs.Screen.{manifest_name, named_items, tree_of, indent, document_line}

pub escaped_step : (bs rest : List ℕ) (c : ℕ) → IsUtf8 bs → bs ≡ encode_utf8 c ++ rest → escaped_text bs ≡ escaped_char c ++ escaped_text rest
escaped_step bs rest c u e = ap escaped (chars_past_char bs rest c u e)

pub escaped_none : (bs : List ℕ) → length bs ≡ 0 → escaped_text bs ≡ []
escaped_none bs e = ap escaped (ap chars (nil_from_length bs e) ∙ chars-nil)

-- ---- annotations

abbrev pub separator : Bool → List ℕ
separator first = cond first [] (codes ";")

pub pair_step : (first : Bool) (e : Key × Key) (es : List (Key × Key)) → rest_pairs first (e ∷ es) ≡ separator first ++ pair_text e ++ pairs_text es
pair_step true e es = refl
pair_step false e es = refl

pub pairs_done : (first : Bool) → rest_pairs first [] ≡ []
pairs_done true = refl
pairs_done false = refl

-- ---- items

pub items_append : (m : Map Key) (xs ys : List Item) → items_text m (xs ++ ys) ≡ items_text m xs ++ items_text (notes_after m xs) ys
items_append m [] ys = refl
items_append m (x ∷ xs) ys = ap (λ z. item_text m x ++ z) (items_append x.notes xs ys) ∙ sym (append_assoc (item_text m x) (items_text x.notes xs) (items_text (notes_after x.notes xs) ys))

pub run_step : (m : Map Key) (xs run : List Item) (place : ℕ) → take (length run) (drop place xs) ≡ run → items_text m (drop place xs) ≡ items_text m run ++ items_text (notes_after m run) (drop (place + length run) xs)
run_step m xs run place front =
    ap (items_text m) (sym (take-append-drop (length run) (drop place xs)) ∙ ap (λ z. z ++ drop (length run) (drop place xs)) front ∙ ap (λ z. run ++ z) (drop-drop (length run) place xs))
    ∙ items_append m run (drop (place + length run) xs)

pub rope_kept : (o : Option (List Item)) (items : List Item) → o ≡ kept items → rope_text o ≡ document_text items
rope_kept o [] e = ap rope_text e
rope_kept o (x ∷ xs) e = ap rope_text e

pub manifest_there : (s : State) → named_items s manifest_name ≡ document_of s manifest_name
unfolding is_id is_word
manifest_there s = refl

pub threads_none : (s : State) → None ≡ kept (named_items s manifest_name) → tree_of s ≡ []
threads_none s e = no_tree (document_of s manifest_name) (e ∙ ap kept (manifest_there s))
  where
    no_tree : (items : List Item) → None ≡ kept items → thread_tree items ≡ []
    no_tree [] q = refl
    no_tree (i ∷ items) q = absurd (cc)

pub indent_step : (d k : ℕ) → k < d → indent (d - k) ≡ codes "  " ++ indent (d - (k + 1))
indent_step d k low = ap indent (one_more d k low)
  where
    one_more : (d k : ℕ) → k < d → d - k ≡ suc (d - (k + 1))
    one_more d k low = omega (arith, low)

pub line_apart : (s : State) (ns : List Node) (d : Key) → same_text d manifest_name ≡ false → has (is_blip d) ns ≡ false → document_line s ns d ≡ codes "document " ++ d ++ codes ": " ++ document_text (document_of s d) ++ codes "\n"
line_apart s ns d e f = ap (λ b. cond (not b && not (has (is_blip d) ns)) (line) []) e ∙ ap (λ b. cond (not b) line []) f
  where
    line : List ℕ
    line = codes "document " ++ d ++ codes ": " ++ document_text (document_of s d) ++ codes "\n"

pub line_written : (s : State) (ns : List Node) (t d o a b c e z : List ℕ) → t ≡ d → same_text t manifest_name ≡ false → has (is_blip t) ns ≡ false
    → a ≡ o ++ codes "document " → b ≡ a ++ t → c ≡ b ++ codes ": " → e ≡ c ++ document_text (document_of s d) → z ≡ e ++ codes "\n" → z ≡ o ++ document_line s ns d
line_written s ns t d o a b c e z same other apart p q r f g =
    g ∙ ap (λ x. x ++ codes "\n") (f ∙ ap (λ x. x ++ document_text (document_of s d)) (r ∙ ap (λ x. x ++ codes ": ") (q ∙ ap (λ x. x ++ t) p ∙ ap (λ x. (o ++ codes "document ") ++ x) same)))
    ∙ joined
    ∙ ap (λ x. o ++ x) (sym (line_apart s ns d (ap (λ x. same_text x manifest_name) (sym same) ∙ other) (ap (λ x. has (is_blip x) ns) (sym same) ∙ apart)))
  where
    joined : ((((o ++ codes "document ") ++ d) ++ codes ": ") ++ document_text (document_of s d)) ++ codes "\n" ≡ o ++ (codes "document " ++ d ++ codes ": " ++ document_text (document_of s d) ++ codes "\n")
    joined =
        ap (λ x. ((x ++ codes ": ") ++ document_text (document_of s d)) ++ codes "\n") (append_assoc o (codes "document ") d)
        ∙ ap (λ x. (x ++ document_text (document_of s d)) ++ codes "\n") (append_assoc o (codes "document " ++ d) (codes ": "))
        ∙ ap (λ x. x ++ codes "\n") (append_assoc o ((codes "document " ++ d) ++ codes ": ") (document_text (document_of s d)))
        ∙ append_assoc o (((codes "document " ++ d) ++ codes ": ") ++ document_text (document_of s d)) (codes "\n")

pub on_ok_written : {T E : Type 0} (r : Result T E) (z a b : List ℕ) → z ≡ (if is_ok r then a else b) → OnOk r (z ≡ a)
on_ok_written (Ok x) z a b e = e
on_ok_written (Err x) z a b e = tt
