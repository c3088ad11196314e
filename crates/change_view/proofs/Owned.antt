-- Lists of owned changes and lists of borrowed ones.
--     rising_ascends, ascends_rising     their keys rise together
--     changes_view                       they are the same change set
--     texts_view, texts_list             the texts of a list and of its map
--     owned_list                         a change set of texts, written as a list
use Rattle.std.proofs.Common.{◌≡◌, ℕ, Bool, true, false, cond, ◌&&◌, List, [], ◌∷◌, ◌++◌, map, refl, sym, ap, ◌∙◌, Option, None, Some, option_map}
use Rattle.std.specs.Ordering.{nat_cmp, is_lt}
use Rattle.std.specs.Str.{chars, encode_utf8_all, is_utf8}
use Rattle.std.specs.Cmp.Lexicographic.{slice_cmp}
use Rattle.std.proofs.lemmas.Bool.{and_parts, and_from}
use Rattle.std.proofs.lemmas.Cmp.{nat_list_cmp_total}
use Rattle.std.proofs.lemmas.Str.{IsUtf8-from_is_utf8, encodes-chars}
use Rattle.std.specs.FinMap.{get, insert, entries, get-entries, get-insert, get-empty}
use Rattle.doc_items.specs.Maps.{Key}
use Rattle.doc_items.specs.Changes.{KeyChange, ChangeSet, key_change, with_changes, change_set, none_running, AscendsFrom, IsAscending}
use Rattle.doc_items.specs.declared.change.Change.{Change}
use Rattle.doc_items.proofs.Maps.{alike}
use Rattle.doc_items.proofs.ChangeSets.{at, at-is, key, after_less}
use Rattle.change_view.specs.Texts.{is_text_value, is_text_change, is_text_at, AreTexts, as_change, change_list}
use Rattle.change_view.specs.Lists.{Entry, of_change, all_texts}
use Rattle.change_view.proofs.Rising.{below, rising, found, map_of, get_rising, rising_entries, find_head, rising_tail, or_else, or_none, Each, each_of}

-- ---- keys

below_ascending : (k : List ℕ) (cs : List Change) → AscendsFrom (Some k) cs → below (encode_utf8_all k) (map of_change cs) ≡ true
below_ascending k [] h = refl
below_ascending k (c ∷ cs) h = and_from _ _ h.0 (below_ascending k cs (after_less k c.key cs h.0 h.1))

pub rising_ascends : (p : Option (List ℕ)) (cs : List Change) → AscendsFrom p cs → rising (map of_change cs) ≡ true
rising_ascends p [] h = refl
rising_ascends p (c ∷ cs) h = and_from _ _ (below_ascending c.key cs h.1) (rising_ascends (Some c.key) cs h.1)

ascends_after : (k : List ℕ) (cs : List Change) → below (encode_utf8_all k) (map of_change cs) ≡ true → rising (map of_change cs) ≡ true → AscendsFrom (Some k) cs
ascends_after k [] b h = tt
ascends_after k (c ∷ cs) b h =
    let first = and_parts (is_lt (slice_cmp nat_cmp (encode_utf8_all k) (key c))) (below (encode_utf8_all k) (map of_change cs)) b in
    let rest = and_parts (below (key c) (map of_change cs)) (rising (map of_change cs)) h in
    (first.0, ascends_after c.key cs rest.0 rest.1)

pub ascends_rising : (cs : List Change) → rising (map of_change cs) ≡ true → IsAscending cs
ascends_rising [] h = tt
ascends_rising (c ∷ cs) h =
    let rest = and_parts (below (key c) (map of_change cs)) (rising (map of_change cs)) h in
    (refl, ascends_after c.key cs rest.0 rest.1)

-- ---- values

one_of : (b : Bool) (c : KeyChange) (y : Option KeyChange) (z : Option KeyChange) → (b ≡ true → z ≡ None) → or_else z (cond b (Some c) y) ≡ or_else (cond b (Some c) z) y
one_of true c y z h = ap (λ x. or_else x (Some c)) (h refl)
one_of false c y z h = refl

get_added : (cs : List Change) (u : ChangeSet) (q : Key) → rising (map of_change cs) ≡ true → get (with_changes u cs) q ≡ or_else (found q (map of_change cs)) (get u q)
get_added [] u q h = refl
get_added (c ∷ cs) u q h =
    get_added cs (insert u (key c) (key_change c)) q (rising_tail (of_change c) (map of_change cs) h)
    ∙ ap (or_else (found q (map of_change cs))) (get-insert nat_list_cmp_total u (key c) (key_change c) q)
    ∙ one_of (at q (key c)) (key_change c) (get u q) (found q (map of_change cs)) (find_head q (of_change c) (map of_change cs) h)

pub get_with : (cs : List Change) (u : ChangeSet) (q : Key) → IsAscending cs → get (with_changes u cs) q ≡ or_else (get (change_set cs) q) (get u q)
get_with cs u q h =
    let r = rising_ascends None cs h in
    get_added cs u q r ∙ ap (λ x. or_else x (get u q)) (sym (get_added cs none_running q r ∙ ap (or_else (found q (map of_change cs))) (get-empty (slice_cmp nat_cmp) q) ∙ or_none (found q (map of_change cs))))

pub changes_view : (cs : List Change) → IsAscending cs → map_of (map of_change cs) ≡ change_set cs
changes_view cs h =
    let r = rising_ascends None cs h in
    alike _ _ (λ q. get_rising (map of_change cs) q r ∙ sym (get_added cs none_running q r ∙ ap (or_else (found q (map of_change cs))) (get-empty (slice_cmp nat_cmp) q) ∙ or_none (found q (map of_change cs))))

-- ---- texts

texts_found : (es : List Entry) (q : Key) → all_texts es ≡ true → is_text_at q (found q es) ≡ true
texts_found [] q h = refl
texts_found (e ∷ es) q h =
    let parts = and_parts (is_text_change e.0 e.1) (all_texts es) h in
    elim (at q e.0) as (λ b. at q e.0 ≡ b → is_text_at q (cond b (Some e.1) (found q es)) ≡ true) [
      | true ↦ λ t. ap (λ k. is_text_change k e.1) (at-is q e.0 t) ∙ parts.0
      | false ↦ λ t. texts_found es q parts.1
    ] refl

pub texts_push : (es : List Entry) (e : Entry) → all_texts es ≡ true → is_text_change e.0 e.1 ≡ true → all_texts (es ++ e ∷ []) ≡ true
texts_push [] e h t = and_from _ _ t refl
texts_push (x ∷ es) e h t = let parts = and_parts (is_text_change x.0 x.1) (all_texts es) h in and_from _ _ parts.0 (texts_push es e parts.1 t)

pub texts_view : (es : List Entry) → rising es ≡ true → all_texts es ≡ true → AreTexts (map_of es)
texts_view es h t q = ap (is_text_at q) (get_rising es q h) ∙ texts_found es q t

pub encoded : (v : Key) → is_utf8 v ≡ true → encode_utf8_all (chars v) ≡ v
encoded v h = encodes-chars v (IsUtf8-from_is_utf8 v h)

encoded_value : (v : Option Key) → is_text_value v ≡ true → option_map encode_utf8_all (option_map chars v) ≡ v
encoded_value None h = refl
encoded_value (Some v) h = ap Some (encoded v h)

pub key_text : (k : Key) (c : KeyChange) → is_text_change k c ≡ true → is_utf8 k ≡ true
key_text k c h = (and_parts (is_utf8 k) (is_text_value c.old && is_text_value c.new) h).0

written : (k : Key) (c : KeyChange) → is_text_change k c ≡ true → of_change (as_change (k, c)) ≡ (k, c)
written k c h =
    let p = and_parts (is_utf8 k) (is_text_value c.old && is_text_value c.new) h in
    let q = and_parts (is_text_value c.old) (is_text_value c.new) p.1 in
    λ i. (encoded k p.0 i, record { old = encoded_value c.old q.0 i; new = encoded_value c.new q.1 i })

abbrev pub IsText : Key → KeyChange → Type 0
IsText k c = is_text_change k c ≡ true

written_all : (es : List Entry) → Each IsText es → map of_change (map as_change es) ≡ es
written_all [] h = refl
written_all (e ∷ es) h = λ i. written e.0 e.1 h.0 i ∷ written_all es h.1 i

pub texts_of : (u : ChangeSet) → AreTexts u → Each IsText (entries u)
texts_of u t = each_of IsText u (λ q c s. ap (is_text_at q) (sym s) ∙ t q)

pub written_list : (u : ChangeSet) → AreTexts u → map of_change (change_list u) ≡ entries u
written_list u t = written_all (entries u) (texts_of u t)

map_entries : (u : ChangeSet) → map_of (entries u) ≡ u
map_entries u = alike _ _ (λ q. get_rising (entries u) q (rising_entries u) ∙ sym (get-entries u q))

-- a change set of texts is what its list stands for
pub ascending_list : (u : ChangeSet) → AreTexts u → IsAscending (change_list u)
ascending_list u t = ascends_rising (change_list u) (ap rising (written_list u t) ∙ rising_entries u)

pub list_value : (u : ChangeSet) → AreTexts u → change_set (change_list u) ≡ u
list_value u t = sym (changes_view (change_list u) (ascending_list u t)) ∙ ap map_of (written_list u t) ∙ map_entries u
