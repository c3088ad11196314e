-- How the change set that contracts see follows the changes that are stored.
--     get-table                  a look-up
--     put-table, remove-table    a change of one key
--     viewed_table               the entries, in order, stand for the change set
--     empty_table                where there are none, it is empty
use Rattle.std.proofs.Common.{◌≡◌, arith, length, Bool, true, false, cond, List, [], ◌∷◌, ◌++◌, refl, sym, ap, subst, ◌∙◌, map, append-nil, Option, None, Some, option_map, string_bytes, String, BTreeMap}
use Rattle.std.specs.Ordering.{nat_cmp, is_lt, eq_by_cmp}
use Rattle.std.specs.Cmp.Lexicographic.{slice_cmp}
use Rattle.std.specs.List.Sorted.{IsStrictlySortedBy}
use Rattle.std.proofs.lemmas.Bool.{and_from}
use Rattle.std.specs.String.{string_cmp}
use Rattle.std.specs.Str.{bytes_eq}
use Rattle.std.specs.Map.{keys_of}
use Rattle.std.specs.BTreeMap as tree
use Rattle.std.specs.Global.{Global}
use Rattle.std.proofs.lemmas.Cmp.{nat_list_cmp_total}
use Rattle.std.proofs.lemmas.Map.Text.{is_eq-slice_cmp, btree_map_updates_text}
use Rattle.std.specs.FinMap as finite
use Rattle.doc_items.specs.Maps.{Key}
use Rattle.doc_items.specs.Changes.{KeyChange, key_change}
use Rattle.doc_items.specs.declared.change.Change.{Change}
use Rattle.doc_items.proofs.Maps.{alike}
use Rattle.doc_items.proofs.Views.{get-strings}
use Rattle.change_view.specs.Texts.{AreTexts}
use Rattle.change_view.specs.Lists.{Entry, rises, all_texts}
use Rattle.change_view.proofs.Owned.{texts_view}
use Rattle.change_view.proofs.Views.{IsViewOf}
use Rattle.change_view.proofs.Rising.{rising, found, map_of, get_rising, below_rising, at_symm}
use Rattle.change_view.proofs.Single.{find_mapped}
use Rattle.change_table.specs.Tables.{stored_entry, table_of}

-- ---- at one key

abbrev by_text : String Global × Change → Key × Change
by_text e = (string_bytes e.0, e.1)

abbrev changed_value : Key × Change → Key × KeyChange
changed_value e = (e.0, key_change e.1)

by_bytes : (es : List (String Global × Change)) → map stored_entry es ≡ map changed_value (map by_text es)
by_bytes [] = refl
by_bytes (e ∷ es) = ap (λ xs. stored_entry e ∷ xs) (by_bytes es)

pub get-table : (m : BTreeMap (String Global) Change) (q : Key) → finite.get (table_of m.entries) q ≡ option_map key_change (tree.get_by_text m q)
get-table m q =
    finite.get-from_entries nat_list_cmp_total (map stored_entry m.entries) q ∙ ap (found q) (by_bytes m.entries)
    ∙ find_mapped (λ e. key_change e.1) q (map by_text m.entries)
    ∙ ap (option_map key_change) (sym (finite.get-from_entries nat_list_cmp_total (map by_text m.entries) q) ∙ get-strings m q)

mapped_cond : (b : Bool) (w x : Option Change) → option_map key_change (cond b w x) ≡ cond b (option_map key_change w) (option_map key_change x)
mapped_cond true w x = refl
mapped_cond false w x = refl

same_test : (bs q : Key) → bytes_eq bs q ≡ eq_by_cmp (slice_cmp nat_cmp) q bs
same_test bs q = sym (at_symm q bs ∙ is_eq-slice_cmp bs q)

get-changed : (bs : Key) (m n : BTreeMap (String Global) Change) (w : Option Change) → tree.UpdatesBy string_cmp (λ k. slice_cmp nat_cmp bs (string_bytes k)) m n w → (q : Key)
    → finite.get (table_of n.entries) q ≡ cond (eq_by_cmp (slice_cmp nat_cmp) q bs) (option_map key_change w) (finite.get (table_of m.entries) q)
get-changed bs m n w h q =
    get-table n q ∙ ap (option_map key_change) (btree_map_updates_text bs m n w h q) ∙ mapped_cond (bytes_eq bs q) w (tree.get_by_text m q)
    ∙ (λ i. cond (same_test bs q i) (option_map key_change w) (sym (get-table m q) i))

pub put-table : (bs : Key) (m n : BTreeMap (String Global) Change) (c : Change) → tree.UpdatesBy string_cmp (λ k. slice_cmp nat_cmp bs (string_bytes k)) m n (Some c)
    → table_of n.entries ≡ finite.insert (table_of m.entries) bs (key_change c)
put-table bs m n c h = alike _ _ (λ q. get-changed bs m n (Some c) h q ∙ sym (finite.get-insert nat_list_cmp_total (table_of m.entries) bs (key_change c) q))

pub remove-table : (bs : Key) (m n : BTreeMap (String Global) Change) → tree.UpdatesBy string_cmp (λ k. slice_cmp nat_cmp bs (string_bytes k)) m n None
    → table_of n.entries ≡ finite.remove (table_of m.entries) bs
remove-table bs m n h = alike _ _ (λ q. get-changed bs m n None h q ∙ sym (finite.get-remove nat_list_cmp_total (table_of m.entries) bs q))

-- ---- in order

rising_stored : (es : List (String Global × Change)) → IsStrictlySortedBy string_cmp (keys_of es) → rising (map stored_entry es) ≡ true
unfolding IsStrictlySortedBy
rising_stored [] h = refl
rising_stored (e ∷ []) h = refl
rising_stored (e ∷ f ∷ es) h =
    let rest = rising_stored (f ∷ es) h.1 in
    and_from _ _ (below_rising (string_bytes e.0) (stored_entry f) (map stored_entry es) (ap is_lt h.0.0) rest) rest

listed : (es : List (String Global × Change)) → IsStrictlySortedBy string_cmp (keys_of es) → map_of (map stored_entry es) ≡ table_of es
listed es h = alike _ _ (λ q. get_rising (map stored_entry es) q (rising_stored es h) ∙ sym (finite.get-from_entries nat_list_cmp_total (map stored_entry es) q))

pub viewed_table : (ds : List Entry) (rest es : List (String Global × Change)) → IsStrictlySortedBy string_cmp (keys_of es) → rest ≡ [] → ds ++ map stored_entry rest ≡ map stored_entry es → all_texts ds ≡ true
    → IsViewOf ds (table_of es)
viewed_table ds rest es h n s t =
    let same : ds ≡ map stored_entry es = sym (append-nil ds) ∙ ap (λ xs. ds ++ map stored_entry xs) (sym n) ∙ s in
    let up : rises ds ≡ true = ap rises same ∙ rising_stored es h in
    let value : map_of ds ≡ table_of es = ap map_of same ∙ listed es h in
    record { rising = up; texts = subst AreTexts value (texts_view ds up t); value = value }

pub empty_table : (es : List (String Global × Change)) → length es ≡ 0 → finite.empty ≡ table_of es
empty_table [] e = refl
empty_table (x ∷ es) e = absurd (omega (arith, e))
