-- What is written is read back.
--     list_back            a list, item by item
--     attributes_back      attributes, whose entries are inserted in order
--     optional_back, change_back, boundary_back, element_back     what the members of components hold
--     text_component, element_component, replaced_component, update_component, boundary_component     components
--     op_back              the components that a builder took
use Rattle.std.proofs.Common.{Ordering, Less, Equal, Greater, ◌≡◌, ℕ, ◌+◌, Bool, true, false, cond, ◌&&◌, if◌then◌else◌, T, List, [], ◌∷◌, ◌++◌, map, refl, sym, ap, subst, ◌∙◌, append-nil, append_assoc, Option, None, Some, is_none, unwrap_or, Result, Ok, Err, codes}
use Rattle.std.specs.Option.{option_map, option_and_then}
use Rattle.std.specs.Ordering.{nat_cmp, eq_by_cmp, is_lt, is_eq}
use Rattle.std.specs.Cmp.Lexicographic.{slice_cmp}
use Rattle.std.specs.Str.{chars}
use Rattle.std.specs.FinMap as finite
use Rattle.std.proofs.lemmas.Cmp.{nat_list_cmp_total}
use Rattle.std.proofs.lemmas.Bool.{and_parts, and_from}
use Rattle.serde_json.specs.Data.{Data, string}
use Rattle.serde_json.specs.View.{items_of}
use Rattle.doc_items.specs.Maps.{Key, Map}
use Rattle.doc_items.proofs.Rising.{Rising, entries_rise, rest_rises, next_above, insert_all, all_inserted}
use Rattle.doc_items.specs.declared.change.Change.{Change}
use Rattle.doc_items.specs.declared.change.Boundary.{Boundary}
use Rattle.doc_op.specs.declared.component.Component.{Component}
use Rattle.doc_op.specs.declared.component.Component.TheVariants.{Characters, DeleteCharacters, ElementStart, DeleteElementStart, ReplaceAttributes, UpdateAttributes, AnnotationBoundary}
use Rattle.doc_op.specs.Refusals.{refusal, takes, BuiltFrom, IsBuilt}
use Rattle.op_json.specs.Read.{text_of, optional_text_of, list_from, entry_of, attributes_from, attributes_of, change_of, changes_of, keys_of, boundary_of, element_of, replaced_of, component_of, if_taken, operation_from, operation_of}
use Rattle.op_json.specs.Write.{text_data, optional_data, list_data, entry_data, attributes_data, change_data, boundary_data, element_data, replaced_data, component_data, op_data}
use Rattle.op_json.specs.Back.{IsReadBack, AreReadBack}

-- ---- lists

module _ {X : Type 0} (read : Data → Option X) (write : X → Data) where
  heads : (x : X) (xs : List X) → AreReadBack read write (x ∷ xs) → IsReadBack read write x
  heads x xs h = ap (λ l. elim l [ [] ↦ None | y ∷ ys ↦ y ]) h

  tails : (x : X) (xs : List X) → AreReadBack read write (x ∷ xs) → AreReadBack read write xs
  tails x xs h = ap (λ l. elim l [ [] ↦ [] | y ∷ ys ↦ ys ]) h

  pub list_back : (found xs : List X) → AreReadBack read write xs → list_from read found (items_of (map write xs)) ≡ Some (found ++ xs)
  list_back found [] h = ap Some (sym (append-nil found))
  list_back found (x ∷ xs) h =
      ap (option_and_then (λ y. list_from read (found ++ y ∷ []) (items_of (map write xs)))) (heads x xs h)
      ∙ list_back (found ++ x ∷ []) xs (tails x xs h)
      ∙ ap Some (append_assoc found (x ∷ []) xs)

-- ---- attributes

-- after this entry
entries_from : (m : Map Key) (e : Key × Key) (es : List (Key × Key)) → Rising (e ∷ es) → attributes_from m (Some e.0) (items_of (map entry_data es)) ≡ Some (insert_all m es)
entries_from m e [] h = refl
entries_from m e (f ∷ es) h =
    ap (λ b. if b then attributes_from (finite.insert m f.0 f.1) (Some f.0) (items_of (map entry_data es)) else None) (next_above e f es h)
    ∙ entries_from (finite.insert m f.0 f.1) f es (rest_rises e (f ∷ es) h)

entries_back : (es : List (Key × Key)) → Rising es → attributes_from finite.empty None (items_of (map entry_data es)) ≡ Some (insert_all finite.empty es)
entries_back [] h = refl
entries_back (e ∷ es) h = entries_from (finite.insert finite.empty e.0 e.1) e es h

attributes_back : (m : Map Key) → attributes_of (attributes_data m) ≡ Some m
attributes_back m = entries_back (finite.entries m) (entries_rise m) ∙ ap Some (all_inserted m)

-- ---- what the members hold

changes_back : (cs : List Change) → AreReadBack change_of change_data cs → changes_of (list_data change_data cs) ≡ Some cs
changes_back cs h = list_back change_of change_data [] cs h

keys_back : (ks : List (List ℕ)) → AreReadBack text_of text_data ks → keys_of (list_data text_data ks) ≡ Some ks
keys_back ks h = list_back text_of text_data [] ks h

pub optional_back : (t : List ℕ) → IsReadBack text_of text_data t → IsReadBack optional_text_of optional_data (Some t)
optional_back t h = ap (option_map Some) h

pub change_back : (c : Change) → IsReadBack text_of text_data c.key → IsReadBack optional_text_of optional_data c.old → IsReadBack optional_text_of optional_data c.new → IsReadBack change_of change_data c
change_back c h k l = λ i. option_and_then (λ key. option_and_then (λ old. option_map (λ new. record { key = key; old = old; new = new }) (l i)) (k i)) (h i)

pub boundary_back : (b : Boundary) → AreReadBack text_of text_data b.end → AreReadBack change_of change_data b.change → IsReadBack boundary_of boundary_data b
boundary_back b h k = λ i. option_and_then (λ end. option_map (λ change. record { end = end; change = change }) (changes_back b.change k i)) (keys_back b.end h i)

pub element_back : (kind : List ℕ) (m : Map Key) → IsReadBack text_of text_data kind → element_of (element_data kind m) ≡ Some (kind, m)
element_back kind m h = λ i. option_and_then (λ kind. option_map (λ attributes. (kind, attributes)) (attributes_back m i)) (h i)

replaced_back : (old new : Map Key) → replaced_of (replaced_data old new) ≡ Some (old, new)
replaced_back old new = λ i. option_and_then (λ old. option_map (λ new. (old, new)) (attributes_back new i)) (attributes_back old i)

-- ---- operations

pub text_component : (t : List ℕ) → IsReadBack text_of text_data t
    → IsReadBack component_of component_data (Characters t) × IsReadBack component_of component_data (DeleteCharacters t)
text_component t h = (ap (option_map Characters) h, ap (option_map DeleteCharacters) h)

pub element_component : (kind : List ℕ) (m : Map Key) → element_of (element_data kind m) ≡ Some (kind, m)
    → IsReadBack component_of component_data (ElementStart kind m) × IsReadBack component_of component_data (DeleteElementStart kind m)
element_component kind m h = (ap (option_map (λ e. ElementStart e.0 e.1)) h, ap (option_map (λ e. DeleteElementStart e.0 e.1)) h)

pub replaced_component : (old new : Map Key) → IsReadBack component_of component_data (ReplaceAttributes old new)
replaced_component old new = ap (option_map (λ r. ReplaceAttributes r.0 r.1)) (replaced_back old new)

pub update_component : (cs : List Change) → AreReadBack change_of change_data cs → IsReadBack component_of component_data (UpdateAttributes cs)
update_component cs h = ap (option_map UpdateAttributes) (changes_back cs h)

pub boundary_component : (b : Boundary) → IsReadBack boundary_of boundary_data b → IsReadBack component_of component_data (AnnotationBoundary b)
boundary_component b h = ap (option_map AnnotationBoundary) h

is_taken : (done : List Component) (c : Component) → refusal done c ≡ None → takes done c ≡ true
is_taken done c h = ap is_none h

op_from : (index : ℕ) (done cs : List Component) → AreReadBack component_of component_data cs → BuiltFrom done cs → operation_from index done (items_of (map component_data cs)) ≡ Ok (done ++ cs)
op_from index done [] h b = ap Ok (sym (append-nil done))
op_from index done (c ∷ cs) h b =
    ap (if_taken index done (λ c. operation_from (index + 1) (done ++ c ∷ []) (items_of (map component_data cs)))) (heads component_of component_data c cs h)
    ∙ ap (λ t. if t then operation_from (index + 1) (done ++ c ∷ []) (items_of (map component_data cs)) else Err index) (is_taken done c b.0)
    ∙ op_from (index + 1) (done ++ c ∷ []) cs (tails component_of component_data c cs h) b.1
    ∙ ap Ok (append_assoc done (c ∷ []) cs)

pub op_back : (cs : List Component) → AreReadBack component_of component_data cs → IsBuilt cs → operation_of (op_data cs) ≡ Ok cs
op_back cs h b = op_from 0 [] cs h b
