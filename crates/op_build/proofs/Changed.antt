-- The change of one key, on the annotations of a range and on the attributes of an element.
use Rattle.std.proofs.Common.{◌≡◌, ◌≢◌, ◌≤◌, ◌+◌, ◌-◌, ℕ, arith, length, cond, true, false, List, [], ◌∷◌, ◌++◌, map, refl, sym, ap, subst, ◌∙◌, true≢false, Option, None, Some, option_map, is_some, slice_get}
use Rattle.std.specs.Option.{option_and_then}
use Rattle.std.specs.FinMap.{get, get-empty, get-insert}
use Rattle.std.specs.Ordering.{nat_cmp}
use Rattle.std.specs.Cmp.Lexicographic.{slice_cmp}
use Rattle.std.proofs.lemmas.Bool.{and_from}
use Rattle.std.proofs.lemmas.Cmp.{nat_list_cmp_total, eq_by_cmp_equiv}
use Rattle.doc_items.specs.Maps.{Key, Map, set_key}
use Rattle.doc_items.specs.Changes.{KeyChange, ChangeSet, none_running, fits_old, agrees, put}
use Rattle.doc_items.specs.declared.item.Content.{Content}
use Rattle.doc_items.specs.declared.item.Content.TheVariants.{Character, Start, End}
use Rattle.doc_items.specs.declared.item.Item.{Item}
use Rattle.doc_items.proofs.ChangeSets.{at, at-is, put_next, put_none, agrees_none}
use Rattle.doc_items.proofs.Maps.{matches_all, same_value-refl}
use Rattle.doc_op.specs.Actions.{Action, AttributeChange, Keep, Unchanged, Update}
use Rattle.doc_op.specs.declared.component.Component.{Component}
use Rattle.doc_op.specs.Actions.{actions}
use Rattle.doc_op.specs.Normal.{normal_form}
use Rattle.std.proofs.lemmas.Option.{slice_get_within}
use Rattle.doc_op.specs.Apply.{content_agrees, put_content, keeps, kept, apply}
use Rattle.doc_op.specs.Structure.{Structured}
use Rattle.op_build.specs.Edits.{range, noted, attributes_of, attributes_at, attributed_content, attributed, with_attribute}
use Rattle.op_build.specs.Plans.{around, one_change, annotate_one, attribute_one, setting_attribute, IsEdit}
use Rattle.op_build.proofs.Kept.{content_same, content_fits}
use Rattle.op_build.proofs.Made.{Takes, made}
use Rattle.op_build.proofs.Ranges.{first_in_range}

module _ (key : Key) (value : Option Key) where
  abbrev change : Map Key → KeyChange
  change m = record { old = get m key; new = value }

  change_at : (m : Map Key) (q : Key) → get (one_change key (get m key) value) q ≡ cond (at q key) (Some (change m)) None
  change_at m q = get-insert nat_list_cmp_total none_running key (change m) q ∙ ap (cond (at q key) (Some (change m))) (get-empty (slice_cmp nat_cmp) q)

  old_fits : (m : Map Key) (q : Key) → fits_old (cond (at q key) (Some (change m)) None) (get m q) ≡ true
  old_fits m q = elim (at q key) as (λ b. at q key ≡ b → fits_old (cond b (Some (change m)) None) (get m q) ≡ true) [
    | true ↦ λ t. ap (λ k. fits_old (Some (change m)) (get m k)) (at-is q key t) ∙ same_value-refl (get m key)
    | false ↦ λ t. refl
  ] refl

  change_agrees : (m : Map Key) → agrees (one_change key (get m key) value) m ≡ true
  change_agrees m = matches_all fits_old _ m (λ q. ap (λ o. fits_old o (get m q)) (change_at m q) ∙ old_fits m q)

  change_put : (m : Map Key) → put (one_change key (get m key) value) m ≡ set_key m key value
  change_put m = put_next none_running key (change m) m ∙ ap (λ x. set_key x key value) (put_none m)

  -- ---- annotations

  annotates : (i : Item) → kept (one_change key (get i.notes key) value) Unchanged i ≡ noted key value i
  annotates i = λ k. record { content = content_same i.content k; notes = change_put i.notes k }

  may_annotate : (i : Item) → keeps (one_change key (get i.notes key) value) Unchanged i ≡ true
  may_annotate i = and_from _ _ (change_agrees i.notes) (content_fits i.content)

  -- an item that is kept and becomes another
  one_kept : (u : ChangeSet) (a : AttributeChange) (i new : Item) (o : Option (List Item)) (out : List Item) → keeps u a i ≡ true → kept u a i ≡ new → o ≡ Some out
      → cond (keeps u a i) (option_map (λ xs. kept u a i ∷ xs) o) None ≡ Some (new ∷ out)
  one_kept u a i new o out h n e = ap (λ b. cond b (option_map (λ xs. kept u a i ∷ xs) o) None) h ∙ ap (option_map (λ xs. kept u a i ∷ xs)) e ∙ ap (λ x. Some (x ∷ out)) n

  annotation_makes : (here : List Item) (rest : List Action) (behind out : List Item) → apply rest behind ≡ Some out
      → apply (map (annotate_one key value) here ++ rest) (here ++ behind) ≡ Some (map (noted key value) here ++ out)
  annotation_makes [] rest behind out e = e
  annotation_makes (i ∷ here) rest behind out e =
      one_kept (one_change key (get i.notes key) value) Unchanged i (noted key value i) (apply (map (annotate_one key value) here ++ rest) (here ++ behind)) (map (noted key value) here ++ out)
      (may_annotate i) (annotates i) (annotation_makes here rest behind out e)

  annotation_nests : (here : List Item) (rest : List Action) → Structured rest → Structured (map (annotate_one key value) here ++ rest)
  annotation_nests [] rest s = s
  annotation_nests (i ∷ here) rest s = (refl, refl, annotation_nests here rest s)

  pub annotation_takes : (here : List Item) → Takes (map (annotate_one key value) here) here (map (noted key value) here)
  annotation_takes here = record { makes = annotation_makes here; nests = annotation_nests here }

  -- ---- attributes

  content_attributes : (c : Content) (m : Map Key) → attributes_of c ≡ Some m → content_agrees (Update (one_change key (option_and_then (λ n. get n key) (attributes_of c)) value)) c ≡ true
  content_attributes (Character x) m e = absurd (true≢false (sym (ap is_some e)))
  content_attributes (Start kind n) m e = change_agrees n
  content_attributes End m e = absurd (true≢false (sym (ap is_some e)))

  content_put : (c : Content) (m : Map Key) → attributes_of c ≡ Some m → put_content (Update (one_change key (option_and_then (λ n. get n key) (attributes_of c)) value)) c ≡ attributed_content key value c
  content_put (Character x) m e = refl
  content_put (Start kind n) m e = ap (Start kind) (change_put n)
  content_put End m e = refl

  abbrev update_of : Item → AttributeChange
  update_of i = Update (one_change key (option_and_then (λ n. get n key) (attributes_of i.content)) value)

  sets : (i : Item) (m : Map Key) → attributes_of i.content ≡ Some m → kept none_running (update_of i) i ≡ attributed key value i
  sets i m e = λ k. record { content = content_put i.content m e k; notes = put_none i.notes k }

  may_set : (i : Item) (m : Map Key) → attributes_of i.content ≡ Some m → keeps none_running (update_of i) i ≡ true
  may_set i m e = and_from _ _ (agrees_none i.notes) (content_attributes i.content m e)

  pub attribute_takes : (i : Item) (m : Map Key) → attributes_of i.content ≡ Some m → Takes (attribute_one key value i ∷ []) (i ∷ []) (attributed key value i ∷ [])
  attribute_takes i m e = record {
    makes = λ rest behind out r. one_kept none_running (update_of i) i (attributed key value i) (apply rest behind) out (may_set i m e) (sets i m e) r;
    nests = λ rest s. (refl, refl, s);
  }

pub some_change : (key : Key) (old new : Option Key) (u : ChangeSet) → u ≡ one_change key old new → u ≢ none_running
some_change key old new u is e =
    let change : KeyChange = record { old = old; new = new } in
    let own : get (one_change key old new) key ≡ Some change = get-insert nat_list_cmp_total none_running key change key ∙ ap (λ b. cond b (Some change) (get none_running key)) ((eq_by_cmp_equiv nat_list_cmp_total).refl key) in
    true≢false (sym (ap is_some own) ∙ ap (λ w. is_some (get w key)) (sym is ∙ e) ∙ ap is_some (get-empty (slice_cmp nat_cmp) key))

-- the element's start at a place, as a range
pub record StartAt (items : List Item) (place : ℕ) (m : Map Key) : Type 0 where
  pub item : Item
  pub here : slice_get items place ≡ Some item
  pub attributes : attributes_of item.content ≡ Some m

start_of : (items : List Item) (place : ℕ) (m : Map Key) (o : Option Item) → slice_get items place ≡ o → option_and_then (λ i. attributes_of i.content) o ≡ Some m → StartAt items place m
start_of items place m None h e = absurd (true≢false (sym (ap is_some e)))
start_of items place m (Some i) h e = record { item = i; here = h; attributes = e }

pub start_at : (items : List Item) (place : ℕ) (m : Map Key) → attributes_at items place ≡ Some m → StartAt items place m
start_at items place m e = start_of items place m (slice_get items place) refl e

module _ (items : List Item) (place : ℕ) (m : Map Key) (key : Key) (value : Option Key) (s : StartAt items place m) where
  within : place + 1 ≤ length items
  within = omega (arith, slice_get_within items place s.item s.here)

  alone : range items place 1 ≡ s.item ∷ []
  alone = first_in_range items place 1 s.item (omega arith) s.here

  -- an operation that updates the start is the edit
  pub sets_attribute : (op : List Component) (n : ℕ) (u : ChangeSet) → u ≡ one_change key (get m key) value → n ≡ length items
      → actions op ≡ around place (Keep none_running (Update u) ∷ []) (n - (place + 1)) → op ≡ normal_form (actions op)
      → IsEdit op (setting_attribute items place key value) items (with_attribute items place key value)
  sets_attribute op n u e f is normal =
      let act : Keep none_running (Update u) ∷ [] ≡ map (attribute_one key value) (range items place 1) =
      (λ i. Keep none_running (Update (e i)) ∷ [])
      ∙ ap (λ o. Keep none_running (Update (one_change key (option_and_then (λ n. get n key) o) value)) ∷ []) (sym s.attributes)
      ∙ ap (map (attribute_one key value)) (sym alone) in
      made items place 1 (map (attribute_one key value) (range items place 1)) (map (attributed key value) (range items place 1)) op within
      (subst (λ here. Takes (map (attribute_one key value) here) here (map (attributed key value) here)) (sym alone) (attribute_takes key value s.item m s.attributes))
      (is ∙ (λ i. around place (act i) (f i - (place + 1)))) normal
