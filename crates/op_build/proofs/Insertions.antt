-- New items at a place.
use Rattle.std.proofs.Common.{◌≡◌, ◌≤◌, ◌-◌, ℕ, zero, suc, ◌≢◌, List, [], ◌∷◌, ◌++◌, length, map, refl, sym, ap, subst, ◌∙◌, arith, Option, None, Some, option_map, option_and_then, slice_get}
use Rattle.std.specs.FinMap.{get, empty, get-empty}
use Rattle.std.specs.Ordering.{nat_cmp}
use Rattle.std.specs.Cmp.Lexicographic.{slice_cmp}
use Rattle.doc_items.specs.Balance.{level, BalancedFrom, Balanced}
use Rattle.doc_items.specs.Changes.{KeyChange, ChangeSet, none_running}
use Rattle.doc_items.specs.Maps.{Key, Map}
use Rattle.doc_items.specs.declared.item.Content.{Content}
use Rattle.doc_items.specs.declared.item.Content.TheVariants.{Character}
use Rattle.doc_items.specs.declared.item.Item.{Item}
use Rattle.doc_items.proofs.Maps.{alike, get-each, get-picked}
use Rattle.change_view.specs.Sets.{fresh, from_absent}
use Rattle.doc_op.specs.declared.component.Component.{Component}
use Rattle.doc_op.specs.Actions.{Action, Ins, new_values, insertion, actions}
use Rattle.doc_op.specs.Apply.{apply}
use Rattle.doc_op.specs.Normal.{normal_form}
use Rattle.doc_op.specs.Structure.{StructuredFrom, Structured}
use Rattle.op_build.specs.Edits.{notes_of, left_notes, with_notes, replaced}
use Rattle.op_build.specs.Plans.{around, plan, IsEdit}
use Rattle.op_build.proofs.Made.{Takes, made}

new_one : (v : Option Key) → option_and_then (λ (c : KeyChange). c.new) (option_map fresh v) ≡ v
new_one None = refl
new_one (Some v) = refl

new_values_back : (m : Map Key) → new_values (from_absent m) ≡ m
new_values_back m = alike _ _ (λ q. get-picked (λ (c : KeyChange). c.new) (from_absent m) q ∙ ap (option_and_then (λ (c : KeyChange). c.new)) (get-each fresh m q) ∙ new_one (get m q))

pub inserted_items : (m : Map Key) (contents : List Content) → map (insertion (from_absent m)) contents ≡ map Ins (with_notes m contents)
inserted_items m [] = refl
inserted_items m (c ∷ cs) = λ i. Ins (record { content = c; notes = new_values_back m i }) ∷ inserted_items m cs i

insertion_makes : (new : List Item) (rest : List Action) (behind out : List Item) → apply rest behind ≡ Some out → apply (map Ins new ++ rest) behind ≡ Some (new ++ out)
insertion_makes [] rest behind out e = e
insertion_makes (x ∷ new) rest behind out e = ap (option_map (λ o. x ∷ o)) (insertion_makes new rest behind out e)

insertion_nests : (n : ℕ) (new : List Item) (rest : List Action) → BalancedFrom n new → Structured rest → StructuredFrom n 0 (map Ins new ++ rest)
insertion_nests n [] rest b s = subst (λ k. StructuredFrom k 0 rest) (sym b) s
insertion_nests n (x ∷ new) rest b s = (refl, b.0, insertion_nests (level x.content n) new rest b.1 s)

pub insertion_takes : (new : List Item) → Balanced new → Takes (map Ins new) [] new
insertion_takes new b = record { makes = insertion_makes new; nests = λ rest s. insertion_nests 0 new rest b s }

pub text_balanced : (m : Map Key) (text : List ℕ) → Balanced (with_notes m (map Character text))
text_balanced m [] = refl
text_balanced m (c ∷ text) = (tt, text_balanced m text)

-- an operation that inserts with these annotations is the edit
pub inserts_with : (op : List Component) (items : List Item) (place n : ℕ) (contents : List Content) (u : ChangeSet) (m : Map Key) → u ≡ from_absent m → n ≡ length items
    → place ≤ length items → Balanced (with_notes m contents)
    → actions op ≡ around place (map (insertion u) contents) (n - place) → op ≡ normal_form (actions op)
    → IsEdit op (plan items place 0 (map Ins (with_notes m contents))) items (replaced items place 0 (with_notes m contents))
inserts_with op items place n contents u m e f h b is normal =
    let new = with_notes m contents in
    made items place 0 (map Ins new) new op (omega (arith, h)) (insertion_takes new b)
    (is ∙ (λ i. around place (map (insertion (e i)) contents) (f i - place)) ∙ ap (λ a. around place a (length items - place)) (inserted_items m contents)
    ∙ ap (around place (map Ins new)) (omega arith))
    normal

-- one that inserts with the annotations left of the place
pub inserts : (op : List Component) (items : List Item) (place n : ℕ) (contents : List Content) (u : ChangeSet) → u ≡ from_absent (left_notes items place) → n ≡ length items
    → place ≤ length items → Balanced (with_notes (left_notes items place) contents)
    → actions op ≡ around place (map (insertion u) contents) (n - place) → op ≡ normal_form (actions op)
    → IsEdit op (plan items place 0 (map Ins (with_notes (left_notes items place) contents))) items (replaced items place 0 (with_notes (left_notes items place) contents))
inserts op items place n contents u e f h b is normal = inserts_with op items place n contents u (left_notes items place) e f h b is normal

-- ---- the annotations left of a place

pub no_notes : (u : ChangeSet) → u ≡ none_running → u ≡ from_absent empty
no_notes u e = e ∙ alike _ _ (λ q. get-empty (slice_cmp nat_cmp) q ∙ sym (get-each fresh empty q ∙ ap (option_map fresh) (get-empty (slice_cmp nat_cmp) q)))

pub nothing_left : (items : List Item) (place : ℕ) (u : ChangeSet) → u ≡ none_running → place ≡ 0 → u ≡ from_absent (left_notes items place)
nothing_left items place u e z = no_notes u e ∙ ap (λ p. from_absent (left_notes items p)) (sym z)

pub none_left : (items : List Item) (place : ℕ) (u : ChangeSet) → u ≡ none_running → place ≢ 0 → slice_get items (place - 1) ≡ None → u ≡ from_absent (left_notes items place)
none_left items zero u e z n = absurd (z refl)
none_left items (suc k) u e z n =
    let same : suc k - 1 ≡ k = omega arith in
    no_notes u e ∙ ap (λ o. from_absent (notes_of o)) (sym n ∙ ap (slice_get items) same)
