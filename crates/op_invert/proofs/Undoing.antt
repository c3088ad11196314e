-- The inverse undoes the operation.
--     inverse_applies          it applies to what the operation gives, and gives the document back
--     inverse_structured       it is structured where the operation is
--     inverse_undoes           so of components
--     inverse_twice            the inverse of the inverse
--     twice_same, twice_normal     where it is the operation
use Rattle.std.proofs.Common.{◌≡◌, ◌↔◌, ℕ, true, cond, List, [], ◌∷◌, refl, sym, ap, subst, ◌∙◌, Option, None, Some, is_none}
use Rattle.std.specs.Option.{option_map}
use Rattle.std.proofs.lemmas.Bool.{and_parts}
use Rattle.doc_items.specs.Balance.{level, Closes}
use Rattle.doc_items.specs.Changes.{back}
use Rattle.doc_items.specs.declared.item.Content.{Content}
use Rattle.doc_items.specs.declared.item.Item.{Item}
use Rattle.doc_op.specs.declared.component.Component.{Component}
use Rattle.doc_op.specs.Actions.{Action, Keep, Ins, Del, Names, actions}
use Rattle.doc_op.specs.Apply.{keeps, kept, fits, names_of, apply, valid}
use Rattle.doc_op.specs.Normal.{normal_form}
use Rattle.doc_op.specs.Structure.{StructuredFrom, Structured, first_break}
use Rattle.doc_op.proofs.Applying.{no_value, same_Some, mapped, passed, same_content-is}
use Rattle.doc_op.proofs.Structures.{unbroken_is_structured, structured_is_unbroken}
use Rattle.op_compose.specs.Chains.{attributes_back}
use Rattle.op_transform.proofs.Items.{delete_all-fits}
use Rattle.op_validity.proofs.Ways.{valid_is}
use Rattle.op_invert.specs.Inverse.{inverse, fully_named, NamesAll}
use Rattle.op_invert.proofs.Turning.{back_back, attributes_back_back, keeps_back, kept_back}

pub inverse_applies : (acts : List Action) (items out : List Item) → apply acts items ≡ Some out → apply (inverse acts items) out ≡ Some items
inverse_applies [] [] out is = ap (apply []) (sym (same_Some is))
inverse_applies [] (i ∷ items) out is = no_value is
inverse_applies (Ins x ∷ more) items out is =
    let m = mapped (λ (o : List Item). x ∷ o) (apply more items) out is in
    subst (λ (o : List Item). apply (inverse (Ins x ∷ more) items) o ≡ Some items) m.gives
    (ap (λ b. cond b (apply (inverse more items) m.value) None) (delete_all-fits x) ∙ inverse_applies more items m.value m.had)
inverse_applies (Keep c a ∷ more) [] out is = no_value is
inverse_applies (Keep c a ∷ more) (i ∷ items) out is =
    let t = passed (keeps c a i) _ out is in
    let m = mapped (λ (o : List Item). kept c a i ∷ o) (apply more items) out t.rest in
    let put_back = λ (o : List Item). kept (back c) (attributes_back a) (kept c a i) ∷ o in
    subst (λ (o : List Item). apply (inverse (Keep c a ∷ more) (i ∷ items)) o ≡ Some (i ∷ items)) m.gives
    (ap (λ b. cond b (option_map put_back (apply (inverse more items) m.value)) None) (keeps_back c a i t.test)
    ∙ ap (option_map put_back) (inverse_applies more items m.value m.had)
    ∙ ap (λ (x : Item). Some (x ∷ items)) (kept_back c a i t.test))
inverse_applies (Del c n ∷ more) [] out is = no_value is
inverse_applies (Del c n ∷ more) (i ∷ items) out is =
    ap (option_map (λ (o : List Item). i ∷ o)) (inverse_applies more items out (passed (fits c n i) _ out is).rest)

-- ---- structure

-- a deletion takes an item of its content
pub same_item : (c : Content) (n : Names) (i : Item) → fits c n i ≡ true → c ≡ i.content
same_item c n i e = same_content-is c i.content (and_parts _ _ e).0

nests : (acts : List Action) (items out : List Item) (i d : ℕ) → apply acts items ≡ Some out → StructuredFrom i d acts → StructuredFrom d i (inverse acts items)
nests [] [] out i d is h = (h.1, h.0)
nests [] (y ∷ items) out i d is h = no_value is
nests (Ins x ∷ more) items out i d is h =
    let m = mapped (λ (o : List Item). x ∷ o) (apply more items) out is in
    (h.0, h.1, nests more items m.value (level x.content i) d m.had h.2)
nests (Keep c a ∷ more) [] out i d is h = no_value is
nests (Keep c a ∷ more) (y ∷ items) out i d is h =
    let t = passed (keeps c a y) _ out is in
    let m = mapped (λ (o : List Item). kept c a y ∷ o) (apply more items) out t.rest in
    (h.1, h.0, nests more items m.value i d m.had h.2)
nests (Del c n ∷ more) [] out i d is h = no_value is
nests (Del c n ∷ more) (y ∷ items) out i d is h =
    let t = passed (fits c n y) _ out is in
    let same = same_item c n y t.test in (
      h.0,
      subst (λ (z : Content). Closes z d) same h.1,
      subst (λ (z : Content). StructuredFrom (level z d) i (inverse more items)) same (nests more items out i (level c d) t.rest h.2),
    )

pub inverse_structured : (acts : List Action) (items out : List Item) → apply acts items ≡ Some out → Structured acts → Structured (inverse acts items)
inverse_structured acts items out is h = nests acts items out 0 0 is h

-- ---- components

unbroken : (o : Option ℕ) → is_none o ≡ true → o ≡ None
unbroken None e = refl
unbroken (Some n) e = absurd (cc)

pub inverse_undoes : (cs inv : List Component) (items out : List Item) → actions inv ≡ inverse (actions cs) items → valid cs items ≡ Some out → valid inv out ≡ Some items
inverse_undoes cs inv items out e v =
    let p = passed (is_none (first_break cs)) (apply (actions cs) items) out v in
    let structured = unbroken_is_structured cs (unbroken (first_break cs) p.test) in
    valid_is inv out items
    (structured_is_unbroken inv (subst Structured (sym e) (inverse_structured (actions cs) items out p.rest structured)))
    (ap (λ (acts : List Action). apply acts out) e ∙ inverse_applies (actions cs) items out p.rest)

-- ---- twice

pub inverse_twice : (acts : List Action) (items out : List Item) → apply acts items ≡ Some out → inverse (inverse acts items) out ≡ fully_named acts items
inverse_twice [] [] out is = refl
inverse_twice [] (i ∷ items) out is = no_value is
inverse_twice (Ins x ∷ more) items out is =
    let m = mapped (λ (o : List Item). x ∷ o) (apply more items) out is in
    subst (λ (o : List Item). inverse (inverse (Ins x ∷ more) items) o ≡ fully_named (Ins x ∷ more) items) m.gives
    (ap (λ (acts : List Action). Ins x ∷ acts) (inverse_twice more items m.value m.had))
inverse_twice (Keep c a ∷ more) [] out is = no_value is
inverse_twice (Keep c a ∷ more) (i ∷ items) out is =
    let t = passed (keeps c a i) _ out is in
    let m = mapped (λ (o : List Item). kept c a i ∷ o) (apply more items) out t.rest in
    subst (λ (o : List Item). inverse (inverse (Keep c a ∷ more) (i ∷ items)) o ≡ fully_named (Keep c a ∷ more) (i ∷ items)) m.gives
    (λ j. Keep (back_back c j) (attributes_back_back a j) ∷ inverse_twice more items m.value m.had j)
inverse_twice (Del c n ∷ more) [] out is = no_value is
inverse_twice (Del c n ∷ more) (i ∷ items) out is =
    let t = passed (fits c n i) _ out is in
    λ j. Del (sym (same_item c n i t.test) j) (names_of i.notes) ∷ inverse_twice more items out t.rest j

-- two actions in front of others are equal
record SameFront (a : Action) (acts : List Action) (b : Action) (more : List Action) : Type 0 where
  first : a ≡ b
  rest : acts ≡ more

same_front : (a : Action) (acts : List Action) (b : Action) (more : List Action) → a ∷ acts ≡ b ∷ more → SameFront a acts b more
same_front a acts b more e = record { first = cc; rest = cc }

same_names : (c : Content) (n o : Names) → Del c n ≡ Del c o → n ≡ o
same_names c n o e = cc

names_if : (acts : List Action) (items out : List Item) → apply acts items ≡ Some out → fully_named acts items ≡ acts → NamesAll acts items
names_if [] items out is e = tt
names_if (Ins x ∷ more) items out is e =
    let m = mapped (λ (o : List Item). x ∷ o) (apply more items) out is in
    names_if more items m.value m.had (same_front (Ins x) (fully_named more items) (Ins x) more e).rest
names_if (Keep c a ∷ more) [] out is e = no_value is
names_if (Keep c a ∷ more) (i ∷ items) out is e =
    let t = passed (keeps c a i) _ out is in
    let m = mapped (λ (o : List Item). kept c a i ∷ o) (apply more items) out t.rest in
    names_if more items m.value m.had (same_front (Keep c a) (fully_named more items) (Keep c a) more e).rest
names_if (Del c n ∷ more) [] out is e = no_value is
names_if (Del c n ∷ more) (i ∷ items) out is e =
    let f = same_front (Del c (names_of i.notes)) (fully_named more items) (Del c n) more e in
    (sym (same_names c (names_of i.notes) n f.first), names_if more items out (passed (fits c n i) _ out is).rest f.rest)

if_names : (acts : List Action) (items out : List Item) → apply acts items ≡ Some out → NamesAll acts items → fully_named acts items ≡ acts
if_names [] items out is h = refl
if_names (Ins x ∷ more) items out is h =
    let m = mapped (λ (o : List Item). x ∷ o) (apply more items) out is in
    ap (λ (acts : List Action). Ins x ∷ acts) (if_names more items m.value m.had h)
if_names (Keep c a ∷ more) [] out is h = no_value is
if_names (Keep c a ∷ more) (i ∷ items) out is h =
    let t = passed (keeps c a i) _ out is in
    let m = mapped (λ (o : List Item). kept c a i ∷ o) (apply more items) out t.rest in
    ap (λ (acts : List Action). Keep c a ∷ acts) (if_names more items m.value m.had h)
if_names (Del c n ∷ more) [] out is h = no_value is
if_names (Del c n ∷ more) (i ∷ items) out is h = λ j. Del c (sym h.0 j) ∷ if_names more items out (passed (fits c n i) _ out is).rest h.1 j

pub twice_same : (acts : List Action) (items out : List Item) → apply acts items ≡ Some out → (fully_named acts items ≡ acts) ↔ NamesAll acts items
twice_same acts items out is = (names_if acts items out is, if_names acts items out is)

pub twice_normal : (cs : List Component) (items out : List Item) → apply (actions cs) items ≡ Some out → cs ≡ normal_form (actions cs) → NamesAll (actions cs) items → normal_form (inverse (inverse (actions cs) items) out) ≡ cs
twice_normal cs items out is e h = ap normal_form (inverse_twice (actions cs) items out is ∙ if_names (actions cs) items out is h) ∙ sym e
