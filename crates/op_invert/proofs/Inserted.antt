-- Items that are inserted as they are.
--     item_put                          an item is inserted as it is
--     front_put, rest_put, all_put      the first items, and then those after them
use Rattle.std.proofs.Common.{◌≡◌, ℕ, true, ◌+◌, ◌<◌, ◌≤◌, List, [], ◌∷◌, ◌++◌, length, map, take, drop, get_or, refl, sym, ap, ◌∙◌, arith, append_assoc, append-nil, Option, None, Some, option_map, option_and_then}
use Rattle.std.proofs.lemmas.List.{map-append, take_more, take-append-drop, length_push, length-take-le, length-drop}
use Rattle.std.specs.FinMap.{get}
use Rattle.doc_items.specs.Limits.{max_count}
use Rattle.doc_items.specs.Maps.{Key, Map, same_values}
use Rattle.doc_items.specs.Changes.{KeyChange, ChangeSet}
use Rattle.doc_items.specs.declared.item.Content.{Content}
use Rattle.doc_items.specs.declared.item.Content.TheVariants.{Character}
use Rattle.doc_items.specs.declared.item.Item.{Item}
use Rattle.doc_items.proofs.Maps.{alike, get-each, get-picked, same_values-is}
use Rattle.change_view.specs.Sets.{fresh, from_absent}
use Rattle.doc_op.specs.Actions.{Action, Ins, new_values, insertion}
use Rattle.doc_op.specs.Lengths.{output_len}
use Rattle.doc_op.proofs.Lengths.{output_len-append}
use Rattle.doc_pack.specs.Characters.{character_item, character_items, AreCharacters}
use Rattle.op_invert.proofs.Lengths.{output_of_items}

-- ---- as actions

new_one : (v : Option Key) → option_and_then (λ (c : KeyChange). c.new) (option_map fresh v) ≡ v
new_one None = refl
new_one (Some v) = refl

new_values_back : (m : Map Key) → new_values (from_absent m) ≡ m
new_values_back m = alike _ _ (λ q. get-picked (λ (c : KeyChange). c.new) (from_absent m) q ∙ ap (option_and_then (λ (c : KeyChange). c.new)) (get-each fresh m q) ∙ new_one (get m q))

pub item_put : (out new : List Action) (u : ChangeSet) (x : Item) (c : Content) → u ≡ from_absent x.notes → x.content ≡ c → new ≡ out ++ map (insertion u) (c ∷ []) → new ≡ out ++ Ins x ∷ []
item_put out new u x c e f h = h
    ∙ ap (λ (v : ChangeSet). out ++ map (insertion v) (c ∷ [])) e
    ∙ ap (λ (m : Map Key). out ++ Ins (record { content = c; notes = m }) ∷ []) (new_values_back x.notes)
    ∙ ap (λ (d : Content). out ++ Ins (record { content = d; notes = x.notes }) ∷ []) (sym f)

inserted_characters : (m : Map Key) (text : List ℕ) → map (insertion (from_absent m)) (map Character text) ≡ map Ins (character_items m text)
inserted_characters m [] = refl
inserted_characters m (c ∷ text) = λ i. Ins (record { content = Character c; notes = new_values_back m i }) ∷ inserted_characters m text i

-- ---- the first items, and then those after them

pub front_put : (items : List Item) (m : Map Key) (text : List ℕ) (n : ℕ) (out new : List Action) → AreCharacters items m text → n ≡ length text → new ≡ out ++ map (insertion (from_absent m)) (map Character text) → new ≡ out ++ map Ins (take n items)
front_put items m text n out new h e f = f
    ∙ ap (λ (acts : List Action). out ++ acts) (inserted_characters m text ∙ ap (map Ins) (sym h.are))
    ∙ ap (λ k. out ++ map Ins (take k items)) (sym e)

pub rest_put : (rest more : List Item) (n : ℕ) (out new all : List Action) → out ++ map Ins rest ≡ all → new ≡ out ++ map Ins (take n rest) → more ≡ drop n rest → new ++ map Ins more ≡ all
rest_put rest more n out new all is e f =
    (λ i. e i ++ map Ins (f i))
    ∙ append_assoc out (map Ins (take n rest)) (map Ins (drop n rest))
    ∙ ap (λ (acts : List Action). out ++ acts) (sym (map-append Ins (take n rest) (drop n rest)) ∙ ap (map Ins) (take-append-drop n rest))
    ∙ is

pub rest_room : (rest more : List Item) (n : ℕ) (out new : List Action) → output_len out + length rest ≤ max_count → new ≡ out ++ map Ins (take n rest) → n ≤ length rest → more ≡ drop n rest → output_len new + length more ≤ max_count
rest_room rest more n out new room e fits f =
    let a = ap output_len e ∙ output_len-append out (map Ins (take n rest)) in
    let b = output_of_items (take n rest) ∙ length-take-le n rest fits in
    let c = ap length f ∙ length-drop n rest in
    omega (arith, a, b, c, room, fits)

pub all_put : (rest : List Item) (out all : List Action) → out ++ map Ins rest ≡ all → length rest ≡ 0 → out ≡ all
all_put [] out all is e = sym (append-nil out) ∙ is
all_put (x ∷ rest) out all is e = absurd (omega (arith, e))
