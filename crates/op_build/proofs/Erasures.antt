-- A range that is erased.
use Rattle.std.proofs.Common.{◌≡◌, ℕ, cond, true, List, [], ◌∷◌, ◌++◌, map, refl, sym, ap, subst, ◌∙◌, option_map, Some, None}
use Rattle.std.specs.FinMap.{empty, get, get-empty}
use Rattle.std.specs.Ordering.{nat_cmp}
use Rattle.std.specs.Cmp.Lexicographic.{slice_cmp, bytes_decides}
use Rattle.std.proofs.lemmas.Bool.{and_from, eq-eqb}
use Rattle.doc_items.specs.Balance.{level, BalancedFrom, Balanced}
use Rattle.doc_items.specs.Changes.{KeyChange, ChangeSet, none_running}
use Rattle.doc_items.specs.declared.item.Content.{Content}
use Rattle.doc_items.specs.declared.item.Content.TheVariants.{Character, Start, End}
use Rattle.doc_items.specs.declared.item.Item.{Item}
use Rattle.doc_items.proofs.Maps.{alike, get-each, matches_all, same_values-refl}
use Rattle.doc_op.specs.Actions.{Action, Del, old_values, deletion}
use Rattle.doc_op.specs.Apply.{same_content, named, fits, apply}
use Rattle.doc_op.specs.Structure.{StructuredFrom, Structured}
use Rattle.op_build.specs.Plans.{erase_one}
use Rattle.op_build.proofs.Made.{Takes}

no_names : (u : ChangeSet) → u ≡ none_running → old_values u ≡ empty
no_names u e = ap old_values e ∙ alike _ _ (λ q. get-each (λ (c : KeyChange). c.old) none_running q ∙ ap (option_map (λ (c : KeyChange). c.old)) (get-empty (slice_cmp nat_cmp) q) ∙ sym (get-empty (slice_cmp nat_cmp) q))

-- a deletion where nothing runs names nothing
pub deleted_one : (out before : List Action) (u : ChangeSet) (c d : Content) → u ≡ none_running → d ≡ c → out ≡ before ++ (deletion u c ∷ []) → out ≡ before ++ (Del d empty ∷ [])
deleted_one out before u c d e f is = is ∙ (λ i. before ++ (Del (sym f i) (no_names u e i) ∷ []))

same_content-refl : (c : Content) → same_content c c ≡ true
same_content-refl (Character x) = eq-eqb x x refl
same_content-refl (Start kind m) = and_from _ _ ((bytes_decides kind kind).1 refl) (same_values-refl m)
same_content-refl End = refl

erase_fits : (i : Item) → fits i.content empty i ≡ true
erase_fits i = and_from _ _ (same_content-refl i.content) (matches_all named empty i.notes (λ q. ap (λ o. named o (get i.notes q)) (get-empty (slice_cmp nat_cmp) q)))

erasure_makes : (gone : List Item) (rest : List Action) (behind out : List Item) → apply rest behind ≡ Some out → apply (map erase_one gone ++ rest) (gone ++ behind) ≡ Some out
erasure_makes [] rest behind out e = e
erasure_makes (i ∷ gone) rest behind out e = ap (λ b. cond b (apply (map erase_one gone ++ rest) (gone ++ behind)) None) (erase_fits i) ∙ erasure_makes gone rest behind out e

erasure_nests : (n : ℕ) (gone : List Item) (rest : List Action) → BalancedFrom n gone → Structured rest → StructuredFrom 0 n (map erase_one gone ++ rest)
erasure_nests n [] rest b s = subst (λ k. StructuredFrom 0 k rest) (sym b) s
erasure_nests n (i ∷ gone) rest b s = (refl, b.0, erasure_nests (level i.content n) gone rest b.1 s)

pub erasure_takes : (gone : List Item) → Balanced gone → Takes (map erase_one gone) gone []
erasure_takes gone b = record { makes = erasure_makes gone; nests = λ rest s. erasure_nests 0 gone rest b s }
