-- How many items the parts of an edit take and give.
use Rattle.std.proofs.Common.{◌≡◌, ℕ, ◌+◌, ◌≤◌, List, [], ◌∷◌, ◌++◌, length, map, refl, ap, ◌∙◌, arith, Option}
use Rattle.doc_items.specs.Changes.{ChangeSet, none_running}
use Rattle.doc_items.specs.Maps.{Key}
use Rattle.doc_items.specs.declared.item.Content.{Content}
use Rattle.doc_items.specs.declared.item.Item.{Item}
use Rattle.doc_op.specs.Actions.{Action, Unchanged, insertion}
use Rattle.doc_op.specs.Lengths.{input_len, output_len}
use Rattle.doc_op.proofs.Lengths.{input_len-append, output_len-append, input_len-kept, output_len-kept, input_len-insertions, output_len-insertions}
use Rattle.op_build.specs.Edits.{range}
use Rattle.op_build.specs.Plans.{retained, erase_one, annotate_one}
use Rattle.op_build.proofs.Ranges.{length_range}

pub input_retained : (out : List Action) (n : ℕ) → out ≡ retained n → input_len out ≡ n
input_retained out n e = ap input_len e ∙ input_len-kept n none_running Unchanged

pub output_retained : (out : List Action) (n : ℕ) → out ≡ retained n → output_len out ≡ n
output_retained out n e = ap output_len e ∙ output_len-kept n none_running Unchanged

pub input_inserted : (out before : List Action) (u : ChangeSet) (contents : List Content) → out ≡ before ++ map (insertion u) contents → input_len out ≡ input_len before
input_inserted out before u contents e = omega (arith, ap input_len e, input_len-append before (map (insertion u) contents), input_len-insertions u contents)

pub output_inserted : (out before : List Action) (u : ChangeSet) (contents : List Content) → out ≡ before ++ map (insertion u) contents → output_len out ≡ output_len before + length contents
output_inserted out before u contents e = omega (arith, ap output_len e, output_len-append before (map (insertion u) contents), output_len-insertions u contents)

-- ---- after one action more

pub input_next : (out before : List Action) (a : Action) (n : ℕ) → out ≡ before ++ (a ∷ []) → input_len (a ∷ []) ≡ n → input_len out ≡ input_len before + n
input_next out before a n e f = omega (arith, ap input_len e, input_len-append before (a ∷ []), f)

pub output_next : (out before : List Action) (a : Action) (n : ℕ) → out ≡ before ++ (a ∷ []) → output_len (a ∷ []) ≡ n → output_len out ≡ output_len before + n
output_next out before a n e f = omega (arith, ap output_len e, output_len-append before (a ∷ []), f)

-- ---- a range that is erased

input_erased_one : (gone : List Item) → input_len (map erase_one gone) ≡ length gone
input_erased_one [] = refl
input_erased_one (i ∷ gone) = omega (arith, input_erased_one gone)

output_erased_one : (gone : List Item) → output_len (map erase_one gone) ≡ 0
output_erased_one [] = refl
output_erased_one (i ∷ gone) = output_erased_one gone

pub input_erased : (out before : List Action) (items : List Item) (from count : ℕ) → from + count ≤ length items → out ≡ before ++ map erase_one (range items from count) → input_len out ≡ input_len before + count
input_erased out before items from count h e =
    omega (arith, ap input_len e, input_len-append before (map erase_one (range items from count)), input_erased_one (range items from count), length_range items from count h)

pub output_erased : (out before : List Action) (items : List Item) (from count : ℕ) → out ≡ before ++ map erase_one (range items from count) → output_len out ≡ output_len before
output_erased out before items from count e = omega (arith, ap output_len e, output_len-append before (map erase_one (range items from count)), output_erased_one (range items from count))

-- ---- a range that is annotated

input_annotated_one : (key : Key) (value : Option Key) (here : List Item) → input_len (map (annotate_one key value) here) ≡ length here
input_annotated_one key value [] = refl
input_annotated_one key value (i ∷ here) = omega (arith, input_annotated_one key value here)

output_annotated_one : (key : Key) (value : Option Key) (here : List Item) → output_len (map (annotate_one key value) here) ≡ length here
output_annotated_one key value [] = refl
output_annotated_one key value (i ∷ here) = omega (arith, output_annotated_one key value here)

module _ (key : Key) (value : Option Key) (out before : List Action) (items : List Item) (from count : ℕ) where
  pub input_annotated : from + count ≤ length items → out ≡ before ++ map (annotate_one key value) (range items from count) → input_len out ≡ input_len before + count
  input_annotated h e =
      let here = range items from count in
      omega (arith, ap input_len e, input_len-append before (map (annotate_one key value) here), input_annotated_one key value here, length_range items from count h)

  pub output_annotated : from + count ≤ length items → out ≡ before ++ map (annotate_one key value) (range items from count) → output_len out ≡ output_len before + count
  output_annotated h e =
      let here = range items from count in
      omega (arith, ap output_len e, output_len-append before (map (annotate_one key value) here), output_annotated_one key value here, length_range items from count h)
