-- How many items an operation and its inverse take, give and insert.
--     takes_all           an operation takes all items of the document to which it applies
--     inverse_lengths     the inverse takes what the operation gives, gives what it takes, and inserts what it deletes
--     inserted_items      insertions in a row
use Rattle.std.proofs.Common.{◌≡◌, List, [], ◌∷◌, length, map, refl, arith, Some}
use Rattle.doc_items.specs.declared.item.Item.{Item}
use Rattle.doc_op.specs.Actions.{Action, Keep, Ins, Del}
use Rattle.doc_op.specs.Apply.{keeps, kept, fits, apply}
use Rattle.doc_op.specs.Lengths.{input_len, output_len}
use Rattle.doc_op.proofs.Applying.{no_value, mapped, passed}
use Rattle.op_invert.specs.Laws.{HasLengths}

pub takes_all : (acts : List Action) (items out : List Item) → apply acts items ≡ Some out → input_len acts ≡ length items
takes_all [] [] out is = refl
takes_all [] (i ∷ items) out is = no_value is
takes_all (Ins x ∷ more) items out is =
    let m = mapped (λ (o : List Item). x ∷ o) (apply more items) out is in takes_all more items m.value m.had
takes_all (Keep c a ∷ more) [] out is = no_value is
takes_all (Keep c a ∷ more) (i ∷ items) out is =
    let t = passed (keeps c a i) _ out is in
    let m = mapped (λ (o : List Item). kept c a i ∷ o) (apply more items) out t.rest in
    let e = takes_all more items m.value m.had in
    omega (arith, e)
takes_all (Del c n ∷ more) [] out is = no_value is
takes_all (Del c n ∷ more) (i ∷ items) out is =
    let e = takes_all more items out (passed (fits c n i) _ out is).rest in
    omega (arith, e)

pub inverse_lengths : (acts : List Action) (items out : List Item) → apply acts items ≡ Some out → HasLengths acts items
inverse_lengths [] [] out is = record { input = refl; output = refl; inserted = refl; bound = omega arith }
inverse_lengths [] (i ∷ items) out is = no_value is
inverse_lengths (Ins x ∷ more) items out is =
    let m = mapped (λ (o : List Item). x ∷ o) (apply more items) out is in
    let h = inverse_lengths more items m.value m.had in
    record { input = omega (arith, h.input); output = h.output; inserted = omega (arith, h.inserted); bound = h.bound }
inverse_lengths (Keep c a ∷ more) [] out is = no_value is
inverse_lengths (Keep c a ∷ more) (i ∷ items) out is =
    let t = passed (keeps c a i) _ out is in
    let m = mapped (λ (o : List Item). kept c a i ∷ o) (apply more items) out t.rest in
    let h = inverse_lengths more items m.value m.had in
    record { input = omega (arith, h.input); output = omega (arith, h.output); inserted = omega (arith, h.inserted); bound = omega (arith, h.bound) }
inverse_lengths (Del c n ∷ more) [] out is = no_value is
inverse_lengths (Del c n ∷ more) (i ∷ items) out is =
    let h = inverse_lengths more items out (passed (fits c n i) _ out is).rest in
    record { input = h.input; output = omega (arith, h.output); inserted = omega (arith, h.inserted); bound = omega (arith, h.bound) }

-- ---- insertions in a row

pub input_of_items : (items : List Item) → input_len (map Ins items) ≡ 0
input_of_items [] = refl
input_of_items (x ∷ items) = input_of_items items

pub output_of_items : (items : List Item) → output_len (map Ins items) ≡ length items
output_of_items [] = refl
output_of_items (x ∷ items) = omega (arith, output_of_items items)
