-- The item at a place is erased exactly where it is a character.
--     erased_one        what is erased is one
--     cut_one, past_all     an element's start or end isn't, and nothing after the last item
use Rattle.std.proofs.Common.{◌≡◌, ℕ, zero, suc, ◌+◌, ◌<◌, List, [], ◌∷◌, length, slice_get, Option, Some, None, refl, sym, ap, subst, arith}
use Rattle.std.proofs.lemmas.Option.{slice_get_past}
use Rattle.doc_items.specs.Balance.{BalancedFrom, Balanced, Closes, level}
use Rattle.doc_items.specs.declared.item.Content.{Content}
use Rattle.doc_items.specs.declared.item.Content.TheVariants.{Character, Start, End}
use Rattle.doc_items.specs.declared.item.Item.{Item}
use Rattle.doc_op.specs.Actions.{Action}
use Rattle.doc_op.proofs.Applying.{no_value, same_Some}
use Rattle.op_build.specs.Edits.{range}
use Rattle.op_build.specs.Plans.{erasing}
use Rattle.op_build.specs.Refusals.{CanErase}
use Rattle.load_script.specs.Edits.{erasure_of, erasure}

range_one : (items : List Item) (place : ℕ) (i : Item) → slice_get items place ≡ Some i → range items place 1 ≡ i ∷ []
range_one [] place i e = no_value e
range_one (x ∷ items) zero i e = ap (λ z. z ∷ []) (same_Some e)
range_one (x ∷ items) (suc n) i e = range_one items n i e

one_of : (c : Content) → Closes c 0 × BalancedFrom (level c 0) [] → (out : List Action) (items : List Item) (place : ℕ) → out ≡ erasing items place 1 → Some out ≡ erasure_of items place c
one_of (Character x) b out items place e = ap Some e
one_of (Start kind m) b out items place e = absurd (let z = b.1 in omega (arith, z))
one_of End b out items place e = absurd (let z = b.0 in omega (arith, z))

inside : (items : List Item) (place : ℕ) → place < length items → slice_get items place ≡ None → ⊥
inside [] place h e = omega (arith, h)
inside (x ∷ items) zero h e = no_value (sym e)
inside (x ∷ items) (suc n) h e = inside items n (omega (arith, h)) e

pub erased_one : (items : List Item) (place : ℕ) (out : List Action) → CanErase items place 1 → out ≡ erasing items place 1 → Some out ≡ erasure items place (slice_get items place)
erased_one items place out can e = go (slice_get items place) refl
  where
    go : (o : Option Item) → slice_get items place ≡ o → Some out ≡ erasure items place o
    go None q = absurd (inside items place (omega (arith, can.1)) q)
    go (Some i) q = one_of i.content (subst Balanced (range_one items place i q) can.2) out items place e

cut_of : (c : Content) → (Closes c 0 × BalancedFrom (level c 0) [] → ⊥) → (items : List Item) (place : ℕ) → None ≡ erasure_of items place c
cut_of (Character x) b items place = absurd (b (tt, refl))
cut_of (Start kind m) b items place = refl
cut_of End b items place = refl

pub cut_one : (items : List Item) (place : ℕ) → (Balanced (range items place 1) → ⊥) → None ≡ erasure items place (slice_get items place)
cut_one items place cuts = go (slice_get items place) refl
  where
    go : (o : Option Item) → slice_get items place ≡ o → None ≡ erasure items place o
    go None q = refl
    go (Some i) q = cut_of i.content (λ b. cuts (subst Balanced (sym (range_one items place i q)) b)) items place

pub past_all : (items : List Item) (place : ℕ) → length items < place + 1 → None ≡ erasure items place (slice_get items place)
past_all items place h = ap (erasure items place) (sym (slice_get_past items place (omega (arith, h))))
