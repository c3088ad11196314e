-- Members of lists, and of lists in a row.
use Rattle.std.proofs.Common.{◌≡◌, ◌⊎◌, inl, inr, ℕ, zero, suc, Bool, true, false, not, List, [], ◌∷◌, ◌++◌, Some, slice_get, refl, sym, ap, subst, ◌∙◌, append_assoc, true≢false}
use Rattle.doc_op.proofs.Applying.{no_value, same_Some}
use Rattle.wave_world.specs.Worlds.{Mem, IsBegin}

pub not_true : (b : Bool) → not b ≡ true → b ≡ false
not_true false e = refl
not_true true e = absurd (true≢false (sym e))

pub mem_left : {A : Type 0} (x : A) (xs ys : List A) → Mem x xs → Mem x (xs ++ ys)
mem_left x [] ys m = absurd m
mem_left x (a ∷ xs) ys (inl e) = inl e
mem_left x (a ∷ xs) ys (inr m) = inr (mem_left x xs ys m)

pub mem_right : {A : Type 0} (x : A) (xs ys : List A) → Mem x ys → Mem x (xs ++ ys)
mem_right x [] ys m = m
mem_right x (a ∷ xs) ys m = inr (mem_right x xs ys m)

pub mem_split : {A : Type 0} (x : A) (xs ys : List A) → Mem x (xs ++ ys) → Mem x xs ⊎ Mem x ys
mem_split x [] ys m = inr m
mem_split x (a ∷ xs) ys (inl e) = inl (inl e)
mem_split x (a ∷ xs) ys (inr m) = elim (mem_split x xs ys m) [ inl p ↦ inl (inr p) | inr q ↦ inr q ]

pub mem_get : {A : Type 0} (xs : List A) (i : ℕ) (x : A) → slice_get xs i ≡ Some x → Mem x xs
mem_get [] i x e = no_value e
mem_get (a ∷ xs) zero x e = inl (sym (same_Some e))
mem_get (a ∷ xs) (suc i) x e = inr (mem_get xs i x e)

-- the place of a member
pub get_mem : {A : Type 0} (xs : List A) (x : A) → Mem x xs → (i : ℕ) × (slice_get xs i ≡ Some x)
get_mem [] x m = absurd m
get_mem (a ∷ xs) x (inl e) = (0, ap Some (sym e))
get_mem (a ∷ xs) x (inr m) = (let r = get_mem xs x m in (suc r.0, r.1))

-- what holds of a list's members, with one more in front
pub mem_more : {A : Type 0} (P : A → Type 0) (x : A) (xs : List A) → P x → ((y : A) → Mem y xs → P y) → (y : A) → Mem y (x ∷ xs) → P y
mem_more P x xs px h y (inl e) = subst P (sym e) px
mem_more P x xs px h y (inr m) = h y m

-- and with one more at the end
pub mem_last : {A : Type 0} (P : A → Type 0) (x : A) (xs : List A) → P x → ((y : A) → Mem y xs → P y) → (y : A) → Mem y (xs ++ x ∷ []) → P y
mem_last P x xs px h y m = elim (mem_split y xs (x ∷ []) m) [ inl p ↦ h y p | inr q ↦ mem_more P x [] px (λ z n. absurd n) y q ]

-- a whole list in two parts, with one more at its end
pub whole_more : {A : Type 0} (xs ys h : List A) (d : A) → xs ++ ys ≡ h → xs ++ (ys ++ d ∷ []) ≡ h ++ d ∷ []
whole_more xs ys h d e = sym (append_assoc xs ys (d ∷ [])) ∙ ap (λ z. z ++ d ∷ []) e

pub begin_more : {A : Type 0} (xs h : List A) (d : A) → IsBegin xs h → IsBegin xs (h ++ d ∷ [])
begin_more xs h d b = (b.0 ++ d ∷ [], whole_more xs b.0 h d b.1)
