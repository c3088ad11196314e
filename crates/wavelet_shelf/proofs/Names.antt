-- Names in byte order.
--     own, decided            a name is itself; names that differ are told apart
--     unlike, unlike_above    so are those that aren't even in order
--     tied, even              names that are even are equal
--     below_none, turned              no name is below itself; the order the other way round
--     lower, any                      what ascends from a name ascends from a lower one, and ascends
use Rattle.std.proofs.Common.{Less, Equal, Greater, ◌≡◌, ◌≢◌, ◌⊎◌, inl, inr, Bool, true, false, List, [], ◌∷◌, refl, sym, ap, subst, ◌∙◌, true≢false}
use Rattle.std.specs.Cmp.Lexicographic.{slice_cmp, bytes_decides}
use Rattle.std.specs.Ordering.{nat_cmp, is_lt, is_eq, ordering_reverse}
use Rattle.std.specs.declared.cmp.Ordering.{Ordering}
use Rattle.std.proofs.lemmas.Cmp.{nat_list_cmp_total}
use Rattle.std.proofs.lemmas.Map.Text.{is_eq-slice_cmp}
use Rattle.doc_items.specs.Maps.{Key, same_text}
use Rattle.delta_history.specs.Copying.{AscendFrom, AreAscending}

pub own : (n : Key) → same_text n n ≡ true
own n = (bytes_decides n n).1 refl

pub turned : (n m : Key) → slice_cmp nat_cmp m n ≡ ordering_reverse (slice_cmp nat_cmp n m)
turned n m = nat_list_cmp_total.antisymm m n

pub below_none : {X : Type 0} (n : Key) → slice_cmp nat_cmp n n ≡ Less → X
below_none n e = absurd (true≢false (sym (ap is_lt e) ∙ ap is_lt (turned n n ∙ ap ordering_reverse e)))

-- a test that tells apart tells of two names
pub decided : (n m : Key) → (n ≡ m → ⊥) → same_text n m ≡ false
decided n m other = go (same_text n m) refl
  where
    go : (t : Bool) → same_text n m ≡ t → same_text n m ≡ false
    go true f = absurd (other ((bytes_decides n m).0 f))
    go false f = f

pub unlike : (n m : Key) → slice_cmp nat_cmp n m ≡ Less → same_text n m ≡ false
unlike n m e = decided n m (λ f. below_none n (subst (λ z. slice_cmp nat_cmp n z ≡ Less) (sym f) e))

pub unlike_above : (n m : Key) → slice_cmp nat_cmp n m ≡ Greater → same_text n m ≡ false
unlike_above n m e = decided n m (λ f. below_none m (subst (λ z. slice_cmp nat_cmp m z ≡ Less) f (turned n m ∙ ap ordering_reverse e)))

pub lower : (n m : Key) (names : List Key) → slice_cmp nat_cmp n m ≡ Less → AscendFrom m names → AscendFrom n names
lower n m [] e a = tt
lower n m (k ∷ names) e a = (nat_list_cmp_total.trans n m k e a.0, a.1)

pub any : (n : Key) (names : List Key) → AscendFrom n names → AreAscending names
any n [] a = tt
any n (m ∷ names) a = a.1

pub tied : (n m : Key) → slice_cmp nat_cmp n m ≡ Equal → n ≡ m
tied n m e = (bytes_decides n m).0 (sym (is_eq-slice_cmp n m) ∙ ap is_eq e)

pub even : (n : Key) → slice_cmp nat_cmp n n ≡ Equal
even n = go (slice_cmp nat_cmp n n) refl
  where
    go : (o : Ordering) → slice_cmp nat_cmp n n ≡ o → slice_cmp nat_cmp n n ≡ Equal
    go Less e = below_none n e
    go Equal e = e
    go Greater e = below_none n (turned n n ∙ ap ordering_reverse e)

pub same_or_not : (n m : Key) → (n ≡ m) ⊎ (n ≢ m)
same_or_not n m = go (same_text n m) refl
  where
    go : (t : Bool) → same_text n m ≡ t → (n ≡ m) ⊎ (n ≢ m)
    go true f = inl ((bytes_decides n m).0 f)
    go false f = inr (λ e. true≢false (sym ((bytes_decides n m).1 e) ∙ f))
