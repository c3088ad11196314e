-- Copies that are held in memory.
--     own, unlike                 what the test of names tells
--     hosts_ascend                the names that are shown ascend too
--     host_there                  and each has a copy
--     named                       a copy that was found has the name
--     lent                        what is told of a value is told where it is lent
use Rattle.std.proofs.Common.{Less, ◌≡◌, ◌==◌, ℕ, zero, suc, Bool, true, false, cond, List, [], ◌∷◌, slice_get, Option, Some, None, IsSome, IfSome, is_some, option_copied, Bor, refl, sym, ap, subst, ◌∙◌, true≢false}
use Rattle.std.specs.Cmp.Lexicographic.{slice_cmp, pointwise, bytes_decides}
use Rattle.std.specs.Ordering.{nat_cmp, is_lt}
use Rattle.std.proofs.lemmas.Cmp.{nat_list_cmp_total}
use Rattle.std.proofs.lemmas.Bool.{and_parts}
use Rattle.doc_op.proofs.Applying.{no_value, same_Some}
use Rattle.doc_items.specs.Maps.{Key}
use Rattle.delta_history.specs.Copying.{AscendFrom, AreAscending}
use Rattle.delta_history.specs.Histories.{HistoryOf}
use Rattle.test_copies.specs.Holding.{same_name, has_delta, is_shown, held_of, shown_copy, shown_hosts, names_of}
use Rattle.test_copies.specs.declared.held.Held.{Held}

own : (n : Key) → same_name n n ≡ true
own n = (bytes_decides n n).1 refl

below_none : (n : Key) {X : Type 0} → slice_cmp nat_cmp n n ≡ Less → X
below_none n e = absurd (true≢false (sym (ap is_lt e) ∙ ap is_lt (nat_list_cmp_total.antisymm n n ∙ ap Rattle.std.specs.Ordering.ordering_reverse e)))

unlike : (n m : Key) → slice_cmp nat_cmp m n ≡ Less → same_name n m ≡ false
unlike n m e = go (same_name n m) refl
  where
    go : (t : Bool) → same_name n m ≡ t → same_name n m ≡ false
    go true f = below_none n (subst (λ z. slice_cmp nat_cmp z n ≡ Less) (sym ((bytes_decides n m).0 f)) e)
    go false f = f

lower : (n m : Key) (names : List Key) → slice_cmp nat_cmp n m ≡ Less → AscendFrom m names → AscendFrom n names
lower n m [] e a = tt
lower n m (k ∷ names) e a = (nat_list_cmp_total.trans n m k e a.0, a.1)

any : (n : Key) (names : List Key) → AscendFrom n names → AreAscending names
any n [] a = tt
any n (m ∷ names) a = a.1

-- ---- those that are shown

shown_from : (n : Key) (hs : List Held) → AscendFrom n (names_of hs) → AscendFrom n (shown_hosts hs)
shown_from n [] a = tt
shown_from n (h ∷ hs) a = go (is_shown h) (shown_from h.history.name hs a.1)
  where
    go : (t : Bool) → AscendFrom h.history.name (shown_hosts hs) → AscendFrom n (cond t (h.history.name ∷ shown_hosts hs) (shown_hosts hs))
    go true r = (a.0, r)
    go false r = lower n h.history.name (shown_hosts hs) a.0 r

pub hosts_ascend : (hs : List Held) → AreAscending (names_of hs) → AreAscending (shown_hosts hs)
hosts_ascend [] a = tt
hosts_ascend (h ∷ hs) a = go (is_shown h) (shown_from h.history.name hs a)
  where
    go : (t : Bool) → AscendFrom h.history.name (shown_hosts hs) → AreAscending (cond t (h.history.name ∷ shown_hosts hs) (shown_hosts hs))
    go true r = r
    go false r = any h.history.name (shown_hosts hs) r

above : (m : Key) (names : List Key) (i : ℕ) (n : Key) → AscendFrom m names → slice_get names i ≡ Some n → slice_cmp nat_cmp m n ≡ Less
above m [] i n a e = no_value e
above m (k ∷ names) zero n a e = subst (λ z. slice_cmp nat_cmp m z ≡ Less) (same_Some e) a.0
above m (k ∷ names) (suc i) n a e = nat_list_cmp_total.trans m k n a.0 (above k names i n a.1 e)

there_from : (hs : List Held) (i : ℕ) (n : Key) → AreAscending (names_of hs) → slice_get (shown_hosts hs) i ≡ Some n → IsSome (shown_copy (held_of hs n))
there_from [] i n a e = no_value e
there_from (h ∷ hs) i n a e = go (λ j f. there_from hs j n (any h.history.name (names_of hs) a) f) (is_shown h) refl i e
  where
    rest : ((j : ℕ) → slice_get (shown_hosts hs) j ≡ Some n → IsSome (shown_copy (held_of hs n))) → (j : ℕ) → slice_get (shown_hosts hs) j ≡ Some n → IsSome (shown_copy (held_of (h ∷ hs) n))
    rest again j f =
        let low = above h.history.name (shown_hosts hs) j n (shown_from h.history.name hs a) f in
        subst (λ t. IsSome (shown_copy (cond t (Some h) (held_of hs n)))) (sym (unlike n h.history.name low)) (again j f)

    first : is_shown h ≡ true → h.history.name ≡ n → IsSome (shown_copy (held_of (h ∷ hs) n))
    first s f =
        let has = (and_parts h.hosted (has_delta h.history.deltas) s).1 in
        subst (λ t. IsSome (shown_copy (cond t (Some h) (held_of hs n)))) (sym (subst (λ z. same_name n z ≡ true) (sym f) (own n))) (subst (λ t. IsSome (cond t (Some h.history) None)) (sym has) refl)

    go : ((j : ℕ) → slice_get (shown_hosts hs) j ≡ Some n → IsSome (shown_copy (held_of hs n))) → (t : Bool) → is_shown h ≡ t → (i : ℕ) → slice_get (cond t (h.history.name ∷ shown_hosts hs) (shown_hosts hs)) i ≡ Some n → IsSome (shown_copy (held_of (h ∷ hs) n))
    go again true s zero f = first s (same_Some f)
    go again true s (suc j) f = rest again j f
    go again false s j f = rest again j f

pub host_there : (hs : List Held) (i : ℕ) (o : Option Key) → AreAscending (names_of hs) → o ≡ slice_get (shown_hosts hs) i → IfSome o (λ n. IsSome (shown_copy (held_of hs n)))
host_there hs i None a e = tt
host_there hs i (Some n) a e = there_from hs i n a (sym e)

-- ---- a copy that was found

pub named : (hs : List Held) (n : Key) (h : Held) → held_of hs n ≡ Some h → h.history.name ≡ n
named [] n h e = no_value e
named (g ∷ hs) n h e = go (λ f. named hs n h f) (same_name n g.history.name) refl e
  where
    go : (held_of hs n ≡ Some h → h.history.name ≡ n) → (t : Bool) → same_name n g.history.name ≡ t → cond t (Some g) (held_of hs n) ≡ Some h → h.history.name ≡ n
    go again true s f = ap (λ (z : Held). z.history.name) (sym (same_Some f)) ∙ sym ((bytes_decides n g.history.name).0 s)
    go again false s f = again f

pub lent : {A : Type 0} (P : A → Type 0) (r : Option (Bor A)) → IfSome (option_copied r) P → IfSome r (λ n. P n.now)
lent P None h = tt
lent P (Some n) h = h
