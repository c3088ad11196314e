-- Names among others.
--     more, last       a name is among them still, and the one after them is
--     split, neither   one that is among them with one after it: it is that, or was; one that isn't, is neither
--     ascend_apart     the next of names that ascend isn't among those before it
--     before_next      what is among names that ascend, and below one of them, is among those before that
use Rattle.std.proofs.Common.{Less, ◌≡◌, ◌≢◌, ◌⊎◌, inl, inr, ⊎_elim, ℕ, zero, suc, ◌<◌, Bool, true, false, ◌||◌, List, [], ◌∷◌, ◌++◌, length, take, get_or, slice_get, Some, None, IfSome, refl, sym, ap, subst, ◌∙◌, true≢false, arith}
use Rattle.std.specs.Cmp.Lexicographic.{slice_cmp, bytes_decides}
use Rattle.std.specs.Ordering.{nat_cmp}
use Rattle.std.specs.List.{AllByRecursion}
use Rattle.std.proofs.lemmas.Cmp.{nat_list_cmp_total}
use Rattle.doc_items.specs.Maps.{Key, same_text}
use Rattle.delta_history.specs.Copying.{AscendFrom, AreAscending}
use Rattle.wavelet_shelf.specs.Folders.{is_among}
use Rattle.wavelet_shelf.proofs.Names.{own, decided, below_none, any}

or_true : (b : Bool) → b || true ≡ true
or_true true = refl
or_true false = refl

pub more : (names : List Key) (m x : Key) → is_among names x ≡ true → is_among (names ++ m ∷ []) x ≡ true
more [] m x e = absurd (true≢false (sym e))
more (n ∷ names) m x e = go (same_text x n) (λ f. more names m x f) e
  where
    go : (t : Bool) → (is_among names x ≡ true → is_among (names ++ m ∷ []) x ≡ true) → t || is_among names x ≡ true → t || is_among (names ++ m ∷ []) x ≡ true
    go true rest f = refl
    go false rest f = rest f

pub last : (names : List Key) (m : Key) → is_among (names ++ m ∷ []) m ≡ true
last [] m = ap (λ t. t || false) (own m)
last (n ∷ names) m = ap (λ t. same_text m n || t) (last names m) ∙ or_true (same_text m n)

pub split : (names : List Key) (m x : Key) → is_among (names ++ m ∷ []) x ≡ true → (is_among names x ≡ true) ⊎ (x ≡ m)
split [] m x e = go (same_text x m) refl e
  where
    go : (t : Bool) → same_text x m ≡ t → t || false ≡ true → (false ≡ true) ⊎ (x ≡ m)
    go true s f = inr ((bytes_decides x m).0 s)
    go false s f = inl f
split (n ∷ names) m x e = go (same_text x n) (λ f. split names m x f) e
  where
    go : (t : Bool) → (is_among (names ++ m ∷ []) x ≡ true → (is_among names x ≡ true) ⊎ (x ≡ m)) → t || is_among (names ++ m ∷ []) x ≡ true → (t || is_among names x ≡ true) ⊎ (x ≡ m)
    go true rest f = inl refl
    go false rest f = rest f

yes_or_no : (b : Bool) → (b ≡ true) ⊎ (b ≡ false)
yes_or_no true = inl refl
yes_or_no false = inr refl

pub neither : (names : List Key) (m x : Key) → is_among (names ++ m ∷ []) x ≡ false → (is_among names x ≡ false) × (x ≢ m)
neither names m x e = (
  ⊎_elim (λ yes. absurd (true≢false (sym (more names m x yes) ∙ e))) (λ no. no) (yes_or_no (is_among names x)),
  λ is. true≢false (sym (last names m) ∙ ap (is_among (names ++ m ∷ [])) (sym is) ∙ e),
)

-- names that ascend from one aren't that
above_apart : (k : Key) (names : List Key) → AscendFrom k names → is_among names k ≡ false
above_apart k [] a = refl
above_apart k (n ∷ names) a = go (same_text k n) refl (above_apart k names (lower_all k n names a.0 a.1))
  where
    lower_all : (k n : Key) (names : List Key) → slice_cmp nat_cmp k n ≡ Less → AscendFrom n names → AscendFrom k names
    lower_all k n [] e a = tt
    lower_all k n (m ∷ names) e a = (nat_list_cmp_total.trans k n m e a.0, a.1)

    go : (t : Bool) → same_text k n ≡ t → is_among names k ≡ false → t || is_among names k ≡ false
    go true s f = below_none k (subst (λ z. slice_cmp nat_cmp k z ≡ Less) (sym ((bytes_decides k n).0 s)) a.0)
    go false s f = f

-- the name at a place isn't among those before it
pub ascend_apart : (names : List Key) (i : ℕ) (d : Key) → AreAscending names → i < length names → is_among (take i names) (get_or names i d) ≡ false
ascend_apart [] i d a lt = absurd (omega (arith, lt))
ascend_apart (n ∷ names) zero d a lt = refl
ascend_apart (n ∷ names) (suc i) d a lt =
    let e : same_text (get_or names i d) n ≡ false = decided (get_or names i d) n (λ f. true≢false (sym (at_place names i d (omega (arith, lt))) ∙ ap (is_among names) f ∙ above_apart n names a)) in
    (λ j. e j || ascend_apart names i d (any n names a) (omega (arith, lt)) j)
  where
    at_place : (names : List Key) (i : ℕ) (d : Key) → i < length names → is_among names (get_or names i d) ≡ true
    at_place [] i d lt = absurd (omega (arith, lt))
    at_place (n ∷ names) zero d lt = ap (λ t. t || is_among names n) (own n)
    at_place (n ∷ names) (suc i) d lt = ap (λ t. same_text (get_or names i d) n || t) (at_place names i d (omega (arith, lt))) ∙ or_true (same_text (get_or names i d) n)

above_all : (k l : Key) (names : List Key) → AscendFrom k names → is_among names l ≡ true → slice_cmp nat_cmp k l ≡ Less
above_all k l [] a among = absurd (true≢false (sym among))
above_all k l (n ∷ names) a among = go (same_text l n) refl (λ f. nat_list_cmp_total.trans k n l a.0 (above_all n l names a.1 f)) among
  where
    go : (t : Bool) → same_text l n ≡ t → (is_among names l ≡ true → slice_cmp nat_cmp k l ≡ Less) → t || is_among names l ≡ true → slice_cmp nat_cmp k l ≡ Less
    go true s rest f = subst (λ z. slice_cmp nat_cmp k z ≡ Less) (sym ((bytes_decides l n).0 s)) a.0
    go false s rest f = rest f

pub before_next : (names : List Key) (i : ℕ) (d l : Key) → AreAscending names → i < length names → is_among names l ≡ true → slice_cmp nat_cmp l (get_or names i d) ≡ Less → is_among (take i names) l ≡ true
before_next [] i d l a lt among less = absurd (true≢false (sym among))
before_next (n ∷ names) zero d l a lt among less = below_none l (go (same_text l n) refl among)
  where
    go : (t : Bool) → same_text l n ≡ t → t || is_among names l ≡ true → slice_cmp nat_cmp l l ≡ Less
    go true s f = subst (λ z. slice_cmp nat_cmp l z ≡ Less) (sym ((bytes_decides l n).0 s)) less
    go false s f = nat_list_cmp_total.trans l n l less (above_all n l names a f)
before_next (n ∷ names) (suc i) d l a lt among less = go (same_text l n) (λ f. before_next names i d l (any n names a) (omega (arith, lt)) f less) among
  where
    go : (t : Bool) → (is_among names l ≡ true → is_among (take i names) l ≡ true) → t || is_among names l ≡ true → t || is_among (take i names) l ≡ true
    go true rest f = refl
    go false rest f = rest f

-- ---- by place, and one by one

no_get : {T : Type 0} {x : Key} → None ≡ Some x → T
no_get e = absurd (cc)

pub among_of_get : (names : List Key) (i : ℕ) (m : Key) → slice_get names i ≡ Some m → is_among names m ≡ true
among_of_get [] i m e = no_get e
among_of_get (n ∷ names) zero m e = ap (λ t. t || is_among names m) (subst (λ k. same_text m k ≡ true) (sym (same_get e)) (own m))
  where
    same_get : {x y : Key} → Some x ≡ Some y → x ≡ y
    same_get e = cc
among_of_get (n ∷ names) (suc i) m e = ap (λ t. same_text m n || t) (among_of_get names i m e) ∙ or_true (same_text m n)

pub all_among : (P : Key → Type 0) (names : List Key) → ((m : Key) → is_among names m ≡ true → P m) → AllByRecursion P names
all_among P [] each = tt
all_among P (n ∷ names) each = (each n (ap (λ t. t || is_among names n) (own n)), all_among P names (λ m there. each m (ap (λ t. same_text m n || t) there ∙ or_true (same_text m n))))

-- what has a place and is so has it
pub each_among : (P : Key → Type 0) (names : List Key) → ((i : ℕ) → IfSome (slice_get names i) P) → (m : Key) → is_among names m ≡ true → P m
each_among P [] each m there = absurd (true≢false (sym there))
each_among P (n ∷ names) each m there = go (same_text m n) refl (λ rest. each_among P names (λ i. each (suc i)) m rest) there
  where
    go : (t : Bool) → same_text m n ≡ t → (is_among names m ≡ true → P m) → t || is_among names m ≡ true → P m
    go true s rest e = subst P (sym ((bytes_decides m n).0 s)) (each 0)
    go false s rest e = rest e
