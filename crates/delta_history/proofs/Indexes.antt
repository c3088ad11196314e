-- The map from ids to places, as its entries change.
--     put_in        one more number at an author
--     same_in       nothing more
--     put_more, put_first     at an author that has numbers, and at one that has none
use Rattle.std.proofs.Common.{◌≡◌, ℕ, Bool, true, false, cond, ◌&&◌, ◌==◌, Option, Some, None, Result, Ok, Err, OnOk, OnErr, is_some, refl, sym, ap, subst, ◌∙◌, true≢false, option_and_then, is_eq}
use Rattle.std.specs.Ordering.{nat_cmp, ordering_then}
use Rattle.std.specs.Cmp.Lexicographic.{slice_cmp, pointwise, texts_ties, bytes_decides}
use Rattle.std.specs.declared.cmp.Ordering.{Ordering}
use Rattle.std.specs.declared.cmp.Ordering.TheVariants.{Less, Equal, Greater}
use Rattle.std.specs.Map.{lookup}
use Rattle.std.specs.Cmp.{unsigned_ties}
use Rattle.std.specs.BTreeMap as tree
use Rattle.doc_items.specs.Maps.{Key}
use Rattle.wave_base.specs.Versions.{IdOf, same_id}
use Rattle.delta_history.specs.Places.{pair_cmp, Places, number_of, id_at, place_in, IsPut}

both_equal : (a b : Ordering) → is_eq (ordering_then a b) ≡ (is_eq a && is_eq b)
both_equal Less b = refl
both_equal Equal b = refl
both_equal Greater b = refl

same_numbers : (i j : IdOf) → is_eq (pair_cmp (number_of i) (number_of j)) ≡ ((i.client == j.client) && (i.number == j.number))
same_numbers i j = both_equal (nat_cmp i.client j.client) (nat_cmp i.number j.number) ∙ sym (λ k. unsigned_ties i.client j.client k && unsigned_ties i.number j.number k)

and_assoc : (a b c : Bool) → (a && (b && c)) ≡ ((a && b) && c)
and_assoc true b c = refl
and_assoc false b c = refl

same_parts : (i j : IdOf) → same_id i j ≡ (is_eq (slice_cmp nat_cmp i.author j.author) && is_eq (pair_cmp (number_of i) (number_of j)))
same_parts i j =
    let numbers = sym (same_numbers i j) in
    sym (and_assoc (pointwise ◌==◌ i.author j.author) (i.client == j.client) (i.number == j.number)) ∙ (λ k. texts_ties i.author j.author k && numbers k)

-- the numbers of an author, as a function
abbrev pub at_author : Places → Key → ℕ × ℕ → Option ℕ
at_author m a x = option_and_then (λ n. tree.get pair_cmp n x) (tree.get (slice_cmp nat_cmp) m a)

pub put_in : (m m' : Places) (i : IdOf) (n : tree.BTreeMap (ℕ × ℕ) ℕ) (k : ℕ) → ((q : Key) → tree.get (slice_cmp nat_cmp) m' q ≡ cond (is_eq (slice_cmp nat_cmp i.author q)) (Some n) (tree.get (slice_cmp nat_cmp) m q))
    → ((x : ℕ × ℕ) → tree.get pair_cmp n x ≡ cond (is_eq (pair_cmp (number_of i) x)) (Some k) (at_author m i.author x)) → IsPut m m' i k
put_in m m' i n k h g j = go (is_eq (slice_cmp nat_cmp i.author j.author)) refl
  where
    go : (b : Bool) → is_eq (slice_cmp nat_cmp i.author j.author) ≡ b → place_in m' j ≡ cond (same_id i j) (Some k) (place_in m j)
    go true e =
        let a : i.author ≡ j.author = (bytes_decides i.author j.author).0 (texts_ties i.author j.author ∙ e) in
        let same = sym (same_parts i j ∙ ap (λ t. t && is_eq (pair_cmp (number_of i) (number_of j))) e) in
        ap (option_and_then (λ y. tree.get pair_cmp y (number_of j))) (h j.author ∙ ap (λ t. cond t (Some n) (tree.get (slice_cmp nat_cmp) m j.author)) e)
        ∙ g (number_of j)
        ∙ (λ l. cond (same l) (Some k) (at_author m (a l) (number_of j)))
    go false e =
        ap (option_and_then (λ y. tree.get pair_cmp y (number_of j))) (h j.author ∙ ap (λ t. cond t (Some n) (tree.get (slice_cmp nat_cmp) m j.author)) e)
        ∙ sym (ap (λ t. cond t (Some k) (place_in m j)) (same_parts i j ∙ ap (λ t. t && is_eq (pair_cmp (number_of i) (number_of j))) e))

pub same_in : (m m' : Places) (a : Key) (n n' : tree.BTreeMap (ℕ × ℕ) ℕ) → tree.get (slice_cmp nat_cmp) m a ≡ Some n → ((q : Key) → tree.get (slice_cmp nat_cmp) m' q ≡ cond (is_eq (slice_cmp nat_cmp a q)) (Some n') (tree.get (slice_cmp nat_cmp) m q)) → tree.IsUnchanged n n' → (j : IdOf) → place_in m' j ≡ place_in m j
same_in m m' a n n' was h u j = go (is_eq (slice_cmp nat_cmp a j.author)) refl
  where
    go : (b : Bool) → is_eq (slice_cmp nat_cmp a j.author) ≡ b → place_in m' j ≡ place_in m j
    go true e =
        let s : a ≡ j.author = (bytes_decides a j.author).0 (texts_ties a j.author ∙ e) in
        ap (option_and_then (λ y. tree.get pair_cmp y (number_of j))) (h j.author ∙ ap (λ t. cond t (Some n') (tree.get (slice_cmp nat_cmp) m j.author)) e)
        ∙ ap (λ es. lookup (λ x. is_eq (pair_cmp (number_of j) x)) es) u
        ∙ sym (ap (option_and_then (λ y. tree.get pair_cmp y (number_of j))) (subst (λ z. tree.get (slice_cmp nat_cmp) m z ≡ Some n) s was))
    go false e = ap (option_and_then (λ y. tree.get pair_cmp y (number_of j))) (h j.author ∙ ap (λ t. cond t (Some n') (tree.get (slice_cmp nat_cmp) m j.author)) e)

-- ---- the same, as the steps of a call tell it

pub on_ok : {A E : Type 0} {P Q : Type 0} (r : Result A E) → OnOk r P → (P → Q) → OnOk r Q
on_ok (Ok x) p f = f p
on_ok (Err e) p f = tt

pub on_err : {A E : Type 0} {P Q : Type 0} (r : Result A E) → OnErr r P → (P → Q) → OnErr r Q
on_err (Ok x) p f = tt
on_err (Err e) p f = f p

pub no_some : {A : Type 0} (o : Option A) → is_some o ≡ false → o ≡ None
no_some None e = refl
no_some (Some x) e = absurd (true≢false e)

-- the numbers of an author that has some
pub put_more : (m m' : Places) (a : Key) (x : ℕ × ℕ) (k : ℕ) (n n' : tree.BTreeMap (ℕ × ℕ) ℕ) → tree.get (slice_cmp nat_cmp) m a ≡ Some n → ((q : Key) → tree.get (slice_cmp nat_cmp) m' q ≡ cond (is_eq (slice_cmp nat_cmp a q)) (Some n') (tree.get (slice_cmp nat_cmp) m q)) → tree.Updates pair_cmp n n' x (Some k) → IsPut m m' (id_at a x) k
put_more m m' a x k n n' was h u = put_in m m' (id_at a x) n' k h (λ y. u.0 y ∙ ap (cond (is_eq (pair_cmp x y)) (Some k)) (sym (ap (option_and_then (λ z. tree.get pair_cmp z y)) was)))

-- of one that has none
pub put_first : (m m' : Places) (a a' : Key) (x : ℕ × ℕ) (k : ℕ) (n n' : tree.BTreeMap (ℕ × ℕ) ℕ) → tree.get (slice_cmp nat_cmp) m a ≡ None → a' ≡ a → ((q : Key) → tree.get (slice_cmp nat_cmp) m' q ≡ cond (is_eq (slice_cmp nat_cmp a' q)) (Some n') (tree.get (slice_cmp nat_cmp) m q)) → tree.IsEmpty n → tree.Updates pair_cmp n n' x (Some k) → IsPut m m' (id_at a x) k
put_first m m' a a' x k n n' was s h e u = put_in m m' (id_at a x) n' k (λ q. h q ∙ ap (λ z. cond (is_eq (slice_cmp nat_cmp z q)) (Some n') (tree.get (slice_cmp nat_cmp) m q)) s)
    (λ y. u.0 y ∙ ap (cond (is_eq (pair_cmp x y)) (Some k)) (ap (lookup (λ z. is_eq (pair_cmp y z))) e ∙ sym (ap (option_and_then (λ z. tree.get pair_cmp z y)) was)))
