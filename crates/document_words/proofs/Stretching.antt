-- Words of letters that are cut into parts.
--     words_front, words_back     no word reaches over where one begins, or over where one ends
--     occurrences-append          words are counted part by part
--     moved_words                 how often a word stands in letters that are the same at the front and at the back
--     at_most                     a stretch has no more
use Rattle.std.proofs.Common.{append-nil, arith, ◌≡◌, ℕ, zero, suc, ◌+◌, ◌-◌, ◌<◌, ◌≤◌, Bool, true, false, cond, nat_le, List, [], ◌∷◌, ◌++◌, length, take, drop, slice_get, encode_utf8, refl, sym, ap, subst, ◌∙◌, Option, Some, None, is_some, unwrap_or, true≢false}
use Rattle.std.proofs.lemmas.Bool.{le-leb, leb-true}
use Rattle.std.proofs.lemmas.List.{length-map, take-map, drop-map, length-drop, drop-drop, take-append-drop}
use Rattle.std.proofs.Math.Seq.{take-add}
use Rattle.doc_items.specs.Maps.{Key, same_text}
use Rattle.document_words.specs.Stretches.{has_letter, begin_of, reach, end_of, widened, stretch, IsSplit}
use Rattle.doc_items.specs.declared.item.Item.{Item}
use Rattle.document_words.specs.Words.{CutOf, ended, letter_of, letters, occurrences, words, words_from, words_with}

abbrev pub Letters : Type 0
Letters = List (Option ℕ)

no_item : {i : Item} → None ≡ Some i → ⊥
no_item e = true≢false (sym (ap is_some e))

same_item : {x i : Item} → Some x ≡ Some i → x ≡ i
same_item {x} e = ap (λ o. unwrap_or o x) e

-- ---- one break

ended_before : (v : Key) (a b : List Key) → ended v (a ++ b) ≡ ended v a ++ b
ended_before [] a b = refl
ended_before (x ∷ v) a b = refl

-- a break parts the words in front of it from those after it
words_break : (v : Key) (a b : Letters) → words_from v (a ++ None ∷ b) ≡ words_from v a ++ words b
words_break v [] b = ended_before v [] (words b)
words_break v (None ∷ a) b = ap (ended v) (words_break [] a b) ∙ ended_before v (words_from [] a) (words b)
words_break v (Some c ∷ a) b = words_break (v ++ encode_utf8 c) a b

-- a break at the end is no word
words_broken : (a : Letters) → words (a ++ None ∷ []) ≡ words a
words_broken a = words_break [] a [] ∙ append-nil (words a)

-- ---- where a word begins

letter_or_break : (ls : Letters) (n : ℕ) → n < length ls → has_letter ls n ≡ false → ls ≡ take n ls ++ None ∷ drop (suc n) ls
letter_or_break [] n h e = absurd (omega arith)
letter_or_break (None ∷ ls) zero h e = refl
letter_or_break (Some c ∷ ls) zero h e = absurd (true≢false e)
letter_or_break (l ∷ ls) (suc n) h e = ap (λ z. l ∷ z) (letter_or_break ls n (omega arith) e)

take_one : (ls : Letters) (n : ℕ) → n < length ls → has_letter ls n ≡ false → take (suc n) ls ≡ take n ls ++ None ∷ []
take_one [] n h e = absurd (omega arith)
take_one (None ∷ ls) zero h e = refl
take_one (Some c ∷ ls) zero h e = absurd (true≢false e)
take_one (l ∷ ls) (suc n) h e = ap (λ z. l ∷ z) (take_one ls n (omega arith) e)

pub words_front : (ls : Letters) (n : ℕ) → n ≤ length ls → words ls ≡ words (take (begin_of ls n) ls) ++ words (drop (begin_of ls n) ls)
words_front ls zero h = refl
words_front ls (suc n) h = go (words_front ls n (omega arith)) (has_letter ls n) refl
  where
    go : words ls ≡ words (take (begin_of ls n) ls) ++ words (drop (begin_of ls n) ls) → (b : Bool) → has_letter ls n ≡ b → words ls ≡ words (take (cond b (begin_of ls n) (suc n)) ls) ++ words (drop (cond b (begin_of ls n) (suc n)) ls)
    go again true e = again
    go again false e =
        ap words (letter_or_break ls n (omega arith) e) ∙ words_break [] (take n ls) (drop (suc n) ls)
        ∙ ap (λ z. z ++ words (drop (suc n) ls)) (sym (words_broken (take n ls)) ∙ ap words (sym (take_one ls n (omega arith) e)))

pub begin_before : (ls : Letters) (n : ℕ) → begin_of ls n ≤ n
begin_before ls zero = omega arith
begin_before ls (suc n) = go (begin_before ls n) (has_letter ls n)
  where
    go : begin_of ls n ≤ n → (b : Bool) → cond b (begin_of ls n) (suc n) ≤ suc n
    go again true = omega arith
    go again false = omega arith

-- ---- where a word ends

reached : (v : Key) (xs : Letters) → words_from v xs ≡ words_from v (take (reach xs) xs) ++ words (drop (reach xs) xs)
reached v [] = sym (append-nil (ended v []))
reached v (None ∷ xs) = ended_before v [] (words xs)
reached v (Some c ∷ xs) = reached (v ++ encode_utf8 c) xs

reached_behind : (v : Key) (a xs : Letters) → words_from v (a ++ xs) ≡ words_from v (a ++ take (reach xs) xs) ++ words (drop (reach xs) xs)
reached_behind v [] xs = reached v xs
reached_behind v (None ∷ a) xs = ap (ended v) (reached_behind [] a xs) ∙ ended_before v _ _
reached_behind v (Some c ∷ a) xs = reached_behind (v ++ encode_utf8 c) a xs

pub words_back : (ls : Letters) (n : ℕ) → words ls ≡ words (take (end_of ls n) ls) ++ words (drop (end_of ls n) ls)
words_back ls n =
    ap words (sym (take-append-drop n ls)) ∙ reached_behind [] (take n ls) (drop n ls)
    ∙ (λ i. words (sym (take-add n (reach (drop n ls)) ls) i) ++ words (drop-drop (reach (drop n ls)) n ls i))

pub reach_inside : (xs : Letters) → reach xs ≤ length xs
reach_inside [] = omega arith
reach_inside (None ∷ xs) = omega arith
reach_inside (Some c ∷ xs) = let h = reach_inside xs in omega arith

-- ---- as they are looked for

one_on : (n : ℕ) → suc n ≡ n + 1
one_on n = omega arith

pub begin_on : (ls : Letters) (n : ℕ) → 0 < n → has_letter ls (n - 1) ≡ true → begin_of ls n ≡ begin_of ls (n - 1)
begin_on ls zero h e = absurd (omega arith)
begin_on ls (suc n) h e = subst (λ k. begin_of ls (suc n) ≡ begin_of ls k) (pred_of n) (ap (λ b. cond b (begin_of ls n) (suc n)) (subst (λ k. has_letter ls k ≡ true) (sym (pred_of n)) e))
  where
    pred_of : (n : ℕ) → n ≡ suc n - 1
    pred_of n = omega arith

pub begin_here : (ls : Letters) (n : ℕ) → 0 < n → has_letter ls (n - 1) ≡ false → begin_of ls n ≡ n
begin_here ls zero h e = absurd (omega arith)
begin_here ls (suc n) h e = ap (λ b. cond b (begin_of ls n) (suc n)) (subst (λ k. has_letter ls k ≡ false) (sym (pred_of n)) e)
  where
    pred_of : (n : ℕ) → n ≡ suc n - 1
    pred_of n = omega arith

pub begin_next : (ls : Letters) (p s : ℕ) → s < p → has_letter ls (p - s - 1) ≡ true → begin_of ls (p - s) ≡ begin_of ls p → begin_of ls (p - (s + 1)) ≡ begin_of ls p
begin_next ls p s h e i = subst (λ k. begin_of ls k ≡ begin_of ls p) (further p s) (sym (begin_on ls (p - s) (omega arith) e) ∙ i)
  where
    further : (p s : ℕ) → p - s - 1 ≡ p - (s + 1)
    further p s = omega arith

reach_on : (ls : Letters) (n : ℕ) → has_letter ls n ≡ true → reach (drop n ls) ≡ suc (reach (drop (suc n) ls))
reach_on [] n e = absurd (true≢false (sym e))
reach_on (None ∷ ls) zero e = absurd (true≢false (sym e))
reach_on (Some c ∷ ls) zero e = refl
reach_on (l ∷ ls) (suc n) e = reach_on ls n e

reach_here : (ls : Letters) (n : ℕ) → has_letter ls n ≡ false → reach (drop n ls) ≡ 0
reach_here [] zero e = refl
reach_here [] (suc n) e = refl
reach_here (None ∷ ls) zero e = refl
reach_here (Some c ∷ ls) zero e = absurd (true≢false e)
reach_here (l ∷ ls) (suc n) e = reach_here ls n e

pub end_on : (ls : Letters) (n : ℕ) → has_letter ls n ≡ true → end_of ls (n + 1) ≡ end_of ls n
end_on ls n e =
    let r = reach_on ls n e in
    let s : reach (drop (n + 1) ls) ≡ reach (drop (suc n) ls) = ap (λ k. reach (drop k ls)) (sym (one_on n)) in
    omega arith

pub end_here : (ls : Letters) (n : ℕ) → has_letter ls n ≡ false → end_of ls n ≡ n
end_here ls n e = let r = reach_here ls n e in omega arith

past : (ls : Letters) (n : ℕ) → length ls ≤ n → has_letter ls n ≡ false
past [] n h = refl
past (l ∷ ls) zero h = absurd (omega arith)
past (l ∷ ls) (suc n) h = past ls n (omega arith)

pub end_last : (ls : Letters) (n : ℕ) → length ls ≤ n → end_of ls n ≡ n
end_last ls n h = end_here ls n (past ls n h)

pub end_inside : (ls : Letters) (n : ℕ) → n ≤ length ls → end_of ls n ≤ length ls
end_inside ls n h =
    let r = reach_inside (drop n ls) in
    let l = length-drop n ls in
    omega arith

next_letter : (items : List Item) (k n : ℕ) (i : Item) → k < n → slice_get items k ≡ Some i → drop k (take n items) ≡ i ∷ drop (suc k) (take n items)
next_letter items k zero i h e = absurd (omega arith)
next_letter [] k (suc n) i h e = absurd (no_item e)
next_letter (x ∷ items) zero (suc n) i h e = ap (λ z. z ∷ take n items) (same_item e)
next_letter (x ∷ items) (suc k) (suc n) i h e = next_letter items k n i (omega arith) e

-- a letter more is put
pub letter_next : (c d : CutOf) (items : List Item) (k n : ℕ) (i : Item) (l : Option ℕ) → k < n → slice_get items k ≡ Some i → l ≡ letter_of i.content
    → ((ls : Letters) → words_with d ls ≡ words_with c (l ∷ ls)) → words_with d (letters (drop (k + 1) (take n items))) ≡ words_with c (letters (drop k (take n items)))
letter_next c d items k n i l m g e h =
    h (letters (drop (k + 1) (take n items))) ∙ (λ j. words_with c (e j ∷ letters (drop (k + 1) (take n items))))
    ∙ ap (λ z. words_with c (letters (i ∷ drop z (take n items)))) (sym (one_on k)) ∙ ap (λ z. words_with c (letters z)) (sym (next_letter items k n i m g))

-- a stretch of items, as its places were found
count_letters : (items : List Item) (n : ℕ) → n ≡ length items → n ≡ length (letters items)
count_letters items n l = l ∙ sym (length-map items (λ i. letter_of i.content))

pub widened_items : (items : List Item) (p s n f e : ℕ) → n ≡ length items → nat_le (p + s) n ≡ true → f ≡ begin_of (letters items) p → e ≡ end_of (letters items) (n - s)
    → letters (drop f (take e items)) ≡ stretch p s (letters items)
widened_items items p s n f e l h b u =
    let few : nat_le (p + s) (length (letters items)) ≡ true = sym (ap (nat_le (p + s)) (count_letters items n l)) ∙ h in
    sym (ap (drop f) (take-map (λ i. letter_of i.content) e items) ∙ drop-map (λ i. letter_of i.content) f (take e items))
    ∙ (λ i. drop (b i) (take ((u ∙ ap (λ z. end_of (letters items) (z - s)) (count_letters items n l)) i) (letters items)))
    ∙ sym (ap (λ t. cond t (widened p s (letters items)) (letters items)) few)

pub unfit_items : (items : List Item) (p s n : ℕ) → n ≡ length items → nat_le (p + s) n ≡ false → letters items ≡ stretch p s (letters items)
unfit_items items p s n l h =
    sym (ap (λ t. cond t (widened p s (letters items)) (letters items)) (sym (ap (nat_le (p + s)) (count_letters items n l)) ∙ h))

-- ---- what is the same at the front, begins at the same place

letter_taken : (ls : Letters) (k n : ℕ) → n < k → has_letter (take k ls) n ≡ has_letter ls n
letter_taken ls zero n h = absurd (omega arith)
letter_taken [] (suc k) n h = refl
letter_taken (l ∷ ls) (suc k) zero h = refl
letter_taken (l ∷ ls) (suc k) (suc n) h = letter_taken ls k n (omega arith)

begin_taken : (ls : Letters) (k n : ℕ) → n ≤ k → begin_of (take k ls) n ≡ begin_of ls n
begin_taken ls k zero h = refl
begin_taken ls k (suc n) h = (λ i. cond (letter_taken ls k n (omega arith) i) (begin_taken ls k n (omega arith) i) (suc n))

pub take_twice : (ls : Letters) (n k : ℕ) → n ≤ k → take n (take k ls) ≡ take n ls
take_twice ls zero k h = refl
take_twice ls (suc n) zero h = absurd (omega arith)
take_twice [] (suc n) (suc k) h = refl
take_twice (l ∷ ls) (suc n) (suc k) h = ap (λ z. l ∷ z) (take_twice ls n k (omega arith))

-- ---- how often a word stands

pub occurrences-append : (w : Key) (a b : List Key) → occurrences w (a ++ b) ≡ occurrences w a + occurrences w b
occurrences-append w [] b = omega arith
occurrences-append w (v ∷ a) b = ap (λ n. cond (same_text w v) 1 0 + n) (occurrences-append w a b) ∙ omega arith

length_taken : (ls : Letters) (k n : ℕ) → n ≤ k → n ≤ length ls → n ≤ length (take k ls)
length_taken ls k zero h g = omega arith
length_taken ls zero (suc n) h g = absurd (omega arith)
length_taken [] (suc k) (suc n) h g = absurd (omega arith)
length_taken (l ∷ ls) (suc k) (suc n) h g = let r = length_taken ls k n (omega arith) (omega arith) in omega arith

parts : (p s : ℕ) (ls : Letters) (w : Key) → p + s ≤ length ls → occurrences w (words ls)
    ≡ occurrences w (words (take (begin_of ls p) ls)) + occurrences w (words (widened p s ls)) + occurrences w (words (drop (end_of ls (length ls - s)) ls))
parts p s ls w h =
    let k = length ls - s in
    let e = end_of ls k in
    let low : p ≤ e = omega arith in
    let f = begin_of ls p in
    let few : p ≤ length (take e ls) = length_taken ls e p low (omega arith) in
    ap (occurrences w) (words_back ls k) ∙ occurrences-append w (words (take e ls)) (words (drop e ls))
    ∙ ap (λ n. n + occurrences w (words (drop e ls)))
    (ap (occurrences w) (words_front (take e ls) p few) ∙ occurrences-append w _ _
    ∙ (λ i. occurrences w (words (take (begin_taken ls e p low i) (take e ls))) + occurrences w (words (drop (begin_taken ls e p low i) (take e ls))))
    ∙ ap (λ z. occurrences w (words z) + occurrences w (words (widened p s ls))) (take_twice ls f e (let b = begin_before ls p in omega arith)))

moved_by : (a x b a' y b' t u : ℕ) → t ≡ a + x + b → u ≡ a' + y + b' → a ≡ a' → b ≡ b' → (t - x) + y ≡ u
moved_by a x b a' y b' t u p q r s = omega arith

-- what is the same at the front and at the back has the same words there
pub moved_words : (p s : ℕ) (ls ms : Letters) (w : Key) → IsSplit p s ls ms → (occurrences w (words ls) - occurrences w (words (stretch p s ls))) + occurrences w (words (stretch p s ms)) ≡ occurrences w (words ms)
moved_words p s ls ms w h =
    let same_begin : begin_of ls p ≡ begin_of ms p = sym (begin_taken ls p p (omega arith)) ∙ ap (λ z. begin_of z p) h.front ∙ begin_taken ms p p (omega arith) in
    let front : take (begin_of ls p) ls ≡ take (begin_of ms p) ms =
    sym (take_twice ls (begin_of ls p) p (begin_before ls p)) ∙ (λ i. take (same_begin i) (h.front i)) ∙ take_twice ms (begin_of ms p) p (begin_before ms p) in
    let back : drop (end_of ls (length ls - s)) ls ≡ drop (end_of ms (length ms - s)) ms =
    sym (drop-drop (reach (drop (length ls - s) ls)) (length ls - s) ls) ∙ (λ i. drop (reach (h.back i)) (h.back i)) ∙ drop-drop (reach (drop (length ms - s) ms)) (length ms - s) ms in
    (λ i. (occurrences w (words ls) - occurrences w (words (cond (le-leb (p + s) (length ls) h.fits i) (widened p s ls) ls))) + occurrences w (words (cond (le-leb (p + s) (length ms) h.also i) (widened p s ms) ms)))
    ∙ moved_by _ _ _ _ _ _ _ _ (parts p s ls w h.fits) (parts p s ms w h.also) (ap (λ z. occurrences w (words z)) front) (ap (λ z. occurrences w (words z)) back)

-- a stretch has no more than the whole
pub at_most : (p s : ℕ) (ls : Letters) (w : Key) → occurrences w (words (stretch p s ls)) ≤ occurrences w (words ls)
at_most p s ls w = go (nat_le (p + s) (length ls)) refl
  where
    go : (b : Bool) → nat_le (p + s) (length ls) ≡ b → occurrences w (words (cond b (widened p s ls) ls)) ≤ occurrences w (words ls)
    go true e = let h = parts p s ls w (leb-true (p + s) (length ls) e) in omega arith
    go false e = omega arith
