-- How the words that are kept follow a wavelet.
--     mutated_later, mutated_more, first_is     which operation is the first on a document
--     step_on, all_moved        words are moved document by document
--     went_on, went_back        after a delta, and after one that was refused
--     counts_alike, counts_moved     what is kept, by another name
--     words_next, words_back    the words of all wavelets, after a delta of one
--     none_counted, no_histories     nothing stands in no document
--     own_counts, new_counts, put_counts     of all histories
--     hits_are                  the documents that are kept for a word are its hits
use Rattle.std.proofs.Common.{Result, Ok, Err, OnOk, OnErr, Less, Equal, Greater, Ordering, arith, ◌≡◌, ℕ, zero, suc, ◌+◌, ◌-◌, ◌<◌, ◌≤◌, Bool, true, false, cond, not, ◌&&◌, ◌||◌, nat_lt, List, [], ◌∷◌, ◌++◌, length, take, drop, get_or, map, refl, sym, ap, subst, ◌∙◌, Option, Some, None, unwrap_or, is_some, is_eq, IfSome, true≢false}
use Rattle.std.specs.Cmp.Lexicographic.{slice_cmp, texts_ties}
use Rattle.std.specs.FinMap as finite
use Rattle.std.specs.FinMap.{get, insert}
use Rattle.std.specs.List.{AllByRecursion, filter, list_any}
use Rattle.std.specs.List.Sorted.{IsStrictlySortedBy}
use Rattle.std.specs.Option.{option_map_or}
use Rattle.std.specs.Ordering.{nat_cmp, eq_by_cmp, is_lt}
use Rattle.std.proofs.lemmas.Bool.{and_parts}
use Rattle.std.proofs.lemmas.Cmp.{nat_list_cmp_total, eq_by_cmp_equiv}
use Rattle.std.proofs.lemmas.List.{take_all}
use Rattle.std.proofs.lemmas.List.Kept.{IsStrictlySortedBy-filter}
use Rattle.std.proofs.lemmas.Map.Lookups.{btree_set_from_contains, exact_bytes}
use Rattle.std.proofs.lemmas.Map.Views.{any-filter_same}
use Rattle.doc_items.specs.Maps.{Key, same_text}
use Rattle.doc_items.specs.declared.item.Item.{Item}
use Rattle.doc_items.proofs.Maps.{tie, tied}
use Rattle.doc_items.proofs.Rising.{Rising, entries_rise}
use Rattle.doc_op.specs.declared.op.DocOp.{DocOp}
use Rattle.document_words.specs.Places.{count_in}
use Rattle.document_words.specs.Stretches.{stretch, fits, widened}
use Rattle.document_words.specs.Words.{letters, words, document_words, occurrences}
use Rattle.document_words.specs.declared.places.WordPlaces.{WordPlaces}
use Rattle.document_words.proofs.Stretching.{Letters, moved_words, at_most}
use Rattle.wavelet_op.specs.Acts.{meanings}
use Rattle.wavelet_op.specs.States.{State, empty_state, document_of, kept, run}
use Rattle.wavelet_op.specs.declared.op.WaveletOp.{WaveletOp}
use Rattle.wavelet_op.specs.declared.op.WaveletOp.TheVariants.{NoOp, Add, Remove, Mutate, SetRole}
use Rattle.wavelet_op.specs.Deltas.{DeltaOf}
use Rattle.wavelet_op.proofs.Maps.{same_text_is}
use Rattle.delta_history.specs.Histories.{HistoryOf, IsGrown, head_of}
use Rattle.delta_history.specs.Legal.{IsLegal, IsLegalFrom}
use Rattle.delta_history.specs.Points.{Point, start, acts_of, end_of}
use Rattle.delta_history.proofs.Chains.{legal_after}
use Rattle.delta_history.proofs.Points.{after_point, replay_more}
use Rattle.wave_index.specs.Blips.{manifest}
use Rattle.wave_index.specs.Counts.{counted, counts_in, touched_words, touched, moved, CountsAs, IsOf}
use Rattle.wave_index.specs.Edges.{untouched, both, edges_of, is_on, edges_over, edges_in, is_mutated, is_first, IsApartAt}
use Rattle.wave_index.specs.Inboxes.{sees, is_hit, hit_at, hits_for, hits_among, hits_at, search}
use Rattle.wave_index.specs.Taken.{TakenOf, Histories, point_of}
use Rattle.wave_index.specs.declared.answers.Hit.{Hit}
use Rattle.wave_index.specs.declared.edges.Edges.{Edges}
use Rattle.wave_index.specs.declared.kept.Way.{Way}
use Rattle.wave_index.specs.declared.kept.Way.TheVariants.{Out, In}
use Rattle.wave_index.proofs.Apart.{run_apart}

-- ---- which operation is the first on a document

pub mutated_later : (d : Key) (os : List WaveletOp) (i : ℕ) → is_mutated d (take i os) ≡ true → is_mutated d (take (suc i) os) ≡ true
mutated_later d [] zero h = h
mutated_later d [] (suc i) h = h
mutated_later d (o ∷ os) zero h = absurd (true≢false (sym h))
mutated_later d (o ∷ os) (suc i) h = go (is_on d o) (mutated_later d os i) h
  where
    go : (b : Bool) → (is_mutated d (take i os) ≡ true → is_mutated d (take (suc i) os) ≡ true) → (b || is_mutated d (take i os)) ≡ true → (b || is_mutated d (take (suc i) os)) ≡ true
    go true f e = refl
    go false f e = f e

or_more : (a b c : Bool) → (a || (b || c)) ≡ ((a || b) || c)
or_more true b c = refl
or_more false b c = refl

pub mutated_more : (d : Key) (os : List WaveletOp) (i : ℕ) (o : WaveletOp) → i < length os → o ≡ get_or os i o → is_mutated d (take (suc i) os) ≡ (is_mutated d (take i os) || is_on d o)
mutated_more d [] i o h e = absurd (omega arith)
mutated_more d (x ∷ os) zero o h e = or_none (is_on d x) ∙ ap (is_on d) (sym e)
  where
    or_none : (b : Bool) → (b || false) ≡ b
    or_none true = refl
    or_none false = refl
mutated_more d (x ∷ os) (suc i) o h e = ap (λ b. is_on d x || b) (mutated_more d os i o (omega arith) e) ∙ or_more (is_on d x) (is_mutated d (take i os)) (is_on d o)

newly : (a b : Bool) → ((a || b) && not a) ≡ (b && not a)
newly true true = refl
newly true false = refl
newly false true = refl
newly false false = refl

one_on : (n : ℕ) → n + 1 ≡ suc n
one_on n = omega arith

pub first_is : (d : Key) (os : List WaveletOp) (i : ℕ) (o : WaveletOp) → i < length os → o ≡ get_or os i o → is_first d os i ≡ (is_on d o && not (is_mutated d (take i os)))
first_is d os i o h e =
    ap (λ k. is_mutated d (take k os) && not (is_mutated d (take i os))) (one_on i)
    ∙ ap (λ b. b && not (is_mutated d (take i os))) (mutated_more d os i o h e)
    ∙ newly (is_mutated d (take i os)) (is_on d o)

pub moved_none : (y : Way) (x : ℕ) → moved y x 0 ≡ x
moved_none Out x = omega arith
moved_none In x = omega arith

pub never_first : (k : Key) (op : DocOp) (os : List WaveletOp) (i : ℕ) (d : Key) → i < length os → Mutate k op ≡ get_or os i (Mutate k op) → is_mutated k (take i os) ≡ true → is_first d os i ≡ false
never_first k op os i d h e m = first_is d os i (Mutate k op) h e ∙ go (same_text k d) refl
  where
    go : (b : Bool) → same_text k d ≡ b → (b && not (is_mutated d (take i os))) ≡ false
    go true f = ap not (subst (λ (z : Key). is_mutated z (take i os) ≡ true) (same_text_is k d f) m)
    go false f = refl

both_if : (m a : Bool) (t : ℕ) → cond (m && a) t 0 ≡ cond a (cond m t 0) 0
both_if true true t = refl
both_if true false t = refl
both_if false true t = refl
both_if false false t = refl

pub not_first : (y : Way) (m : Bool) (k : Key) (op : DocOp) (os : List WaveletOp) (i x t : ℕ) (d : Key) → i < length os → Mutate k op ≡ get_or os i (Mutate k op) → is_mutated k (take i os) ≡ true → x ≡ moved y x (cond (m && is_first d os i) t 0)
not_first y m k op os i x t d h e g =
    sym (ap (moved y x) (both_if m (is_first d os i) t ∙ ap (λ b. cond b (cond m t 0) 0) (never_first k op os i d h e g)) ∙ moved_none y x)

pub is_the_first : (k : Key) (op : DocOp) (os : List WaveletOp) (i : ℕ) (d : Key) → i < length os → Mutate k op ≡ get_or os i (Mutate k op) → is_mutated k (take i os) ≡ false → same_text k d ≡ is_first d os i
is_the_first k op os i d h e m = sym (first_is d os i (Mutate k op) h e ∙ go (same_text k d) refl)
  where
    go : (b : Bool) → same_text k d ≡ b → (b && not (is_mutated d (take i os))) ≡ b
    go true f = ap not (subst (λ (z : Key). is_mutated z (take i os) ≡ false) (same_text_is k d f) m)
    go false f = refl

-- ---- words are moved document by document

step_by : (y : Way) (x t : ℕ) (a b : Bool) → (a ≡ true → b ≡ true) → moved y (moved y x (cond a t 0)) (cond (b && not a) t 0) ≡ moved y x (cond b t 0)
step_by y x t true b h = ap (λ c. moved y (moved y x t) (cond (c && false) t 0)) (h refl) ∙ moved_none y (moved y x t) ∙ ap (λ c. moved y x (cond c t 0)) (sym (h refl))
step_by y x t false true h = ap (λ z. moved y z t) (moved_none y x)
step_by y x t false false h = moved_none y (moved y x 0)

pub step_on : (y : Way) (m : Bool) (d : Key) (os : List WaveletOp) (i x z n t : ℕ) → z ≡ moved y x (cond (m && is_mutated d (take i os)) t 0) → n ≡ moved y z (cond (m && is_first d os i) t 0)
    → n ≡ moved y x (cond (m && is_mutated d (take (i + 1) os)) t 0)
step_on y m d os i x z n t e f =
    f ∙ ap (λ k. moved y k (cond (m && is_first d os i) t 0)) e
    ∙ (λ j. moved y (moved y x (both_if m (is_mutated d (take i os)) t j)) (both_if m (is_first d os i) t j))
    ∙ step_by y x (cond m t 0) (is_mutated d (take i os)) (is_mutated d (take (i + 1) os)) (λ h. subst (λ k. is_mutated d (take k os) ≡ true) (sym (one_on i)) (mutated_later d os i h))
    ∙ ap (moved y x) (sym (both_if m (is_mutated d (take (i + 1) os)) t))

unmutated : (e : Edges) (d : Key) (os : List WaveletOp) → is_mutated d os ≡ false → edges_over e d os ≡ e
unmutated e d [] h = refl
unmutated e d (NoOp ∷ os) h = unmutated e d os h
unmutated e d (Add a ∷ os) h = unmutated e d os h
unmutated e d (Remove a ∷ os) h = unmutated e d os h
unmutated e d (SetRole a old new ∷ os) h = unmutated e d os h
unmutated e d (Mutate c op ∷ os) h = go (unmutated e d os) (same_text c d) h
  where
    go : (is_mutated d os ≡ false → edges_over e d os ≡ e) → (b : Bool) → (b || is_mutated d os) ≡ false → edges_over (cond b (both e (edges_of op)) e) d os ≡ e
    go f true h = absurd (true≢false h)
    go f false h = f h

zero_if : (b : Bool) → ◌≡◌ {A = ℕ} (cond b 0 0) 0
zero_if true = refl
zero_if false = refl

pub untouched_none : (s : State) (os : List WaveletOp) (w d : Key) → is_mutated d os ≡ false → touched s os w d ≡ 0
untouched_none s os w d h =
    ap (λ (e : Edges). cond (same_text d manifest) 0 (occurrences w (touched_words e (letters (document_of s d))))) (unmutated untouched d os h) ∙ zero_if (same_text d manifest)

pub all_moved : (y : Way) (m : Bool) (s : State) (os : List WaveletOp) (i : ℕ) (w d : Key) (x n : ℕ) → length os ≤ i → n ≡ moved y x (cond (m && is_mutated d (take i os)) (touched s os w d) 0) → n ≡ moved y x (cond m (touched s os w d) 0)
all_moved y m s os i w d x n h e =
    e ∙ ap (λ (l : List WaveletOp). moved y x (cond (m && is_mutated d l) (touched s os w d) 0)) (take_all i os h)
    ∙ ap (moved y x) (both_if m (is_mutated d os) (touched s os w d) ∙ go m (is_mutated d os) refl)
  where
    go : (m b : Bool) → is_mutated d os ≡ b → cond b (cond m (touched s os w d) 0) 0 ≡ cond m (touched s os w d) 0
    go m true t = refl
    go true false t = sym (untouched_none s os w d t)
    go false false t = refl

-- ---- after a delta, and after one that was refused

went_at : (m : Bool) (w : Key) (o : Option ℕ) (b : ℕ) (ls ms : Letters) → IsApartAt o b ls ms
    → moved In (moved Out (cond m 0 (occurrences w (words ls))) (cond m 0 (occurrences w (option_map_or (λ p. words (stretch p b ls)) o [])))) (cond m 0 (occurrences w (option_map_or (λ p. words (stretch p b ms)) o []))) ≡ cond m 0 (occurrences w (words ms))
went_at true w o b ls ms h = refl
went_at false w None b ls ms h = ap (λ (z : Letters). (occurrences w (words z) - 0) + 0) h ∙ omega arith
went_at false w (Some p) b ls ms h = moved_words p b ls ms w h

pub went_on : (os : List WaveletOp) (s t : State) → run s (meanings os) ≡ Some t → (w d : Key) → moved In (moved Out (counted s w d) (touched s os w d)) (touched t os w d) ≡ counted t w d
went_on os s t h w d = went_at (same_text d manifest) w (edges_in d os).front (edges_in d os).back (letters (document_of s d)) (letters (document_of t d)) (run_apart d os s t h)

back_at : (m : Bool) (w : Key) (o : Option ℕ) (b : ℕ) (ls : Letters)
    → moved In (moved Out (cond m 0 (occurrences w (words ls))) (cond m 0 (occurrences w (option_map_or (λ p. words (stretch p b ls)) o [])))) (cond m 0 (occurrences w (option_map_or (λ p. words (stretch p b ls)) o []))) ≡ cond m 0 (occurrences w (words ls))
back_at true w o b ls = refl
back_at false w None b ls = omega arith
back_at false w (Some p) b ls = let h = at_most p b ls w in omega arith

pub went_back : (os : List WaveletOp) (s : State) (w d : Key) → moved In (moved Out (counted s w d) (touched s os w d)) (touched s os w d) ≡ counted s w d
went_back os s w d = back_at (same_text d manifest) w (edges_in d os).front (edges_in d os).back (letters (document_of s d))

pub counts_alike : (o : Option WordPlaces) (f g : Key → Key → Key → ℕ) → ((w n d : Key) → f w n d ≡ g w n d) → CountsAs o f → CountsAs o g
counts_alike None f g h c = tt
counts_alike (Some p) f g h c = λ w n d. c w n d ∙ h w n d

pub counts_moved : (o : Option WordPlaces) (y : Way) (p : WordPlaces) (f t : Key → Key → Key → ℕ) → ((w n d : Key) → count_in p w n d ≡ f w n d)
    → IfSome o (λ q. (w n d : Key) → count_in q w n d ≡ moved y (count_in p w n d) (t w n d)) → CountsAs o (λ w n d. moved y (f w n d) (t w n d))
counts_moved None y p f t c h = tt
counts_moved (Some q) y p f t c h = λ w n d. h w n d ∙ ap (λ k. moved y k (t w n d)) (c w n d)

-- ---- nothing stands in no document

no_item_left : (n m : ℕ) (ls : Letters) → ls ≡ [] → drop n (take m ls) ≡ []
no_item_left n m ls e = ap (λ (z : Letters). drop n (take m z)) e ∙ go n m
  where
    nil : Letters
    nil = []

    none : (n : ℕ) → drop n nil ≡ nil
    none zero = refl
    none (suc n) = refl

    go : (n m : ℕ) → drop n (take m nil) ≡ nil
    go n zero = none n
    go n (suc m) = none n

pub no_stretch : (p s : ℕ) (items : List Item) → items ≡ [] → words (stretch p s (letters items)) ≡ []
no_stretch p s items e = ap (λ (z : List Item). words (stretch p s (letters z))) e ∙ ap words (go (fits p s []))
  where
    go : (b : Bool) → cond b (widened p s []) [] ≡ []
    go true = no_item_left _ _ [] refl
    go false = refl

pub no_items : (items : List Item) → None ≡ kept items → items ≡ []
no_items [] e = refl
no_items (i ∷ items) e = absurd (true≢false (sym (ap is_some e)))

pub none_counted : (w d : Key) → 0 ≡ counted empty_state w d
none_counted w d = sym (ap (λ (o : Option (List Item)). cond (same_text d manifest) 0 (occurrences w (document_words (unwrap_or o [])))) (finite.get-empty (slice_cmp nat_cmp) d) ∙ zero_if (same_text d manifest))

pub no_histories : (w n d : Key) → 0 ≡ counts_in finite.empty w n d
no_histories w n d = sym (ap (λ (o : Option TakenOf). option_map_or (λ t. counted (point_of t).state w d) o 0) (finite.get-empty (slice_cmp nat_cmp) n))

-- ---- the state after a delta

pub next_state : (h k : HistoryOf) (d : DeltaOf) → IsLegal k.name k.deltas → IsGrown h d k → run (head_of h).state (acts_of d) ≡ Some (head_of k).state
next_state h k d l g =
    let whole : IsLegalFrom h.name [] (h.deltas ++ d ∷ []) = subst (λ (n : List ℕ). IsLegalFrom n [] (h.deltas ++ d ∷ [])) g.name (subst (λ (ds : List DeltaOf). IsLegalFrom k.name [] ds) g.deltas l) in
    let n = (legal_after h.name [] h.deltas (d ∷ []) whole).0 in
    let b = after_point n.here n.after d n.goes in
    let before : head_of h ≡ n.here = ap (λ (o : Option Point). unwrap_or o (start h.name)) n.is_head in
    let after : head_of k ≡ n.after =
    (λ i. end_of (g.name i) (g.deltas i)) ∙ ap (λ (o : Option Point). unwrap_or o (start h.name)) (replay_more (start h.name) n.here n.after h.deltas d n.is_head n.goes) in
    ap (λ (p : Point). run p.state (acts_of d)) before ∙ b.goes ∙ ap (λ (s : State). Some s) (sym b.same ∙ ap (λ (p : Point). p.state) (sym after))

pub words_next : (o p q : Option WordPlaces) (os : List WaveletOp) (k a b : Key) (s r t u : State) → a ≡ k → b ≡ k → r ≡ s → u ≡ t → run s (meanings os) ≡ Some t
    → ((f : Key → Key → Key → ℕ) → CountsAs o f → CountsAs p (λ w n d. moved Out (f w n d) (cond (same_text a n) (touched r os w d) 0)))
    → ((f : Key → Key → Key → ℕ) → CountsAs p f → CountsAs q (λ w n d. moved In (f w n d) (cond (same_text b n) (touched u os w d) 0)))
    → (f : Key → Key → Key → ℕ) → IsOf f k s → CountsAs o f → CountsAs q (λ w n d. cond (same_text k n) (counted t w d) (f w n d))
words_next o p q os k a b s r t u ea eb er eu h x y f i c =
    counts_alike q (λ w n d. moved In (moved Out (f w n d) (cond (same_text a n) (touched r os w d) 0)) (cond (same_text b n) (touched u os w d) 0)) (λ w n d. cond (same_text k n) (counted t w d) (f w n d))
    (λ w n d. (λ j. moved In (moved Out (f w n d) (cond (same_text (ea j) n) (touched (er j) os w d) 0)) (cond (same_text (eb j) n) (touched (eu j) os w d) 0)) ∙ go w n d (same_text k n) refl)
    (y (λ w n d. moved Out (f w n d) (cond (same_text a n) (touched r os w d) 0)) (x f c))
  where
    go : (w n d : Key) (m : Bool) → same_text k n ≡ m → moved In (moved Out (f w n d) (cond m (touched s os w d) 0)) (cond m (touched t os w d) 0) ≡ cond m (counted t w d) (f w n d)
    go w n d true e = ap (λ z. moved In (moved Out z (touched s os w d)) (touched t os w d)) (ap (λ z. f w z d) (sym (same_text_is k n e)) ∙ i w d) ∙ went_on os s t h w d
    go w n d false e = moved_none In (moved Out (f w n d) 0) ∙ moved_none Out (f w n d)

pub words_back : (o p q : Option WordPlaces) (os : List WaveletOp) (k a b : Key) (s r u : State) → a ≡ k → b ≡ k → r ≡ s → u ≡ s
    → ((f : Key → Key → Key → ℕ) → CountsAs o f → CountsAs p (λ w n d. moved Out (f w n d) (cond (same_text a n) (touched r os w d) 0)))
    → ((f : Key → Key → Key → ℕ) → CountsAs p f → CountsAs q (λ w n d. moved In (f w n d) (cond (same_text b n) (touched u os w d) 0)))
    → (f : Key → Key → Key → ℕ) → IsOf f k s → CountsAs o f → CountsAs q f
words_back o p q os k a b s r u ea eb er eu x y f i c =
    counts_alike q (λ w n d. moved In (moved Out (f w n d) (cond (same_text a n) (touched r os w d) 0)) (cond (same_text b n) (touched u os w d) 0)) f
    (λ w n d. (λ j. moved In (moved Out (f w n d) (cond (same_text (ea j) n) (touched (er j) os w d) 0)) (cond (same_text (eb j) n) (touched (eu j) os w d) 0)) ∙ go w n d (same_text k n) refl)
    (y (λ w n d. moved Out (f w n d) (cond (same_text a n) (touched r os w d) 0)) (x f c))
  where
    go : (w n d : Key) (m : Bool) → same_text k n ≡ m → moved In (moved Out (f w n d) (cond m (touched s os w d) 0)) (cond m (touched s os w d) 0) ≡ f w n d
    go w n d true e =
        let is = ap (λ z. f w z d) (sym (same_text_is k n e)) ∙ i w d in
        ap (λ z. moved In (moved Out z (touched s os w d)) (touched s os w d)) is ∙ went_back os s w d ∙ sym is
    go w n d false e = moved_none In (moved Out (f w n d) 0) ∙ moved_none Out (f w n d)

-- ---- the documents that are kept for a word are its hits

lt_is : (o : Ordering) → is_lt o ≡ true → o ≡ Less
lt_is Less e = refl
lt_is Equal e = absurd (true≢false (sym e))
lt_is Greater e = absurd (true≢false (sym e))

abbrev below : {X : Type 0} → Key → List (Key × X) → Bool
below k [] = true
below k (e ∷ es) = is_lt (slice_cmp nat_cmp k e.0) && below k es

all_below : {X : Type 0} (k : Key) (es : List (Key × X)) → below k es ≡ true → AllByRecursion (λ q. slice_cmp nat_cmp k q ≡ Less) (map (λ e. e.0) es)
all_below k [] h = tt
all_below k (e ∷ es) h = let p = and_parts _ _ h in (lt_is (slice_cmp nat_cmp k e.0) p.0, all_below k es p.1)

in_order : {X : Type 0} (es : List (Key × X)) → Rising es → IsStrictlySortedBy (slice_cmp nat_cmp) (map (λ e. e.0) es)
unfolding IsStrictlySortedBy
in_order [] h = tt
in_order (e ∷ es) h = let p = and_parts _ _ h in (all_below e.0 es p.0, in_order es p.1)

above_none : (m : Bool) (n : ℕ) → nat_lt 0 (cond m 0 n) ≡ (not m && nat_lt 0 n)
above_none true n = refl
above_none false n = refl

hit_there : (m : Bool) (w : Key) (o : Option (List Item)) → ((not m && nat_lt 0 (occurrences w (document_words (unwrap_or o [])))) && is_some o) ≡ (not m && nat_lt 0 (occurrences w (document_words (unwrap_or o []))))
hit_there true w o = refl
hit_there false w None = refl
hit_there false w (Some items) = and_one (nat_lt 0 (occurrences w (document_words items)))
  where
    and_one : (b : Bool) → (b && true) ≡ b
    and_one true = refl
    and_one false = refl

pub hits_are : (p : WordPlaces) (s : State) (w n : Key) (hs : List Key) → IsStrictlySortedBy (slice_cmp nat_cmp) hs → ((d : Key) → list_any (eq_by_cmp (slice_cmp nat_cmp) d) hs ≡ nat_lt 0 (count_in p w n d))
    → ((v d : Key) → count_in p v n d ≡ counted s v d) → hs ≡ filter (is_hit s w) (finite.keys s.documents)
unfolding tie
hits_are p s w n hs order among counts =
    btree_set_from_contains nat_list_cmp_total (record { keys = hs }) (record { keys = filter (is_hit s w) (finite.keys s.documents) }) order
    (IsStrictlySortedBy-filter (slice_cmp nat_cmp) (is_hit s w) (finite.keys s.documents) (in_order (finite.entries s.documents) (entries_rise s.documents)))
    (λ d. among d ∙ ap (nat_lt 0) (counts w d) ∙ above_none (same_text d manifest) _
    ∙ sym (any-filter_same (eq_by_cmp (slice_cmp nat_cmp) d) (is_hit s w) (is_hit s w d) (λ k e. ap (is_hit s w) (sym (tied d k e))) (finite.keys s.documents)
    ∙ ap (λ b. is_hit s w d && b) (sym (finite.contains_key-keys s.documents d)) ∙ hit_there (same_text d manifest) w (finite.get s.documents d)))
    exact_bytes

-- ---- all histories

pub own_counts : (m : Histories) (k : Key) (t : TakenOf) → get m k ≡ Some t → t.name ≡ k → IsOf (counts_in m) t.name (point_of t).state
own_counts m k t e h w d = ap (λ (n : Key). counts_in m w n d) h ∙ ap (λ (o : Option TakenOf). option_map_or (λ t. counted (point_of t).state w d) o 0) e

pub new_counts : (m : Histories) (t : TakenOf) → get m t.name ≡ None → (point_of t).state ≡ empty_state → IsOf (counts_in m) t.name (point_of t).state
new_counts m t e h w d = ap (λ (o : Option TakenOf). option_map_or (λ t. counted (point_of t).state w d) o 0) e ∙ none_counted w d ∙ ap (λ (s : State). counted s w d) (sym h)

pub put_counts : (o : Option WordPlaces) (m : Histories) (k n : Key) (t : TakenOf) → k ≡ n → CountsAs o (λ w q d. cond (same_text k q) (counted (point_of t).state w d) (counts_in m w q d)) → CountsAs o (counts_in (insert m n t))
unfolding tie
put_counts o m k n t e c = counts_alike o _ (counts_in (insert m n t)) (λ w q d.
    ap (λ (b : Bool). cond b (counted (point_of t).state w d) (counts_in m w q d)) (ap (λ (z : Key). same_text z q) e ∙ texts_ties n q ∙ turned n q)
    ∙ chosen (eq_by_cmp (slice_cmp nat_cmp) q n) w q d ∙ sym (ap (λ (p : Option TakenOf). option_map_or (λ t. counted (point_of t).state w d) p 0) (finite.get-insert nat_list_cmp_total m n t q))) c
  where
    turned : (n q : Key) → is_eq (slice_cmp nat_cmp n q) ≡ eq_by_cmp (slice_cmp nat_cmp) q n
    turned n q = (eq_by_cmp_equiv nat_list_cmp_total).symm n q

    chosen : (b : Bool) (w q d : Key) → cond b (counted (point_of t).state w d) (counts_in m w q d) ≡ option_map_or (λ t. counted (point_of t).state w d) (cond b (Some t) (get m q)) 0
    chosen true w q d = refl
    chosen false w q d = refl

-- ---- all hits

abbrev pub walk : (Key → List Hit) → List Key → List Hit
walk g [] = []
walk g (k ∷ ks) = g k ++ walk g ks

-- what gives nothing may be left out
left_out : (g : Key → List Hit) (p : Key → Bool) (ks : List Key) → ((k : Key) → p k ≡ false → g k ≡ []) → walk g (filter p ks) ≡ walk g ks
left_out g p [] h = refl
left_out g p (k ∷ ks) h = go (left_out g p ks h) (p k) refl
  where
    go : walk g (filter p ks) ≡ walk g ks → (b : Bool) → p k ≡ b → walk g (cond b (k ∷ filter p ks) (filter p ks)) ≡ g k ++ walk g ks
    go again true e = ap (λ z. g k ++ z) again
    go again false e = again ∙ ap (λ z. z ++ walk g ks) (sym (h k e))

-- in a list of entries in order each stands at its key
entry_hits : (m : Histories) (user w : Key) (es : List (Key × TakenOf)) → AllByRecursion (λ e. get m e.0 ≡ Some e.1) es → hits_among es user w ≡ walk (hits_at m user w) (map (λ e. e.0) es)
entry_hits m user w [] h = refl
entry_hits m user w (e ∷ es) h = (λ j. option_map_or (λ t. hits_for t user w) (sym h.0 j) [] ++ entry_hits m user w es h.1 j)

pub no_hits : (t : TakenOf) (user w : Key) → ((d : Key) → counted (point_of t).state w d ≡ 0) → hits_for t user w ≡ []
no_hits t user w h = ap (λ (ds : List Key). cond (sees t user) (map (hit_at t.name) ds) []) (none_in (finite.keys (point_of t).state.documents)) ∙ nothing (sees t user)
  where
    nothing : (b : Bool) → ◌≡◌ {A = List Hit} (cond b [] []) []
    nothing true = refl
    nothing false = refl

    none_in : (ds : List Key) → filter (is_hit (point_of t).state w) ds ≡ []
    none_in [] = refl
    none_in (d ∷ ds) = ap (λ b. cond b (d ∷ filter (is_hit (point_of t).state w) ds) (filter (is_hit (point_of t).state w) ds)) (sym (above_none (same_text d manifest) _) ∙ ap (nat_lt 0) (h d)) ∙ none_in ds

pub get_as : (m : Histories) (user w k : Key) (o : Option TakenOf) → get m k ≡ o → hits_at m user w k ≡ option_map_or (λ t. hits_for t user w) o []
get_as m user w k o e = ap (λ (p : Option TakenOf). option_map_or (λ t. hits_for t user w) p []) e

none_at : (m : Histories) (user w k : Key) → is_some (get m k) ≡ false → hits_at m user w k ≡ []
none_at m user w k h = go (get m k) refl h
  where
    go : (o : Option TakenOf) → get m k ≡ o → is_some o ≡ false → hits_at m user w k ≡ []
    go None e f = get_as m user w k None e
    go (Some t) e f = absurd (true≢false f)

none_kept : (m : Histories) (user w k : Key) → ((d : Key) → counts_in m w k d ≡ 0) → hits_at m user w k ≡ []
none_kept m user w k h = go (get m k) refl
  where
    go : (o : Option TakenOf) → get m k ≡ o → hits_at m user w k ≡ []
    go None e = get_as m user w k None e
    go (Some t) e = get_as m user w k (Some t) e ∙ no_hits t user w (λ d. sym (ap (λ (p : Option TakenOf). option_map_or (λ t. counted (point_of t).state w d) p 0) e) ∙ h d)

tail_found : (e : Key × TakenOf) (es ds : List (Key × TakenOf)) → AllByRecursion (λ q. slice_cmp nat_cmp e.0 q ≡ Less) (map (λ f. f.0) ds) → AllByRecursion (λ f. finite.find (slice_cmp nat_cmp) f.0 es ≡ Some f.1) ds
    → AllByRecursion (λ f. finite.find (slice_cmp nat_cmp) f.0 (e ∷ es) ≡ Some f.1) ds
tail_found e es [] h g = tt
tail_found e es (f ∷ ds) h g =
    (ap (λ b. cond b (Some e.1) (finite.find (slice_cmp nat_cmp) f.0 es)) ((eq_by_cmp_equiv nat_list_cmp_total).symm f.0 e.0 ∙ ap is_eq h.0) ∙ g.0, tail_found e es ds h.1 g.1)

all_found : (es : List (Key × TakenOf)) → Rising es → AllByRecursion (λ f. finite.find (slice_cmp nat_cmp) f.0 es ≡ Some f.1) es
all_found [] h = tt
all_found (e ∷ es) h =
    let p = and_parts _ _ h in
    (ap (λ b. cond b (Some e.1) (finite.find (slice_cmp nat_cmp) e.0 es)) ((eq_by_cmp_equiv nat_list_cmp_total).refl e.0), tail_found e es es (all_below e.0 es p.0) (all_found es p.1))

and_turned : (a b : Bool) → (a && b) ≡ (b && a)
and_turned true true = refl
and_turned true false = refl
and_turned false true = refl
and_turned false false = refl

pub all_hits : (p : WordPlaces) (m : Histories) (user w : Key) (hs : List Key) → IsStrictlySortedBy (slice_cmp nat_cmp) hs
    → ((n d : Key) → list_any (eq_by_cmp (slice_cmp nat_cmp) n) hs ≡ false → count_in p w n d ≡ 0) → ((v n d : Key) → count_in p v n d ≡ counts_in m v n d) → walk (hits_at m user w) hs ≡ search m user w
unfolding tie
all_hits p m user w hs order rest counts =
    let g = hits_at m user w in
    let among = λ (k : Key). list_any (eq_by_cmp (slice_cmp nat_cmp) k) hs in
    let same : filter (finite.contains_key m) hs ≡ filter among (finite.keys m) =
    btree_set_from_contains nat_list_cmp_total (record { keys = filter (finite.contains_key m) hs }) (record { keys = filter among (finite.keys m) })
    (IsStrictlySortedBy-filter (slice_cmp nat_cmp) (finite.contains_key m) hs order)
    (IsStrictlySortedBy-filter (slice_cmp nat_cmp) among (finite.keys m) (in_order (finite.entries m) (entries_rise m)))
    (λ q. any-filter_same (eq_by_cmp (slice_cmp nat_cmp) q) (finite.contains_key m) (finite.contains_key m q) (λ k e. ap (finite.contains_key m) (sym (tied q k e))) hs
    ∙ and_turned (finite.contains_key m q) (among q)
    ∙ ap (λ b. among q && b) (finite.contains_key-keys m q)
    ∙ sym (any-filter_same (eq_by_cmp (slice_cmp nat_cmp) q) among (among q) (λ k e. ap among (sym (tied q k e))) (finite.keys m)))
    exact_bytes in
    sym (left_out g (finite.contains_key m) hs (none_at m user w)) ∙ ap (walk g) same
    ∙ left_out g among (finite.keys m) (λ k h. none_kept m user w k (λ d. sym (counts w k d) ∙ rest k d h))
    ∙ sym (entry_hits m user w (finite.entries m) (found_by m))
  where
    found_by : (m : Histories) → AllByRecursion (λ e. get m e.0 ≡ Some e.1) (finite.entries m)
    found_by m = by (finite.entries m) (all_found (finite.entries m) (entries_rise m))
      where
        by : (ds : List (Key × TakenOf)) → AllByRecursion (λ f. finite.find (slice_cmp nat_cmp) f.0 (finite.entries m) ≡ Some f.1) ds → AllByRecursion (λ e. get m e.0 ≡ Some e.1) ds
        by [] h = tt
        by (e ∷ ds) h = (finite.get-entries m e.0 ∙ h.0, by ds h.1)

-- ---- as it is found

pub found : (os : List WaveletOp) (i : ℕ) (o k : WaveletOp) → o ≡ get_or os i o → o ≡ k → k ≡ get_or os i k
found os i o k e h = subst (λ (z : WaveletOp). z ≡ get_or os i z) h e

module _ {A E : Type 0} where
  pub either_of : (r : Result A E) {P : Type 0} → OnOk r P → OnErr r P → P
  either_of (Ok x) f g = f
  either_of (Err e) f g = g

  pub both_to : (r : Result A E) {P Q R : Type 0} → (P → Q → R) → OnErr r P → OnErr r Q → OnErr r R
  both_to (Ok x) f p q = tt
  both_to (Err e) f p q = f p q

  pub ok_to : (r : Result A E) {P Q : Type 0} → (P → Q) → OnOk r P → OnOk r Q
  ok_to (Ok x) f h = f h
  ok_to (Err e) f h = tt
