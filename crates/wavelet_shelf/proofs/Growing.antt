-- Lists of histories.
--     put_in x hs             one of a name that isn't there takes its place, and one of a name that is takes the other's
--     names_put               names ascend as before
--     shown_from, shown_ascend    those that are shown ascend too
--     no_deltas               a name that isn't there has no deltas
--     deltas_shown            the deltas of a name are those that are shown
--     shown_grown             a history that grows is shown grown
--     shown_none              one without deltas isn't shown
--     grows_alone             the law
use Rattle.std.proofs.Common.{Less, Equal, Greater, ◌≡◌, ◌≢◌, Bool, true, false, cond, List, [], ◌∷◌, ◌++◌, refl, sym, ap, subst, ◌∙◌}
use Rattle.std.specs.Cmp.Lexicographic.{slice_cmp, bytes_decides}
use Rattle.std.specs.Ordering.{nat_cmp, ordering_reverse}
use Rattle.std.specs.declared.cmp.Ordering.{Ordering}
use Rattle.doc_items.specs.Maps.{Key, same_text}
use Rattle.wavelet_op.specs.Deltas.{DeltaOf}
use Rattle.delta_history.specs.Copying.{AscendFrom, AreAscending}
use Rattle.wavelet_shelf.specs.Entries.{shown_by, shown}
use Rattle.wavelet_shelf.specs.Hosting.{Hosted, names_of, deltas_in, begun, grown_by, grown_in, GrowsAlone}
use Rattle.wavelet_shelf.proofs.Names.{own, unlike, unlike_above, decided, lower, any, tied, even, turned}

abbrev pub put_by : Ordering → Hosted → Hosted → List Hosted → List Hosted → List Hosted
put_by Less x h hs rest = x ∷ h ∷ hs
put_by Equal x h hs rest = x ∷ hs
put_by Greater x h hs rest = h ∷ rest

abbrev pub put_in : Hosted → List Hosted → List Hosted
put_in x [] = x ∷ []
put_in x (h ∷ hs) = put_by (slice_cmp nat_cmp x.name h.name) x h hs (put_in x hs)

abbrev pub hosted : Key → List DeltaOf → Hosted
hosted n ds = record { name = n; deltas = ds }

-- ---- names

put_from : (n : Key) (x : Hosted) (hs : List Hosted) → slice_cmp nat_cmp n x.name ≡ Less → AscendFrom n (names_of hs) → AscendFrom n (names_of (put_in x hs))
put_from n x [] e a = (e, tt)
put_from n x (h ∷ hs) e a = go (put_from h.name x hs) (slice_cmp nat_cmp x.name h.name) refl
  where
    go : (slice_cmp nat_cmp h.name x.name ≡ Less → AscendFrom h.name (names_of hs) → AscendFrom h.name (names_of (put_in x hs))) → (o : Ordering) → slice_cmp nat_cmp x.name h.name ≡ o → AscendFrom n (names_of (put_by o x h hs (put_in x hs)))
    go again Less f = (e, (f, a.1))
    go again Equal f = (e, subst (λ k. AscendFrom k (names_of hs)) (sym (tied x.name h.name f)) a.1)
    go again Greater f = (a.0, again (turned x.name h.name ∙ ap ordering_reverse f) a.1)

pub names_put : (x : Hosted) (hs : List Hosted) → AreAscending (names_of hs) → AreAscending (names_of (put_in x hs))
names_put x [] a = tt
names_put x (h ∷ hs) a = go (slice_cmp nat_cmp x.name h.name) refl
  where
    go : (o : Ordering) → slice_cmp nat_cmp x.name h.name ≡ o → AreAscending (names_of (put_by o x h hs (put_in x hs)))
    go Less f = (f, a)
    go Equal f = subst (λ k. AscendFrom k (names_of hs)) (sym (tied x.name h.name f)) a
    go Greater f = put_from h.name x hs (turned x.name h.name ∙ ap ordering_reverse f) a

pub shown_from : (n : Key) (hs : List Hosted) → AscendFrom n (names_of hs) → AscendFrom n (names_of (shown hs))
shown_from n [] a = tt
shown_from n (h ∷ hs) a = go (shown_from h.name hs a.1) h.deltas
  where
    go : AscendFrom h.name (names_of (shown hs)) → (ds : List DeltaOf) → AscendFrom n (names_of (shown_by h ds (shown hs)))
    go rest [] = lower n h.name (names_of (shown hs)) a.0 rest
    go rest (d ∷ ds) = (a.0, rest)

pub shown_ascend : (hs : List Hosted) → AreAscending (names_of hs) → AreAscending (names_of (shown hs))
shown_ascend [] a = tt
shown_ascend (h ∷ hs) a = go h.deltas
  where
    go : (ds : List DeltaOf) → AreAscending (names_of (shown_by h ds (shown hs)))
    go [] = any h.name (names_of (shown hs)) (shown_from h.name hs a)
    go (d ∷ ds) = shown_from h.name hs a

-- ---- deltas

pub no_deltas : (n : Key) (hs : List Hosted) → AscendFrom n (names_of hs) → deltas_in hs n ≡ []
no_deltas n [] a = refl
no_deltas n (h ∷ hs) a = ap (λ t. cond t h.deltas (deltas_in hs n)) (unlike n h.name a.0) ∙ no_deltas n hs (lower n h.name (names_of hs) a.0 a.1)

grown_before : (n : Key) (d : DeltaOf) (hs : List Hosted) → AscendFrom n (names_of hs) → grown_in hs n d ≡ begun n d ∷ hs
grown_before n d [] a = refl
grown_before n d (h ∷ hs) a = ap (λ o. grown_by o h hs (grown_in hs n d) n d) a.0

pub deltas_shown : (hs : List Hosted) (n : Key) → AreAscending (names_of hs) → deltas_in (shown hs) n ≡ deltas_in hs n
deltas_shown [] n a = refl
deltas_shown (h ∷ hs) n a = go (deltas_shown hs n (any h.name (names_of hs) a)) h.deltas refl
  where
    none : deltas_in (shown hs) n ≡ deltas_in hs n → (t : Bool) → same_text n h.name ≡ t → h.deltas ≡ [] → deltas_in (shown hs) n ≡ cond t h.deltas (deltas_in hs n)
    none rest true e f = ap (deltas_in (shown hs)) ((bytes_decides n h.name).0 e) ∙ no_deltas h.name (shown hs) (shown_from h.name hs a) ∙ sym f
    none rest false e f = rest

    go : deltas_in (shown hs) n ≡ deltas_in hs n → (ds : List DeltaOf) → h.deltas ≡ ds → deltas_in (shown_by h ds (shown hs)) n ≡ cond (same_text n h.name) h.deltas (deltas_in hs n)
    go rest [] e = none rest (same_text n h.name) refl e
    go rest (d ∷ ds) e = ap (cond (same_text n h.name) h.deltas) rest

-- ---- a history that grows

shown_more : (n : Key) (ds : List DeltaOf) (d : DeltaOf) (hs : List Hosted) → shown (hosted n (ds ++ d ∷ []) ∷ hs) ≡ hosted n (ds ++ d ∷ []) ∷ shown hs
shown_more n [] d hs = refl
shown_more n (e ∷ ds) d hs = refl

pub shown_grown : (hs : List Hosted) (n : Key) (d : DeltaOf) → AreAscending (names_of hs) → shown (put_in (hosted n (deltas_in hs n ++ d ∷ [])) hs) ≡ grown_in (shown hs) n d
shown_grown [] n d a = refl
shown_grown (h ∷ hs) n d a = go (shown_grown hs n d (any h.name (names_of hs) a)) (slice_cmp nat_cmp n h.name) refl
  where
    old : List DeltaOf
    old = deltas_in (h ∷ hs) n

    first : slice_cmp nat_cmp n h.name ≡ Less → shown (hosted n (old ++ d ∷ []) ∷ h ∷ hs) ≡ grown_in (shown (h ∷ hs)) n d
    first e =
        let from : AscendFrom n (names_of (h ∷ hs)) = (e, a) in
        ap (λ ds. shown (hosted n (ds ++ d ∷ []) ∷ h ∷ hs)) (no_deltas n (h ∷ hs) from) ∙ sym (grown_before n d (shown (h ∷ hs)) (shown_from n (h ∷ hs) from))

    here : n ≡ h.name → (ds : List DeltaOf) → h.deltas ≡ ds → hosted n (h.deltas ++ d ∷ []) ∷ shown hs ≡ grown_in (shown_by h ds (shown hs)) n d
    here e [] f = (λ i. hosted n (f i ++ d ∷ []) ∷ shown hs) ∙ sym (grown_before n d (shown hs) (subst (λ k. AscendFrom k (names_of (shown hs))) (sym e) (shown_from h.name hs a)))
    here e (x ∷ ds) f = (λ i. hosted (e i) (h.deltas ++ d ∷ []) ∷ shown hs) ∙ sym (ap (λ o. grown_by o h (shown hs) (grown_in (shown hs) n d) n d) (subst (λ k. slice_cmp nat_cmp n k ≡ Equal) e (even n)))

    behind : slice_cmp nat_cmp n h.name ≡ Greater → (ds : List DeltaOf) → shown_by h ds (grown_in (shown hs) n d) ≡ grown_in (shown_by h ds (shown hs)) n d
    behind e [] = refl
    behind e (x ∷ ds) = sym (ap (λ o. grown_by o h (shown hs) (grown_in (shown hs) n d) n d) e)

    go : shown (put_in (hosted n (deltas_in hs n ++ d ∷ [])) hs) ≡ grown_in (shown hs) n d → (o : Ordering) → slice_cmp nat_cmp n h.name ≡ o → shown (put_by o (hosted n (old ++ d ∷ [])) h hs (put_in (hosted n (old ++ d ∷ [])) hs)) ≡ grown_in (shown (h ∷ hs)) n d
    go rest Less e = first e
    go rest Equal e =
        let same = tied n h.name e in
        let is : old ≡ h.deltas = ap (λ t. cond t h.deltas (deltas_in hs n)) (subst (λ k. same_text n k ≡ true) same (own n)) in
        ap (λ ds. shown (hosted n (ds ++ d ∷ []) ∷ hs)) is ∙ shown_more n h.deltas d hs ∙ here same h.deltas refl
    go rest Greater e =
        let is : old ≡ deltas_in hs n = ap (λ t. cond t h.deltas (deltas_in hs n)) (unlike_above n h.name e) in
        ap (λ ds. shown_by h h.deltas (shown (put_in (hosted n (ds ++ d ∷ [])) hs))) is ∙ ap (shown_by h h.deltas) rest ∙ behind e h.deltas

-- the name has no deltas before either
pub shown_none : (hs : List Hosted) (n : Key) → AreAscending (names_of hs) → deltas_in hs n ≡ [] → shown (put_in (hosted n []) hs) ≡ shown hs
shown_none [] n a none = refl
shown_none (h ∷ hs) n a none = go (shown_none hs n (any h.name (names_of hs) a)) (slice_cmp nat_cmp n h.name) refl
  where
    go : (deltas_in hs n ≡ [] → shown (put_in (hosted n []) hs) ≡ shown hs) → (o : Ordering) → slice_cmp nat_cmp n h.name ≡ o → shown (put_by o (hosted n []) h hs (put_in (hosted n []) hs)) ≡ shown (h ∷ hs)
    go rest Less e = refl
    go rest Equal e =
        let is : h.deltas ≡ [] = sym (ap (λ t. cond t h.deltas (deltas_in hs n)) (subst (λ k. same_text n k ≡ true) (tied n h.name e) (own n))) ∙ none in
        sym (ap (λ ds. shown_by h ds (shown hs)) is)
    go rest Greater e = ap (shown_by h h.deltas) (rest (sym (ap (λ t. cond t h.deltas (deltas_in hs n)) (unlike_above n h.name e)) ∙ none))

-- ---- the law

grown_there : (hs : List Hosted) (n : Key) (d : DeltaOf) → AreAscending (names_of hs) → deltas_in (grown_in hs n d) n ≡ deltas_in hs n ++ d ∷ []
grown_there [] n d a = ap (λ t. cond t (d ∷ []) []) (own n)
grown_there (h ∷ hs) n d a = go (grown_there hs n d (any h.name (names_of hs) a)) (slice_cmp nat_cmp n h.name) refl
  where
    go : deltas_in (grown_in hs n d) n ≡ deltas_in hs n ++ d ∷ [] → (o : Ordering) → slice_cmp nat_cmp n h.name ≡ o → deltas_in (grown_by o h hs (grown_in hs n d) n d) n ≡ deltas_in (h ∷ hs) n ++ d ∷ []
    go rest Less e = ap (λ t. cond t (d ∷ []) (deltas_in (h ∷ hs) n)) (own n) ∙ sym (ap (λ ds. ds ++ d ∷ []) (no_deltas n (h ∷ hs) (e, a)))
    go rest Equal e =
        let t = subst (λ k. same_text n k ≡ true) (tied n h.name e) (own n) in
        ap (λ t. cond t (h.deltas ++ d ∷ []) (deltas_in hs n)) t ∙ sym (ap (λ t. cond t h.deltas (deltas_in hs n) ++ d ∷ []) t)
    go rest Greater e =
        let t = unlike_above n h.name e in
        ap (λ t. cond t h.deltas (deltas_in (grown_in hs n d) n)) t ∙ rest ∙ sym (ap (λ t. cond t h.deltas (deltas_in hs n) ++ d ∷ []) t)

grown_others : (hs : List Hosted) (n : Key) (d : DeltaOf) (m : Key) → m ≢ n → deltas_in (grown_in hs n d) m ≡ deltas_in hs m
grown_others [] n d m other = ap (λ t. cond t (d ∷ []) []) (decided m n other)
grown_others (h ∷ hs) n d m other = go (grown_others hs n d m other) (slice_cmp nat_cmp n h.name) refl
  where
    go : deltas_in (grown_in hs n d) m ≡ deltas_in hs m → (o : Ordering) → slice_cmp nat_cmp n h.name ≡ o → deltas_in (grown_by o h hs (grown_in hs n d) n d) m ≡ deltas_in (h ∷ hs) m
    go rest Less e = ap (λ t. cond t (d ∷ []) (deltas_in (h ∷ hs) m)) (decided m n other)
    go rest Equal e =
        let t = decided m h.name (λ f. other (f ∙ sym (tied n h.name e))) in
        ap (λ t. cond t (h.deltas ++ d ∷ []) (deltas_in hs m)) t ∙ sym (ap (λ t. cond t h.deltas (deltas_in hs m)) t)
    go rest Greater e = ap (cond (same_text m h.name) h.deltas) rest

grown_from : (k : Key) (hs : List Hosted) (n : Key) (d : DeltaOf) → slice_cmp nat_cmp k n ≡ Less → AscendFrom k (names_of hs) → AscendFrom k (names_of (grown_in hs n d))
grown_from k [] n d e a = (e, tt)
grown_from k (h ∷ hs) n d e a = go (grown_from h.name hs n d) (slice_cmp nat_cmp n h.name) refl
  where
    go : (slice_cmp nat_cmp h.name n ≡ Less → AscendFrom h.name (names_of hs) → AscendFrom h.name (names_of (grown_in hs n d))) → (o : Ordering) → slice_cmp nat_cmp n h.name ≡ o → AscendFrom k (names_of (grown_by o h hs (grown_in hs n d) n d))
    go rest Less f = (e, (f, a.1))
    go rest Equal f = a
    go rest Greater f = (a.0, rest (turned n h.name ∙ ap ordering_reverse f) a.1)

grown_ascend : (hs : List Hosted) (n : Key) (d : DeltaOf) → AreAscending (names_of hs) → AreAscending (names_of (grown_in hs n d))
grown_ascend [] n d a = tt
grown_ascend (h ∷ hs) n d a = go (slice_cmp nat_cmp n h.name) refl
  where
    go : (o : Ordering) → slice_cmp nat_cmp n h.name ≡ o → AreAscending (names_of (grown_by o h hs (grown_in hs n d) n d))
    go Less f = (f, a)
    go Equal f = a
    go Greater f = grown_from h.name hs n d (turned n h.name ∙ ap ordering_reverse f) a

pub grows_alone : GrowsAlone
grows_alone = record { there = grown_there; others = grown_others; ascending = grown_ascend }
