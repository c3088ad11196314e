-- Marks of what was loaded.
--     loaded_replay            they give just that
--     loaded_faults            none of them tells of a fault
--     own_founded              each is of a wavelet of the shard
--     own_all                  what a domain hosts of a shard
--     all_in                   the histories of a shard
--     both_ways                the histories of a shard that a domain hosts, and those that it hosts of the shard
--     loaded_copies            no copy is made by them
--     new_replay, new_copies, new_own, new_faults     so a new shard keeps what it must
--     loaded_push, loaded_length, loaded_at     shards of some shelves: one more, how many there are, and what one is
--     parts_in                 the histories of a part of a shelf
--     seen_loaded              the marks of one shard of a shelf that was divided
use Rattle.std.proofs.Common.{Less, ◌≡◌, ◌≢◌, ◌⊎◌, inl, inr, ◌<◌, ◌≤◌, ℕ, min, zero, suc, ◌+◌, Bool, true, false, ◌&&◌, nat_eq, cond, List, [], ◌∷◌, ◌++◌, length, map, filter, slice_get, get_or, Option, Some, None, IfSome, refl, sym, ap, subst, ◌∙◌, arith, append-nil, append_assoc}
use Rattle.std.specs.Cmp.Lexicographic.{slice_cmp}
use Rattle.std.specs.List.{AllByRecursion, list_all}
use Rattle.std.specs.Ordering.{nat_cmp, ordering_reverse}
use Rattle.std.proofs.lemmas.Bool.{and_parts}
use Rattle.std.proofs.lemmas.Cmp.{nat_list_cmp_total}
use Rattle.std.proofs.lemmas.Option.{slice_get_cases}
use Rattle.std.specs.FinMap.{empty}
use Rattle.doc_items.specs.Maps.{Key}
use Rattle.replica_store.specs.Worlds.{Worlds, with_taken}
use Rattle.wavelet_op.specs.Deltas.{DeltaOf}
use Rattle.delta_history.specs.Copying.{AscendFrom, AreAscending}
use Rattle.disk_model.specs.declared.disk.Disk as disk_of
use Rattle.wave_outside.specs.declared.folder.Folder as folder_of
use Rattle.wavelet_shelf.specs.FileNames.{shard_of}
use Rattle.wavelet_shelf.specs.Hosting.{Hosted, names_of, grown_by, grown_in, HaveDeltas}
use Rattle.wavelet_shelf.specs.Parts.{is_in, IsPart}
use Rattle.wavelet_shelf.specs.Shelves.{hosted_of}
use Rattle.wavelet_shelf.specs.declared.shelf.Shelf.{Shelf}
use Rattle.wavelet_shelf.proofs.Names.{any, even, turned}
use Rattle.hosted_copies.specs.Domains.{is_hosted_by, hosted_by}
use Rattle.hosted_copies.proofs.Hosts.{hosted_ascend, hosted_have}
use Rattle.shard_marks.specs.declared.mark.Mark.{Mark}
use Rattle.shard_marks.specs.declared.mark.Mark.TheVariants.{Applied}
use Rattle.session_hub.specs.declared.shard.Shard.{Shard}
use Rattle.session_hub.specs.Entries.{entries_of, IsLoaded, AreLoaded}
use Rattle.shard_marks.specs.Marks.{is_of, is_own_mark, replayed_on, replayed, copied_on, copied, founded, loaded_one, loaded, fault_count, most_faults}
use Rattle.shard_marks.proofs.Founded.{founded_own}
use Rattle.shard_marks.proofs.Copying.{no_copy}
use Rattle.shard_marks.proofs.Replaying.{replayed_more}

abbrev hosted : Key → List DeltaOf → Hosted
hosted n ds = record { name = n; deltas = ds }

above_last : (m : Key) (gs : List Hosted) (h : Hosted) (hs : List Hosted) → AscendFrom m (names_of (gs ++ h ∷ hs)) → slice_cmp nat_cmp m h.name ≡ Less
above_last m [] h hs a = a.0
above_last m (g ∷ gs) h hs a = nat_list_cmp_total.trans m g.name h.name a.0 (above_last g.name gs h hs a.1)

grown_last : (gs : List Hosted) (h : Hosted) (hs : List Hosted) (x : DeltaOf) → AreAscending (names_of (gs ++ h ∷ hs)) → (rest : List Hosted) → grown_in (gs ++ rest) h.name x ≡ gs ++ grown_in rest h.name x
grown_last [] h hs x a rest = refl
grown_last (g ∷ gs) h hs x a rest =
    ap (λ o. grown_by o g (gs ++ rest) (grown_in (gs ++ rest) h.name x) h.name x) (turned g.name h.name ∙ ap ordering_reverse (above_last g.name gs h hs a))
    ∙ ap (λ l. g ∷ l) (grown_last gs h hs x (any g.name (names_of (gs ++ h ∷ hs)) a) rest)

-- ---- faults

faults_on : (n : Key) (xs : List DeltaOf) (ms : List Mark) → fault_count (map (λ x. Applied n x) xs ++ ms) ≡ fault_count ms
faults_on n [] ms = refl
faults_on n (x ∷ xs) ms = let rest = faults_on n xs ms in omega (arith, rest)

pub loaded_faults : (hs : List Hosted) → fault_count (loaded hs) ≡ 0
loaded_faults [] = refl
loaded_faults (h ∷ hs) = faults_on h.name h.deltas (loaded hs) ∙ loaded_faults hs

-- ---- copies

module _ (d : Key) (k : ℕ) where
  no_copies_on : (cs : Worlds) (n : Key) (xs : List DeltaOf) (ms : List Mark) → is_of d k n ≡ true → copied_on d k cs (map (λ x. Applied n x) xs ++ ms) ≡ copied_on d k cs ms
  no_copies_on cs n [] ms own = refl
  no_copies_on cs n (x ∷ xs) ms own =
      ap (λ b. copied_on d k (cond b (with_taken cs n x) cs) (map (λ x. Applied n x) xs ++ ms)) (no_copy d k n (and_parts (is_hosted_by d n) (nat_eq (shard_of n) k) own).0)
      ∙ no_copies_on cs n xs ms own

  pub loaded_copies : (cs : Worlds) (hs : List Hosted) → AllByRecursion (λ h. is_of d k h.name ≡ true) hs → copied_on d k cs (loaded hs) ≡ cs
  loaded_copies cs [] own = refl
  loaded_copies cs (h ∷ hs) own = no_copies_on cs h.name h.deltas (loaded hs) own.0 ∙ loaded_copies cs hs own.1

module _ (d : Key) (k : ℕ) where
  -- ---- what the marks give

  module _ (gs : List Hosted) (h : Hosted) (hs : List Hosted) (a : AreAscending (names_of (gs ++ h ∷ hs))) (own : is_of d k h.name ≡ true) where
    more_of : (ds xs : List DeltaOf) → replayed_on d k (gs ++ hosted h.name ds ∷ []) (map (λ x. Applied h.name x) xs) ≡ gs ++ hosted h.name (ds ++ xs) ∷ []
    more_of ds [] = ap (λ l. gs ++ hosted h.name l ∷ []) (sym (append-nil ds))
    more_of ds (x ∷ xs) =
        let old = gs ++ hosted h.name ds ∷ [] in
        ap (λ l. replayed_on d k l (map (λ x. Applied h.name x) xs))
        (ap (λ b. cond b (grown_in old h.name x) old) own ∙ grown_last gs h hs x a (hosted h.name ds ∷ []) ∙ ap (λ o. gs ++ grown_by o (hosted h.name ds) [] (grown_in [] h.name x) h.name x) (even h.name))
        ∙ more_of (ds ++ x ∷ []) xs ∙ ap (λ l. gs ++ hosted h.name l ∷ []) (append_assoc ds (x ∷ []) xs)

    first_of : h.deltas ≢ [] → replayed_on d k gs (loaded_one h) ≡ gs ++ h ∷ []
    first_of have = go h.deltas refl
      where
        go : (ds : List DeltaOf) → h.deltas ≡ ds → replayed_on d k gs (map (λ x. Applied h.name x) ds) ≡ gs ++ h ∷ []
        go [] e = absurd (have e)
        go (x ∷ xs) e =
            ap (λ l. replayed_on d k l (map (λ x. Applied h.name x) xs)) (ap (λ b. cond b (grown_in gs h.name x) gs) own ∙ sym (ap (λ l. grown_in l h.name x) (append-nil gs)) ∙ grown_last gs h hs x a [])
            ∙ more_of (x ∷ []) xs ∙ ap (λ ds. gs ++ hosted h.name ds ∷ []) (sym e)

  all_of : (gs hs : List Hosted) → AreAscending (names_of (gs ++ hs)) → AllByRecursion (λ h. is_of d k h.name ≡ true) hs → HaveDeltas hs → replayed_on d k gs (loaded hs) ≡ gs ++ hs
  all_of gs [] a own have = sym (append-nil gs)
  all_of gs (h ∷ hs) a own have =
      let whole = append_assoc gs (h ∷ []) hs in
      replayed_more d k gs (loaded_one h) (loaded hs) ∙ ap (λ l. replayed_on d k l (loaded hs)) (first_of gs h hs a own.0 have.0)
      ∙ all_of (gs ++ h ∷ []) hs (subst (λ l. AreAscending (names_of l)) (sym whole) a) own.1 have.1 ∙ whole

  pub loaded_replay : (hs : List Hosted) → AreAscending (names_of hs) → AllByRecursion (λ h. is_of d k h.name ≡ true) hs → HaveDeltas hs → hs ≡ replayed d k (founded d k (loaded hs))
  loaded_replay hs a own have = sym (all_of [] hs a own have)

  pub own_all : (hs : List Hosted) → AllByRecursion (λ h. is_in k h.name ≡ true) hs → AllByRecursion (λ h. is_of d k h.name ≡ true) (hosted_by d hs)
  own_all [] all = tt
  own_all (h ∷ hs) all = go (is_hosted_by d h.name) refl (own_all hs all.1)
    where
      go : (b : Bool) → is_hosted_by d h.name ≡ b → AllByRecursion (λ h. is_of d k h.name ≡ true) (hosted_by d hs) → AllByRecursion (λ h. is_of d k h.name ≡ true) (cond b (h ∷ hosted_by d hs) (hosted_by d hs))
      go true e rest = (ap (λ b. b && nat_eq (shard_of h.name) k) e ∙ all.0, rest)
      go false e rest = rest

  own_one : (n : Key) (xs : List DeltaOf) (ms : List Mark) → is_of d k n ≡ true → list_all (is_own_mark d k) ms ≡ true → list_all (is_own_mark d k) (map (λ x. Applied n x) xs ++ ms) ≡ true
  own_one n [] ms own all = all
  own_one n (x ∷ xs) ms own all = ap (λ b. b && list_all (is_own_mark d k) (map (λ x. Applied n x) xs ++ ms)) (and_parts (is_hosted_by d n) (nat_eq (shard_of n) k) own).1 ∙ own_one n xs ms own all

  own_loaded : (hs : List Hosted) → AllByRecursion (λ h. is_of d k h.name ≡ true) hs → list_all (is_own_mark d k) (loaded hs) ≡ true
  own_loaded [] all = refl
  own_loaded (h ∷ hs) all = own_one h.name h.deltas (loaded hs) all.0 (own_loaded hs all.1)

  pub own_founded : (hs : List Hosted) → AllByRecursion (λ h. is_of d k h.name ≡ true) hs → list_all (is_own_mark d k) (founded d k (loaded hs)) ≡ true
  own_founded hs all = ap (λ b. b && list_all (is_own_mark d k) (loaded hs)) (founded_own d k []) ∙ own_loaded hs all

-- ---- a new shard, of what a domain hosts of these histories, with these marks after the first one

module _ (d : Key) (k : ℕ) (hs : List Hosted) (ms : List Mark) (is : ms ≡ loaded (hosted_by d hs)) where
  pub new_replay : AreAscending (names_of hs) → AllByRecursion (λ h. is_in k h.name ≡ true) hs → HaveDeltas hs → hosted_by d hs ≡ replayed d k (founded d k ms)
  new_replay ascend all have = loaded_replay d k (hosted_by d hs) (hosted_ascend d hs ascend) (own_all d k hs all) (hosted_have d hs have) ∙ ap (λ l. replayed d k (founded d k l)) (sym is)

  pub new_copies : (cs : Worlds) → cs ≡ empty → AllByRecursion (λ h. is_in k h.name ≡ true) hs → cs ≡ copied d k (founded d k ms)
  new_copies cs none all = none ∙ sym (loaded_copies d k empty (hosted_by d hs) (own_all d k hs all)) ∙ ap (λ l. copied d k (founded d k l)) (sym is)

  pub new_own : AllByRecursion (λ h. is_in k h.name ≡ true) hs → list_all (is_own_mark d k) (founded d k ms) ≡ true
  new_own all = ap (λ l. list_all (is_own_mark d k) (founded d k l)) is ∙ own_founded d k (hosted_by d hs) (own_all d k hs all)

  pub new_faults : (n : ℕ) → min (fault_count (founded d k ms)) most_faults ≤ n
  new_faults n = let none : fault_count ms ≡ 0 = ap fault_count is ∙ loaded_faults (hosted_by d hs) in omega (arith, none)

-- ---- parts

pub all_in : (k : ℕ) (hs : List Hosted) → AllByRecursion (λ h. is_in k h.name ≡ true) (filter (λ h. is_in k h.name) hs)
all_in k [] = tt
all_in k (h ∷ hs) = go (all_in k hs) (is_in k h.name) refl
  where
    go : AllByRecursion (λ h. is_in k h.name ≡ true) (filter (λ h. is_in k h.name) hs) → (b : Bool) → is_in k h.name ≡ b → AllByRecursion (λ h. is_in k h.name ≡ true) (cond b (h ∷ filter (λ h. is_in k h.name) hs) (filter (λ h. is_in k h.name) hs))
    go rest true e = (e, rest)
    go rest false e = rest

pub both_ways : {A : Type 0} (p q : A → Bool) (xs : List A) → filter p (filter q xs) ≡ filter q (filter p xs)
both_ways p q [] = refl
both_ways p q (x ∷ xs) = go (both_ways p q xs) (p x) refl (q x) refl
  where
    go : filter p (filter q xs) ≡ filter q (filter p xs) → (b : Bool) → p x ≡ b → (c : Bool) → q x ≡ c → filter p (cond c (x ∷ filter q xs) (filter q xs)) ≡ filter q (cond b (x ∷ filter p xs) (filter p xs))
    go rest true e true f = ap (λ b. cond b (x ∷ filter p (filter q xs)) (filter p (filter q xs))) e ∙ ap (λ l. x ∷ l) rest ∙ sym (ap (λ c. cond c (x ∷ filter q (filter p xs)) (filter q (filter p xs))) f)
    go rest true e false f = rest ∙ sym (ap (λ c. cond c (x ∷ filter q (filter p xs)) (filter q (filter p xs))) f)
    go rest false e true f = ap (λ b. cond b (x ∷ filter p (filter q xs)) (filter p (filter q xs))) e ∙ rest
    go rest false e false f = rest

-- ---- shards

module _ {F D : Type 0} {folder : folder_of.Ghosts F D} {disk : disk_of.Ghosts D} (d : Key) where
  pub loaded_push : (k : ℕ) (ps : List (Shelf F D folder disk)) (ss : List (Shard F D folder disk)) (p : Shelf F D folder disk) (s : Shard F D folder disk) → AreLoaded d k ps ss → IsLoaded d (k + length ps) p s → AreLoaded d k (ps ++ p ∷ []) (ss ++ s ∷ [])
  loaded_push k [] [] p s all one = let same : k + 0 ≡ k = omega arith in (subst (λ j. IsLoaded d j p s) same one, tt)
  loaded_push k [] (r ∷ ss) p s all one = absurd all
  loaded_push k (q ∷ ps) [] p s all one = absurd all
  loaded_push k (q ∷ ps) (r ∷ ss) p s all one = let same : k + suc (length ps) ≡ k + 1 + length ps = omega arith in (all.0, loaded_push (k + 1) ps ss p s all.1 (subst (λ j. IsLoaded d j p s) same one))

  pub loaded_length : (k : ℕ) (ps : List (Shelf F D folder disk)) (ss : List (Shard F D folder disk)) → AreLoaded d k ps ss → length ss ≡ length ps
  loaded_length k [] [] all = refl
  loaded_length k [] (r ∷ ss) all = absurd all
  loaded_length k (q ∷ ps) [] all = absurd all
  loaded_length k (q ∷ ps) (r ∷ ss) all = ap suc (loaded_length (k + 1) ps ss all.1)

  pub record IsLoadedAt (k : ℕ) (o : Option (Shelf F D folder disk)) (s : Shard F D folder disk) : Type 0 where
    pub part : Shelf F D folder disk
    pub is : o ≡ Some part
    pub loaded : IsLoaded d k part s

  pub loaded_at : (k : ℕ) (ps : List (Shelf F D folder disk)) (ss : List (Shard F D folder disk)) → AreLoaded d k ps ss → (i : ℕ) (s : Shard F D folder disk) → slice_get ss i ≡ Some s → IsLoadedAt (k + i) (slice_get ps i) s
  loaded_at k [] [] all i s e = absurd cc
  loaded_at k [] (r ∷ ss) all i s e = absurd all
  loaded_at k (q ∷ ps) [] all i s e = absurd all
  loaded_at k (q ∷ ps) (r ∷ ss) all zero s e =
      let same : k ≡ k + 0 = omega arith in
      record { part = q; is = refl; loaded = subst (λ j. IsLoaded d j q s) same (subst (IsLoaded d k q) (same_Some e) all.0) }
    where
      same_Some : Some r ≡ Some s → r ≡ s
      same_Some e = cc
  loaded_at k (q ∷ ps) (r ∷ ss) all (suc i) s e =
      let rest = loaded_at (k + 1) ps ss all.1 i s e in
      let same : k + 1 + i ≡ k + suc i = omega arith in
      subst (λ j. IsLoadedAt j (slice_get ps i) s) same rest

  pub parts_in : (s : Shelf F D folder disk) (i : ℕ) (o : Option (Shelf F D folder disk)) → IfSome o (IsPart s i) → IfSome o (λ p. AllByRecursion (λ h. is_in i h.name ≡ true) (hosted_of p))
  parts_in s i None so = tt
  parts_in s i (Some p) so = subst (λ (hs : List Hosted). AllByRecursion (λ h. is_in i h.name ≡ true) hs) (sym so.hosted) (all_in i (hosted_of s))

  pub seen_loaded : (s : Shelf F D folder disk) (ps : List (Shelf F D folder disk)) (ss : List (Shard F D folder disk)) (k : ℕ) (ms : List Mark) → AreLoaded d 0 ps ss → length ps ≡ 16 → ((i : ℕ) → IfSome (slice_get ps i) (IsPart s i)) → k < 16
      → ((v : Shard F D folder disk) → slice_get ss k ≡ Some v → ms ≡ entries_of v) → ms ≡ founded d k (loaded (filter (λ h. is_in k h.name) (hosted_by d (hosted_of s))))
  seen_loaded s ps ss k ms all size parts l is = go (slice_get_cases ss k).1
    where
      there : (v : Shard F D folder disk) → slice_get ss k ≡ Some v → ms ≡ founded d k (loaded (filter (λ h. is_in k h.name) (hosted_by d (hosted_of s))))
      there v e =
          let at = loaded_at 0 ps ss all k v e in
          let same : 0 + k ≡ k = omega arith in
          let one : IsLoaded d k at.part v = subst (λ (j : ℕ). IsLoaded d j at.part v) same at.loaded in
          let part : IsPart s k at.part = subst (λ (o : Option (Shelf F D folder disk)). IfSome o (IsPart s k)) at.is (parts k) in
          is v e ∙ one.entries ∙ ap (λ hs. founded d k (loaded (hosted_by d hs))) part.hosted ∙ ap (λ hs. founded d k (loaded hs)) (both_ways (λ h. is_hosted_by d h.name) (λ h. is_in k h.name) (hosted_of s))

      go : ((v : Shard F D folder disk) × (k < length ss) × (slice_get ss k ≡ Some v) × (get_or ss k v ≡ v)) ⊎ ((length ss ≤ k) × (slice_get ss k ≡ None)) → ms ≡ founded d k (loaded (filter (λ h. is_in k h.name) (hosted_by d (hosted_of s))))
      go (inl x) = there x.0 x.2
      go (inr x) = let even = loaded_length 0 ps ss all in absurd (omega (arith, even, size, l, x.0))
