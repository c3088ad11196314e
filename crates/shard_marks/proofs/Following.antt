-- Histories that marks give, one moment after another.
--     ascend_replayed     their names ascend
--     deltas_since        the deltas of a name are those that marks give of it, and after them those that the later marks alone give
--     deltas_follow       so the deltas of a name follow those of an earlier moment
--     none_elsewhere      a name that isn't the shard's has none
--     of_replayed         each name is the shard's
--     have_replayed       each has a delta
--     all_there           each history is that of its name
use Rattle.std.proofs.Common.{Less, Equal, Greater, ◌≡◌, ◌≢◌, ◌⊎◌, inl, inr, ℕ, Bool, true, false, cond, List, [], ◌∷◌, ◌++◌, refl, sym, ap, subst, ◌∙◌, append-nil, append_assoc, true≢false}
use Rattle.std.specs.Cmp.Lexicographic.{slice_cmp}
use Rattle.std.specs.List.{AllByRecursion}
use Rattle.std.specs.Ordering.{nat_cmp, ordering_reverse}
use Rattle.std.specs.declared.cmp.Ordering.{Ordering}
use mathlib.Core.List.{IsPrefix}
use Rattle.doc_items.specs.Maps.{Key, same_text}
use Rattle.wavelet_op.specs.Deltas.{DeltaOf}
use Rattle.delta_history.specs.Copying.{AscendFrom, AreAscending}
use Rattle.wavelet_shelf.specs.Hosting.{Hosted, names_of, deltas_in, grown_by, grown_in, HaveDeltas}
use Rattle.wavelet_shelf.proofs.Growing.{grows_alone}
use Rattle.wavelet_shelf.proofs.Names.{own, unlike_above, turned, lower, any, same_or_not}
use Rattle.shard_marks.specs.declared.mark.Mark.{Mark}
use Rattle.shard_marks.specs.declared.mark.Mark.TheVariants.{Began, Applied, Fault, Queued, Answered, Dropped}
use Rattle.shard_marks.specs.Marks.{is_of, after_mark, replayed_on, replayed}
use Rattle.shard_marks.proofs.Replaying.{replayed_more}

no_items : {X T : Type 0} {x : X} {xs : List X} → x ∷ xs ≡ [] → T
no_items e = absurd (cc)

-- ---- each history is that of its name

abbrev pub AreIn : List Hosted → List Hosted → Type 0
AreIn all hs = AllByRecursion (λ h. deltas_in all h.name ≡ h.deltas) hs

later_there : (h : Hosted) (all hs : List Hosted) → AscendFrom h.name (names_of hs) → AreIn all hs → AreIn (h ∷ all) hs
later_there h all [] a in_all = tt
later_there h all (g ∷ hs) a in_all = (ap (λ b. cond b h.deltas (deltas_in all g.name)) (apart g.name h.name a.0) ∙ in_all.0, later_there h all hs (lower h.name g.name (names_of hs) a.0 a.1) in_all.1)
  where
    apart : (n m : Key) → slice_cmp nat_cmp m n ≡ Less → same_text n m ≡ false
    apart n m e = unlike_above n m (turned m n ∙ ap ordering_reverse e)

pub all_there : (hs : List Hosted) → AreAscending (names_of hs) → AreIn hs hs
all_there [] a = tt
all_there (h ∷ hs) a = (ap (λ b. cond b h.deltas (deltas_in hs h.name)) (own h.name), later_there h hs hs a (all_there hs (any h.name (names_of hs) a)))

one_there : (ds : List DeltaOf) (x : DeltaOf) → ds ++ x ∷ [] ≢ []
one_there [] x e = no_items e
one_there (d ∷ ds) x e = no_items e

module _ (d : Key) (k : ℕ) where
  -- ---- names

  ascend_after : (hs : List Hosted) (m : Mark) → AreAscending (names_of hs) → AreAscending (names_of (after_mark d k hs m))
  ascend_after hs (Began e j) a = a
  ascend_after hs (Applied n x) a = go (is_of d k n)
    where
      go : (b : Bool) → AreAscending (names_of (cond b (grown_in hs n x) hs))
      go true = grows_alone.ascending hs n x a
      go false = a
  ascend_after hs (Fault n i) a = a
  ascend_after hs (Queued p s) a = a
  ascend_after hs (Answered p i v) a = a
  ascend_after hs (Dropped p) a = a

  ascend_on : (hs : List Hosted) (ms : List Mark) → AreAscending (names_of hs) → AreAscending (names_of (replayed_on d k hs ms))
  ascend_on hs [] a = a
  ascend_on hs (m ∷ ms) a = ascend_on (after_mark d k hs m) ms (ascend_after hs m a)

  pub ascend_replayed : (ms : List Mark) → AreAscending (names_of (replayed d k ms))
  ascend_replayed ms = ascend_on [] ms tt

  abbrev pub AreOf : List Hosted → Type 0
  AreOf hs = AllByRecursion (λ h. is_of d k h.name ≡ true) hs

  of_grown : (hs : List Hosted) (n : Key) (x : DeltaOf) → is_of d k n ≡ true → AreOf hs → AreOf (grown_in hs n x)
  of_grown [] n x own all = (own, tt)
  of_grown (h ∷ hs) n x own all = go (slice_cmp nat_cmp n h.name) (of_grown hs n x own all.1)
    where
      go : (o : Ordering) → AreOf (grown_in hs n x) → AreOf (grown_by o h hs (grown_in hs n x) n x)
      go Less rest = (own, all)
      go Equal rest = all
      go Greater rest = (all.0, rest)

  of_after : (hs : List Hosted) (m : Mark) → AreOf hs → AreOf (after_mark d k hs m)
  of_after hs (Began e j) all = all
  of_after hs (Applied n x) all = go (is_of d k n) refl
    where
      go : (b : Bool) → is_of d k n ≡ b → AreOf (cond b (grown_in hs n x) hs)
      go true e = of_grown hs n x e all
      go false e = all
  of_after hs (Fault n i) all = all
  of_after hs (Queued p s) all = all
  of_after hs (Answered p i v) all = all
  of_after hs (Dropped p) all = all

  of_on : (hs : List Hosted) (ms : List Mark) → AreOf hs → AreOf (replayed_on d k hs ms)
  of_on hs [] all = all
  of_on hs (m ∷ ms) all = of_on (after_mark d k hs m) ms (of_after hs m all)

  pub of_replayed : (ms : List Mark) → AreOf (replayed d k ms)
  of_replayed ms = of_on [] ms tt

  have_grown : (hs : List Hosted) (n : Key) (x : DeltaOf) → HaveDeltas hs → HaveDeltas (grown_in hs n x)
  have_grown [] n x all = (one_there [] x, tt)
  have_grown (h ∷ hs) n x all = go (slice_cmp nat_cmp n h.name) (have_grown hs n x all.1)
    where
      go : (o : Ordering) → HaveDeltas (grown_in hs n x) → HaveDeltas (grown_by o h hs (grown_in hs n x) n x)
      go Less rest = (one_there [] x, all)
      go Equal rest = (one_there h.deltas x, all.1)
      go Greater rest = (all.0, rest)

  have_after : (hs : List Hosted) (m : Mark) → HaveDeltas hs → HaveDeltas (after_mark d k hs m)
  have_after hs (Began e j) all = all
  have_after hs (Applied n x) all = go (is_of d k n)
    where
      go : (b : Bool) → HaveDeltas (cond b (grown_in hs n x) hs)
      go true = have_grown hs n x all
      go false = all
  have_after hs (Fault n i) all = all
  have_after hs (Queued p s) all = all
  have_after hs (Answered p i v) all = all
  have_after hs (Dropped p) all = all

  have_on : (hs : List Hosted) (ms : List Mark) → HaveDeltas hs → HaveDeltas (replayed_on d k hs ms)
  have_on hs [] all = all
  have_on hs (m ∷ ms) all = have_on (after_mark d k hs m) ms (have_after hs m all)

  pub have_replayed : (ms : List Mark) → HaveDeltas (replayed d k ms)
  have_replayed ms = have_on [] ms tt

  -- ---- deltas

  -- two lists of histories, of which the one has these deltas of a name before those that the other has
  abbrev AreBoth : Key → List DeltaOf → List Hosted → List Hosted → Type 0
  AreBoth n before hs gs = deltas_in hs n ≡ before ++ deltas_in gs n

  both_grown : (n : Key) (before : List DeltaOf) (hs gs : List Hosted) (p : Key) (x : DeltaOf) → AreAscending (names_of hs) → AreAscending (names_of gs) → AreBoth n before hs gs
      → AreBoth n before (grown_in hs p x) (grown_in gs p x)
  both_grown n before hs gs p x a b same = go (same_or_not n p)
    where
      go : (n ≡ p) ⊎ (n ≢ p) → AreBoth n before (grown_in hs p x) (grown_in gs p x)
      go (inl e) = subst (λ m. AreBoth m before (grown_in hs p x) (grown_in gs p x)) (sym e)
          (grows_alone.there hs p x a ∙ ap (λ l. l ++ x ∷ []) (subst (λ m. AreBoth m before hs gs) e same) ∙ append_assoc before (deltas_in gs p) (x ∷ [])
          ∙ ap (λ l. before ++ l) (sym (grows_alone.there gs p x b)))
      go (inr ne) = grows_alone.others hs p x n ne ∙ same ∙ ap (λ l. before ++ l) (sym (grows_alone.others gs p x n ne))

  both_after : (n : Key) (before : List DeltaOf) (hs gs : List Hosted) (m : Mark) → AreAscending (names_of hs) → AreAscending (names_of gs) → AreBoth n before hs gs
      → AreBoth n before (after_mark d k hs m) (after_mark d k gs m)
  both_after n before hs gs (Began e j) a b same = same
  both_after n before hs gs (Applied p x) a b same = go (is_of d k p)
    where
      go : (t : Bool) → AreBoth n before (cond t (grown_in hs p x) hs) (cond t (grown_in gs p x) gs)
      go true = both_grown n before hs gs p x a b same
      go false = same
  both_after n before hs gs (Fault p i) a b same = same
  both_after n before hs gs (Queued p s) a b same = same
  both_after n before hs gs (Answered p i v) a b same = same
  both_after n before hs gs (Dropped p) a b same = same

  both_on : (n : Key) (before : List DeltaOf) (hs gs : List Hosted) (ms : List Mark) → AreAscending (names_of hs) → AreAscending (names_of gs) → AreBoth n before hs gs
      → AreBoth n before (replayed_on d k hs ms) (replayed_on d k gs ms)
  both_on n before hs gs [] a b same = same
  both_on n before hs gs (m ∷ ms) a b same =
      both_on n before (after_mark d k hs m) (after_mark d k gs m) ms (ascend_after hs m a) (ascend_after gs m b) (both_after n before hs gs m a b same)

  pub deltas_since : (n : Key) (ms ns : List Mark) → deltas_in (replayed d k (ms ++ ns)) n ≡ deltas_in (replayed d k ms) n ++ deltas_in (replayed d k ns) n
  deltas_since n ms ns =
      ap (λ z. deltas_in z n) (replayed_more d k [] ms ns)
      ∙ both_on n (deltas_in (replayed d k ms) n) (replayed d k ms) [] ns (ascend_replayed ms) tt (sym (append-nil (deltas_in (replayed d k ms) n)))

  abbrev pub Follow : Key → List Hosted → List Hosted → Type 0
  Follow n hs gs = (more : List DeltaOf) × (deltas_in gs n ≡ deltas_in hs n ++ more)

  pub deltas_follow : (n : Key) (ms ns : List Mark) → IsPrefix ms ns → Follow n (replayed d k ms) (replayed d k ns)
  deltas_follow n ms ns p = (deltas_in (replayed d k p.0) n, ap (λ z. deltas_in (replayed d k z) n) (sym p.1) ∙ deltas_since n ms p.0)

  none_after : (n : Key) (hs : List Hosted) (m : Mark) → is_of d k n ≡ false → deltas_in (after_mark d k hs m) n ≡ deltas_in hs n
  none_after n hs (Began e j) other = refl
  none_after n hs (Applied p x) other = go (is_of d k p) refl
    where
      go : (b : Bool) → is_of d k p ≡ b → deltas_in (cond b (grown_in hs p x) hs) n ≡ deltas_in hs n
      go true e = grows_alone.others hs p x n (λ same. true≢false (sym e ∙ ap (is_of d k) (sym same) ∙ other))
      go false e = refl
  none_after n hs (Fault p i) other = refl
  none_after n hs (Queued p s) other = refl
  none_after n hs (Answered p i v) other = refl
  none_after n hs (Dropped p) other = refl

  none_on : (n : Key) (hs : List Hosted) (ms : List Mark) → is_of d k n ≡ false → deltas_in (replayed_on d k hs ms) n ≡ deltas_in hs n
  none_on n hs [] other = refl
  none_on n hs (m ∷ ms) other = none_on n (after_mark d k hs m) ms other ∙ none_after n hs m other

  pub none_elsewhere : (n : Key) (ms : List Mark) → is_of d k n ≡ false → deltas_in (replayed d k ms) n ≡ []
  none_elsewhere n ms other = none_on n [] ms other
