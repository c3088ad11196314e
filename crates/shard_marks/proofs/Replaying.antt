-- What marks give, where one more is added.
--     replayed_more                            marks after others
--     own_of                                   a wavelet that the domain hosts, and that is of the shard
--     noted_replay, fault_replay               what the domain hosts is what the marks give, after a submission that was judged, and after a fault
--     own_noted, own_fault                     each mark is of a wavelet of the shard
--     noted_one                                at most one mark was added
--     counted_noted, counted_fault             the marks that tell of faults are no more than were counted
use Rattle.std.proofs.Common.{◌≡◌, ◌⊎◌, inl, inr, ℕ, ◌+◌, ◌≤◌, min, Bool, true, false, ◌&&◌, nat_eq, cond, List, [], ◌∷◌, ◌++◌, Option, Some, None, option_map, refl, sym, ap, ◌∙◌, arith, append-nil}
use Rattle.std.specs.List.{list_all}
use Rattle.std.proofs.lemmas.Bool.{eq-eqb, and_parts}
use Rattle.doc_items.specs.Maps.{Key}
use Rattle.wave_base.specs.Versions.{IdOf}
use Rattle.wavelet_op.specs.Deltas.{DeltaOf}
use Rattle.wavelet_op.specs.declared.delta.Submission.{Submission}
use Rattle.delta_history.specs.Copying.{AreAscending}
use Rattle.turn_lock.specs.Passes.{IsOneMore}
use Rattle.wave_outside.specs.Counts.{Rose}
use Rattle.wavelet_shelf.specs.FileNames.{shard_of}
use Rattle.wavelet_shelf.specs.Hosting.{Hosted, names_of, grown_in, with_added, judged_in, after_submission}
use Rattle.hosted_copies.specs.Domains.{is_hosted_by, hosted_by, one_of}
use Rattle.hosted_copies.proofs.Hosts.{own_added}
use Rattle.shard_marks.specs.declared.mark.Mark.{Mark}
use Rattle.shard_marks.specs.declared.mark.Mark.TheVariants.{Applied, Fault}
use Rattle.shard_marks.specs.Marks.{is_of, is_own_mark, after_mark, replayed_on, replayed, fault_count}
use Rattle.shard_marks.specs.Marks.{most_faults}

-- the marks of a delta, if any
abbrev pub noted : Key → Option DeltaOf → List Mark
noted n o = one_of (option_map (λ x. Applied n x) o)

pub noted_one : (ms ns : List Mark) (n : Key) (o : Option DeltaOf) → ns ≡ ms ++ noted n o → (ns ≡ ms) ⊎ IsOneMore ms ns
noted_one ms ns n None e = inl (e ∙ append-nil ms)
noted_one ms ns n (Some x) e = inr (Applied n x, e)

-- ---- faults

pub count_more : (ms ns : List Mark) → fault_count (ms ++ ns) ≡ fault_count ms + fault_count ns
count_more [] ns = omega arith
count_more (m ∷ ms) ns = let more = count_more ms ns in omega (arith, more)

none_noted : (n : Key) (o : Option DeltaOf) → fault_count (noted n o) ≡ 0
none_noted n None = refl
none_noted n (Some x) = refl

pub counted_noted : (ms ns : List Mark) (n : Key) (o : Option DeltaOf) (a b : ℕ) → ns ≡ ms ++ noted n o → min (fault_count ms) most_faults ≤ a → a ≤ b → min (fault_count ns) most_faults ≤ b
counted_noted ms ns n o a b e le on =
    let same : fault_count ns ≡ fault_count ms + fault_count (noted n o) = ap fault_count e ∙ count_more ms (noted n o) in
    let none = none_noted n o in
    omega (arith, same, none, le, on)

pub counted_fault : (ms ns : List Mark) (n : Key) (i : IdOf) (a b : ℕ) → ns ≡ ms ++ Fault n i ∷ [] → min (fault_count ms) most_faults ≤ a → Rose a b → min (fault_count ns) most_faults ≤ b
counted_fault ms ns n i a b e le rose =
    let same : fault_count ns ≡ fault_count ms + 1 = ap fault_count e ∙ count_more ms (Fault n i ∷ []) in
    omega (arith, same, le, rose)

pub all_more : {X : Type 0} (p : X → Bool) (xs ys : List X) → list_all p xs ≡ true → list_all p ys ≡ true → list_all p (xs ++ ys) ≡ true
all_more p [] ys one two = two
all_more p (x ∷ xs) ys one two = go (λ e. all_more p xs ys e two) (p x) one
  where
    go : (list_all p xs ≡ true → list_all p (xs ++ ys) ≡ true) → (b : Bool) → b && list_all p xs ≡ true → b && list_all p (xs ++ ys) ≡ true
    go rest true e = rest e
    go rest false e = e

module _ (d : Key) (k : ℕ) where
  pub replayed_more : (hs : List Hosted) (ms ns : List Mark) → replayed_on d k hs (ms ++ ns) ≡ replayed_on d k (replayed_on d k hs ms) ns
  replayed_more hs [] ns = refl
  replayed_more hs (m ∷ ms) ns = replayed_more (after_mark d k hs m) ms ns

  pub own_of : (n : Key) → is_hosted_by d n ≡ true → shard_of n ≡ k → is_of d k n ≡ true
  own_of n own shard = ap (λ b. b && nat_eq (shard_of n) k) own ∙ eq-eqb (shard_of n) k shard

  pub own_noted : (ms ns : List Mark) (n : Key) (o : Option DeltaOf) → is_of d k n ≡ true → ns ≡ ms ++ noted n o → list_all (is_own_mark d k) ms ≡ true → list_all (is_own_mark d k) ns ≡ true
  own_noted ms ns n o own e all = ap (list_all (is_own_mark d k)) e ∙ all_more (is_own_mark d k) ms (noted n o) all (go o)
    where
      go : (o : Option DeltaOf) → list_all (is_own_mark d k) (noted n o) ≡ true
      go None = refl
      go (Some x) = ap (λ b. b && true) (and_parts (is_hosted_by d n) (nat_eq (shard_of n) k) own).1

  pub own_fault : (ms ns : List Mark) (n : Key) (i : IdOf) → is_of d k n ≡ true → ns ≡ ms ++ Fault n i ∷ [] → list_all (is_own_mark d k) ms ≡ true → list_all (is_own_mark d k) ns ≡ true
  own_fault ms ns n i own e all = ap (list_all (is_own_mark d k)) e ∙ all_more (is_own_mark d k) ms (Fault n i ∷ []) all (ap (λ b. b && true) own)

  one_more : (gs : List Hosted) (n : Key) (o : Option DeltaOf) → is_of d k n ≡ true → replayed_on d k gs (noted n o) ≡ with_added gs n o
  one_more gs n None own = refl
  one_more gs n (Some x) own = ap (λ b. cond b (grown_in gs n x) gs) own

  module _ (ms ns : List Mark) (hs : List Hosted) (n : Key) (s : Submission) (t : ℕ) (is : hosted_by d hs ≡ replayed d k ms) (own : is_hosted_by d n ≡ true) where
    pub noted_replay : (gs : List Hosted) → AreAscending (names_of hs) → shard_of n ≡ k → gs ≡ after_submission hs n s t → ns ≡ ms ++ noted n (judged_in hs n s t).1 → hosted_by d gs ≡ replayed d k ns
    noted_replay gs ascend shard after e =
        let o = (judged_in hs n s t).1 in
        ap (hosted_by d) after ∙ own_added d hs n o ascend own ∙ ap (λ l. with_added l n o) is ∙ sym (one_more (replayed d k ms) n o (own_of n own shard))
        ∙ sym (replayed_more [] ms (noted n o)) ∙ ap (replayed d k) (sym e)

  pub fault_replay : (ms ns : List Mark) (hs : List Hosted) (n : Key) (i : IdOf) → hosted_by d hs ≡ replayed d k ms → ns ≡ ms ++ Fault n i ∷ [] → hosted_by d hs ≡ replayed d k ns
  fault_replay ms ns hs n i is e = is ∙ sym (replayed_more [] ms (Fault n i ∷ [])) ∙ ap (replayed d k) (sym e)
