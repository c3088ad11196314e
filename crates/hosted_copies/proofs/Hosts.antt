-- The histories that a domain hosts.
--     own_deltas, other_deltas      a name that it hosts has its deltas among them, and another has none
--     own_copy, other_copy          so it is of copies
--     own_judged                    a submission to a name that it hosts is judged as among all
--     own_grown, other_grown        a history that grows, of such a name and of another
--     own_added, own_after, other_after     so it is after a submission
--     hosted_from, hosted_ascend    names ascend as before
--     hosted_have                   each has a delta as before
use Rattle.std.proofs.Common.{ℕ, Less, Equal, Greater, ◌≡◌, Bool, true, false, cond, List, [], ◌∷◌, Option, Some, None, refl, sym, ap, subst, ◌∙◌, true≢false}
use Rattle.std.specs.Cmp.Lexicographic.{slice_cmp, bytes_decides}
use Rattle.std.specs.Ordering.{nat_cmp}
use Rattle.std.specs.declared.cmp.Ordering.{Ordering}
use Rattle.doc_items.specs.Maps.{Key, same_text}
use Rattle.wavelet_op.specs.Deltas.{DeltaOf}
use Rattle.wavelet_op.specs.declared.delta.Submission.{Submission}
use Rattle.delta_history.specs.Copying.{AscendFrom, AreAscending}
use Rattle.delta_history.specs.Verdicts.{Judged, judge}
use Rattle.wavelet_shelf.specs.Hosting.{Hosted, names_of, deltas_in, begun, grown, grown_by, grown_in, with_added, judged_in, after_submission, copy_of, copy_in, HaveDeltas}
use Rattle.wavelet_shelf.proofs.Names.{decided, unlike, lower, any, tied, even}
use Rattle.hosted_copies.specs.Domains.{is_hosted_by, hosted_by}

module _ (domain : Key) where
  -- ---- deltas

  pub own_deltas : (hs : List Hosted) (n : Key) → is_hosted_by domain n ≡ true → deltas_in (hosted_by domain hs) n ≡ deltas_in hs n
  own_deltas [] n own = refl
  own_deltas (h ∷ hs) n own = go (own_deltas hs n own) (same_text n h.name) refl (is_hosted_by domain h.name) refl
    where
      go : deltas_in (hosted_by domain hs) n ≡ deltas_in hs n → (t : Bool) → same_text n h.name ≡ t → (b : Bool) → is_hosted_by domain h.name ≡ b → deltas_in (cond b (h ∷ hosted_by domain hs) (hosted_by domain hs)) n ≡ cond t h.deltas (deltas_in hs n)
      go rest true e true f = ap (λ t. cond t h.deltas (deltas_in (hosted_by domain hs) n)) e
      go rest true e false f = absurd (true≢false (sym own ∙ ap (is_hosted_by domain) ((bytes_decides n h.name).0 e) ∙ f))
      go rest false e true f = ap (λ t. cond t h.deltas (deltas_in (hosted_by domain hs) n)) e ∙ rest
      go rest false e false f = rest

  pub other_deltas : (hs : List Hosted) (n : Key) → is_hosted_by domain n ≡ false → deltas_in (hosted_by domain hs) n ≡ []
  other_deltas [] n other = refl
  other_deltas (h ∷ hs) n other = go (other_deltas hs n other) (is_hosted_by domain h.name) refl
    where
      go : deltas_in (hosted_by domain hs) n ≡ [] → (b : Bool) → is_hosted_by domain h.name ≡ b → deltas_in (cond b (h ∷ hosted_by domain hs) (hosted_by domain hs)) n ≡ []
      go rest true f = ap (λ t. cond t h.deltas (deltas_in (hosted_by domain hs) n)) (decided n h.name (λ e. true≢false (sym f ∙ ap (is_hosted_by domain) (sym e) ∙ other))) ∙ rest
      go rest false f = rest

  pub own_copy : (hs : List Hosted) (n : Key) → is_hosted_by domain n ≡ true → copy_in (hosted_by domain hs) n ≡ copy_in hs n
  own_copy hs n own = ap (copy_of n) (own_deltas hs n own)

  pub other_copy : (hs : List Hosted) (n : Key) → is_hosted_by domain n ≡ false → copy_in (hosted_by domain hs) n ≡ None
  other_copy hs n other = ap (copy_of n) (other_deltas hs n other)

  pub own_judged : (hs : List Hosted) (n : Key) (s : Submission) (t : ℕ) → is_hosted_by domain n ≡ true → judged_in (hosted_by domain hs) n s t ≡ judged_in hs n s t
  own_judged hs n s t own = ap (λ ds. judge n ds s t) (own_deltas hs n own)

  -- ---- names

  pub hosted_from : (n : Key) (hs : List Hosted) → AscendFrom n (names_of hs) → AscendFrom n (names_of (hosted_by domain hs))
  hosted_from n [] a = tt
  hosted_from n (h ∷ hs) a = go (is_hosted_by domain h.name) (hosted_from h.name hs a.1)
    where
      go : (b : Bool) → AscendFrom h.name (names_of (hosted_by domain hs)) → AscendFrom n (names_of (cond b (h ∷ hosted_by domain hs) (hosted_by domain hs)))
      go true rest = (a.0, rest)
      go false rest = lower n h.name (names_of (hosted_by domain hs)) a.0 rest

  pub hosted_ascend : (hs : List Hosted) → AreAscending (names_of hs) → AreAscending (names_of (hosted_by domain hs))
  hosted_ascend [] a = tt
  hosted_ascend (h ∷ hs) a = go (is_hosted_by domain h.name) (hosted_from h.name hs a)
    where
      go : (b : Bool) → AscendFrom h.name (names_of (hosted_by domain hs)) → AreAscending (names_of (cond b (h ∷ hosted_by domain hs) (hosted_by domain hs)))
      go true rest = rest
      go false rest = any h.name (names_of (hosted_by domain hs)) rest

  pub hosted_have : (hs : List Hosted) → HaveDeltas hs → HaveDeltas (hosted_by domain hs)
  hosted_have [] have = tt
  hosted_have (h ∷ hs) have = go (is_hosted_by domain h.name) (hosted_have hs have.1)
    where
      go : (b : Bool) → HaveDeltas (hosted_by domain hs) → HaveDeltas (cond b (h ∷ hosted_by domain hs) (hosted_by domain hs))
      go true rest = (have.0, rest)
      go false rest = rest

  -- ---- a history that grows

  grown_before : (n : Key) (d : DeltaOf) (hs : List Hosted) → AscendFrom n (names_of hs) → grown_in hs n d ≡ begun n d ∷ hs
  grown_before n d [] a = refl
  grown_before n d (h ∷ hs) a = ap (λ o. grown_by o h hs (grown_in hs n d) n d) a.0

  pub own_grown : (hs : List Hosted) (n : Key) (d : DeltaOf) → AreAscending (names_of hs) → is_hosted_by domain n ≡ true → hosted_by domain (grown_in hs n d) ≡ grown_in (hosted_by domain hs) n d
  own_grown [] n d a own = ap (λ b. cond b (begun n d ∷ []) []) own
  own_grown (h ∷ hs) n d a own = go (own_grown hs n d (any h.name (names_of hs) a) own) (slice_cmp nat_cmp n h.name) refl (is_hosted_by domain h.name) refl
    where
      rest : List Hosted
      rest = hosted_by domain hs

      go : hosted_by domain (grown_in hs n d) ≡ grown_in rest n d → (o : Ordering) → slice_cmp nat_cmp n h.name ≡ o → (b : Bool) → is_hosted_by domain h.name ≡ b
          → hosted_by domain (grown_by o h hs (grown_in hs n d) n d) ≡ grown_in (cond b (h ∷ rest) rest) n d
      go again Less e b f = ap (λ b. cond b (begun n d ∷ hosted_by domain (h ∷ hs)) (hosted_by domain (h ∷ hs))) own
          ∙ ap (λ b. begun n d ∷ cond b (h ∷ rest) rest) f ∙ sym (grown_before n d (cond b (h ∷ rest) rest) (subst (λ b. AscendFrom n (names_of (cond b (h ∷ rest) rest))) f (hosted_from n (h ∷ hs) (e, a))))
      go again Equal e true f = ap (λ b. cond b (grown h d ∷ rest) rest) f ∙ sym (ap (λ o. grown_by o h rest (grown_in rest n d) n d) e)
      go again Equal e false f = absurd (true≢false (sym own ∙ ap (is_hosted_by domain) (tied n h.name e) ∙ f))
      go again Greater e true f = ap (λ b. cond b (h ∷ hosted_by domain (grown_in hs n d)) (hosted_by domain (grown_in hs n d))) f
          ∙ ap (λ l. h ∷ l) again ∙ sym (ap (λ o. grown_by o h rest (grown_in rest n d) n d) e)
      go again Greater e false f = ap (λ b. cond b (h ∷ hosted_by domain (grown_in hs n d)) (hosted_by domain (grown_in hs n d))) f ∙ again

  pub other_grown : (hs : List Hosted) (n : Key) (d : DeltaOf) → is_hosted_by domain n ≡ false → hosted_by domain (grown_in hs n d) ≡ hosted_by domain hs
  other_grown [] n d other = ap (λ b. cond b (begun n d ∷ []) []) other
  other_grown (h ∷ hs) n d other = go (other_grown hs n d other) (slice_cmp nat_cmp n h.name) refl
    where
      rest : List Hosted
      rest = hosted_by domain hs

      go : hosted_by domain (grown_in hs n d) ≡ rest → (o : Ordering) → slice_cmp nat_cmp n h.name ≡ o → hosted_by domain (grown_by o h hs (grown_in hs n d) n d) ≡ cond (is_hosted_by domain h.name) (h ∷ rest) rest
      go again Less e = ap (λ b. cond b (begun n d ∷ hosted_by domain (h ∷ hs)) (hosted_by domain (h ∷ hs))) other
      go again Equal e =
          let no : is_hosted_by domain h.name ≡ false = ap (is_hosted_by domain) (sym (tied n h.name e)) ∙ other in
          ap (λ b. cond b (grown h d ∷ rest) rest) no ∙ sym (ap (λ b. cond b (h ∷ rest) rest) no)
      go again Greater e = ap (λ l. cond (is_hosted_by domain h.name) (h ∷ l) l) again

  -- ---- a submission

  pub own_added : (hs : List Hosted) (n : Key) (o : Option DeltaOf) → AreAscending (names_of hs) → is_hosted_by domain n ≡ true → hosted_by domain (with_added hs n o) ≡ with_added (hosted_by domain hs) n o
  own_added hs n None a own = refl
  own_added hs n (Some d) a own = own_grown hs n d a own

  pub own_after : (hs : List Hosted) (n : Key) (s : Submission) (t : ℕ) → AreAscending (names_of hs) → is_hosted_by domain n ≡ true
      → hosted_by domain (after_submission hs n s t) ≡ after_submission (hosted_by domain hs) n s t
  own_after hs n s t a own = own_added hs n (judged_in hs n s t).1 a own ∙ sym (ap (λ (j : Judged). with_added (hosted_by domain hs) n j.1) (own_judged hs n s t own))

  other_added : (hs : List Hosted) (n : Key) (o : Option DeltaOf) → is_hosted_by domain n ≡ false → hosted_by domain (with_added hs n o) ≡ hosted_by domain hs
  other_added hs n None other = refl
  other_added hs n (Some d) other = other_grown hs n d other

  pub other_after : (hs : List Hosted) (n : Key) (s : Submission) (t : ℕ) → is_hosted_by domain n ≡ false → hosted_by domain (after_submission hs n s t) ≡ hosted_by domain hs
  other_after hs n s t other = other_added hs n (judged_in hs n s t).1 other
