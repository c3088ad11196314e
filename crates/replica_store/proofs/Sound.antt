-- Each call keeps a copy sound: an id has one entry, and no more verdicts are kept than may be.
--     times_own, times_other     how often an id stands in a list of one
--     gone, others      in a list without an id
--     longer            in a list with one more
--     dropped_times     in what is left of a list from some place on
--     left_few          without an id a list isn't longer
--     sound_took, sound_waits, sound_noted     the calls
use Rattle.std.proofs.Common.{◌≡◌, ◌+◌, ◌-◌, ◌≤◌, ℕ, zero, suc, Bool, true, false, not, cond, ◌||◌, List, [], ◌∷◌, ◌++◌, map, length, drop, refl, sym, ap, subst, ◌∙◌, arith, true≢false}
use Rattle.std.specs.List.{filter}
use Rattle.wave_base.specs.Versions.{IdOf, same_id}
use Rattle.wave_base.proofs.Same.{same_id-is, same_id-refl}
use Rattle.wavelet_op.specs.Deltas.{DeltaOf}
use Rattle.wavelet_op.specs.declared.delta.Submission.{Submission}
use Rattle.wavelet_op.specs.declared.verdict.Verdict.{Verdict}
use Rattle.delta_history.specs.Histories.{HistoryOf, IsGrown}
use Rattle.delta_history.specs.Legal.{has_id}
use Rattle.follower_rules.specs.Replicas.{ReplicaOf, is_waiting, without}
use Rattle.replica_store.specs.declared.outcomes.Noted.{Noted}
use Rattle.replica_store.specs.Copies.{CopyOf, copy, times, IsSound, most_noted}
use Rattle.replica_store.specs.Settling.{unnoted, with_noted, waits_in, settled_in}
use Rattle.replica_store.proofs.Entries.{filter_is}
use Rattle.replica_store.proofs.Newest.{newest_few}

-- ---- an id more

pub other : (i j : IdOf) → same_id j i ≡ false → same_id i j ≡ false
other i j e = go (same_id i j) refl
  where
    go : (b : Bool) → same_id i j ≡ b → b ≡ false
    go false h = refl
    go true h = absurd (true≢false (sym (subst (λ z. same_id j z ≡ true) (sym (same_id-is i j h)) (same_id-refl j)) ∙ e))

times_own : (i : IdOf) → times i (i ∷ []) ≡ 1
times_own i = ap (λ b. cond b 1 0) (same_id-refl i)

times_other : (i j : IdOf) → same_id j i ≡ false → times i (j ∷ []) ≡ 0
times_other i j e = ap (λ b. cond b 1 0) (other i j e)

module _ {A : Type 0} (id : A → IdOf) where
  abbrev pub ids : List A → List IdOf
  ids xs = map id xs

  abbrev pub left : IdOf → List A → List A
  left j xs = filter (λ x. not (same_id j (id x))) xs

  pub gone : (j : IdOf) (xs : List A) → times j (ids (left j xs)) ≡ 0
  gone j [] = refl
  gone j (x ∷ xs) = go (same_id j (id x)) refl (gone j xs)
    where
      go : (b : Bool) → same_id j (id x) ≡ b → times j (ids (left j xs)) ≡ 0 → times j (ids (cond (not b) (x ∷ left j xs) (left j xs))) ≡ 0
      go true e h = h
      go false e h = ap (λ b. cond b (suc (times j (ids (left j xs)))) (times j (ids (left j xs)))) e ∙ h

  pub others : (i j : IdOf) (xs : List A) → same_id j i ≡ false → times i (ids (left j xs)) ≡ times i (ids xs)
  others i j [] e = refl
  others i j (x ∷ xs) e = go (same_id j (id x)) refl (others i j xs e)
    where
      go : (b : Bool) → same_id j (id x) ≡ b → times i (ids (left j xs)) ≡ times i (ids xs) → times i (ids (cond (not b) (x ∷ left j xs) (left j xs))) ≡ cond (same_id i (id x)) (suc (times i (ids xs))) (times i (ids xs))
      go true s h = h ∙ sym (ap (λ b. cond b (suc (times i (ids xs))) (times i (ids xs))) (other i (id x) (subst (λ z. same_id z i ≡ false) (same_id-is j (id x) s) e)))
      go false s h = ap (λ n. cond (same_id i (id x)) (suc n) n) h

  pub longer : (i : IdOf) (xs : List A) (x : A) → times i (ids (xs ++ x ∷ [])) ≡ times i (ids xs) + times i (id x ∷ [])
  longer i [] x = omega arith
  longer i (y ∷ xs) x = go (same_id i (id y)) (longer i xs x)
    where
      go : (b : Bool) → times i (ids (xs ++ x ∷ [])) ≡ times i (ids xs) + times i (id x ∷ []) → cond b (suc (times i (ids (xs ++ x ∷ [])))) (times i (ids (xs ++ x ∷ []))) ≡ cond b (suc (times i (ids xs))) (times i (ids xs)) + times i (id x ∷ [])
      go true h = omega (arith, h)
      go false h = h

  no_more : (b : Bool) (n : ℕ) → n ≤ cond b (suc n) n
  no_more true n = omega arith
  no_more false n = omega arith

  pub dropped_times : (i : IdOf) (k : ℕ) (xs : List A) → times i (ids (drop k xs)) ≤ times i (ids xs)
  dropped_times i zero xs = omega arith
  dropped_times i (suc k) [] = omega arith
  dropped_times i (suc k) (x ∷ xs) = let h = dropped_times i k xs in let m = no_more (same_id i (id x)) (times i (ids xs)) in omega (arith, h, m)

-- ---- submissions, verdicts and deltas

abbrev waits : IdOf → List Submission → ℕ
waits i ws = times i (map (λ (s : Submission). s.id) ws)

abbrev notes : IdOf → List Noted → ℕ
notes i ns = times i (map (λ (n : Noted). n.id) ns)

abbrev stands : IdOf → List DeltaOf → ℕ
stands i ds = times i (map (λ (d : DeltaOf). d.id) ds)

settled : (i : IdOf) (ws : List Submission) → waits i (without i ws) ≡ 0
settled i ws = ap (waits i) (sym (filter_is i ws)) ∙ gone (λ (s : Submission). s.id) i ws

unsettled : (i j : IdOf) (ws : List Submission) → same_id j i ≡ false → waits i (without j ws) ≡ waits i ws
unsettled i j ws e = ap (waits i) (sym (filter_is j ws)) ∙ others (λ (s : Submission). s.id) i j ws e

waits_none : (i : IdOf) (ws : List Submission) → is_waiting i ws ≡ false → waits i ws ≡ 0
waits_none i [] e = refl
waits_none i (s ∷ ws) e = go (same_id i s.id) e (waits_none i ws)
  where
    go : (b : Bool) → (b || is_waiting i ws) ≡ false → (is_waiting i ws ≡ false → waits i ws ≡ 0) → cond b (suc (waits i ws)) (waits i ws) ≡ 0
    go true e h = absurd (true≢false e)
    go false e h = h e

waits_some : (i : IdOf) (ws : List Submission) → is_waiting i ws ≡ true → 1 ≤ waits i ws
waits_some i [] e = absurd (true≢false (sym e))
waits_some i (s ∷ ws) e = go (same_id i s.id) e (waits_some i ws)
  where
    go : (b : Bool) → (b || is_waiting i ws) ≡ true → (is_waiting i ws ≡ true → 1 ≤ waits i ws) → 1 ≤ cond b (suc (waits i ws)) (waits i ws)
    go true e h = omega arith
    go false e h = h e

stands_none : (i : IdOf) (ds : List DeltaOf) → has_id i ds ≡ false → stands i ds ≡ 0
stands_none i [] e = refl
stands_none i (d ∷ ds) e = go (same_id i d.id) e (stands_none i ds)
  where
    go : (b : Bool) → (b || has_id i ds) ≡ false → (has_id i ds ≡ false → stands i ds ≡ 0) → cond b (suc (stands i ds)) (stands i ds) ≡ 0
    go true e h = absurd (true≢false e)
    go false e h = h e

left_few : (i : IdOf) (ns : List Noted) → length (unnoted i ns) ≤ length ns
left_few i [] = omega arith
left_few i (n ∷ ns) = go (same_id i n.id) (left_few i ns)
  where
    go : (b : Bool) → length (unnoted i ns) ≤ length ns → length (cond (not b) (n ∷ unnoted i ns) (unnoted i ns)) ≤ suc (length ns)
    go true h = omega (arith, h)
    go false h = omega (arith, h)

-- ---- the calls

-- what stands of an id after a change that is about another: the same
pub by_id : (j : IdOf) (P : IdOf → Type 0) → P j → ((i : IdOf) → same_id j i ≡ false → P i) → (i : IdOf) → P i
by_id j P own rest i = go (same_id j i) refl
  where
    go : (b : Bool) → same_id j i ≡ b → P i
    go true e = subst P (same_id-is j i e) own
    go false e = rest i e

pub sound_took : (b : CopyOf) (h : HistoryOf) (d : DeltaOf) (p : Bool) → IsSound b → IsGrown b.history d h → has_id d.id b.history.deltas ≡ false
    → IsSound (copy h (without d.id b.waiting) (unnoted d.id b.noted) p)
sound_took b h d p s g new = record {
  once = by_id d.id (λ i. waits i (without d.id b.waiting) + notes i (unnoted d.id b.noted) + stands i h.deltas ≤ 1)
      (let t = times_own d.id in let u = grown d.id in let v = stands_none d.id b.history.deltas new in omega (arith, w0, n0, t, u, v))
      (λ i e. let w = unsettled i d.id b.waiting e in let n = others (λ (n : Noted). n.id) i d.id b.noted e in let t = times_other i d.id e in let u = grown i in let o = s.once i in omega (arith, w, n, t, u, o));
  few = let l = left_few d.id b.noted in let f = s.few in omega (arith, l, f);
}
  where
    w0 : waits d.id (without d.id b.waiting) ≡ 0
    w0 = settled d.id b.waiting

    n0 : notes d.id (unnoted d.id b.noted) ≡ 0
    n0 = gone (λ (n : Noted). n.id) d.id b.noted

    grown : (i : IdOf) → stands i h.deltas ≡ stands i b.history.deltas + times i (d.id ∷ [])
    grown i = ap (stands i) g.deltas ∙ longer (λ (d : DeltaOf). d.id) i b.history.deltas d

-- with other lists that are equal
pub sound_as : (h : HistoryOf) (ws ws' : List Submission) (ns ns' : List Noted) (p : Bool) → ws' ≡ ws → ns' ≡ ns → IsSound (copy h ws ns p) → IsSound (copy h ws' ns' p)
sound_as h ws ws' ns ns' p a b s = subst IsSound (λ i. copy h (sym a i) (sym b i) p) s

pub sound_waits : (b : CopyOf) (s : Submission) → IsSound b → has_id s.id b.history.deltas ≡ false → IsSound (waits_in b s)
sound_waits b s o new = go (is_waiting s.id b.waiting) refl
  where
    n0 : notes s.id (unnoted s.id b.noted) ≡ 0
    n0 = gone (λ (n : Noted). n.id) s.id b.noted

    d0 : stands s.id b.history.deltas ≡ 0
    d0 = stands_none s.id b.history.deltas new

    few : length (unnoted s.id b.noted) ≤ most_noted
    few = let l = left_few s.id b.noted in let f = o.few in omega (arith, l, f)

    lined_up : Bool → List Submission
    lined_up t = (cond {A = ReplicaOf} t (record { deltas = []; waiting = b.waiting; dropped = false }) (record { deltas = []; waiting = b.waiting ++ s ∷ []; dropped = false })).waiting

    go : (t : Bool) → is_waiting s.id b.waiting ≡ t → IsSound (record b { waiting = lined_up t; noted = unnoted s.id b.noted })
    go true e = record {
      once = by_id s.id (λ i. waits i b.waiting + notes i (unnoted s.id b.noted) + stands i b.history.deltas ≤ 1)
          (let m = o.once s.id in omega (arith, n0, m))
          (λ i f. let n = others (λ (n : Noted). n.id) i s.id b.noted f in let m = o.once i in omega (arith, n, m));
      few = few;
    }
    go false e = record {
      once = by_id s.id (λ i. waits i (b.waiting ++ s ∷ []) + notes i (unnoted s.id b.noted) + stands i b.history.deltas ≤ 1)
          (let l = longer (λ (x : Submission). x.id) s.id b.waiting s in let w = waits_none s.id b.waiting e in let t = times_own s.id in omega (arith, n0, d0, l, w, t))
          (λ i f. let l = longer (λ (x : Submission). x.id) i b.waiting s in let t = times_other i s.id f in let n = others (λ (n : Noted). n.id) i s.id b.noted f in let m = o.once i in omega (arith, l, t, n, m));
      few = few;
    }

pub sound_noted : (b : CopyOf) (i : IdOf) (v : Verdict) → IsSound b → is_waiting i b.waiting ≡ true → IsSound (settled_in b i v)
sound_noted b i v o waits_now = record {
  once = by_id i (λ k. waits k (without i b.waiting) + notes k (with_noted b.noted i v) + stands k b.history.deltas ≤ 1)
      (let l = longer (λ (n : Noted). n.id) i b.noted own in let t = times_own i in let m = o.once i in let d = fewer i in omega (arith, w0, w1, l, t, m, d))
      (λ k f. let w = unsettled k i b.waiting f in let l = longer (λ (n : Noted). n.id) k b.noted own in let t = times_other k i f in let m = o.once k in let d = fewer k in omega (arith, w, l, t, m, d));
  few = newest_few (b.noted ++ own ∷ []);
}
  where
    own : Noted
    own = record { id = i; verdict = v }

    w0 : waits i (without i b.waiting) ≡ 0
    w0 = settled i b.waiting

    w1 : 1 ≤ waits i b.waiting
    w1 = waits_some i b.waiting waits_now

    fewer : (k : IdOf) → notes k (with_noted b.noted i v) ≤ notes k (b.noted ++ own ∷ [])
    fewer k = dropped_times (λ (n : Noted). n.id) k (length (b.noted ++ own ∷ []) - most_noted) (b.noted ++ own ∷ [])
