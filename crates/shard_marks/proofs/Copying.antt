-- The copies that marks give, where one more is added.
--     copied_more, copied_last            marks after others
--     is_copy, no_copy                    a wavelet that the domain hosts has no copy; another one of the shard may have one
--     copied_noted, copied_fault          after a submission to a hosted wavelet
--     copied_queued, hosted_queued        the copies, and what the domain hosts, after a submission that waits at a copy
--     waits_queued                        its id waits then
--     own_queued, counted_queued          marks then
--     IsGift m, gift_is, gift_name        what a copy is given: a delta, a verdict, or that no more comes
--     copied_given, hosted_given          the copies, and what the domain hosts, after a copy was given something
--     own_given, counted_given, one_given     marks that were added then
--     given_at, given_nothing             the answer
use Rattle.std.proofs.Common.{◌≡◌, ◌⊎◌, inl, inr, ℕ, ◌+◌, ◌≤◌, min, Bool, true, false, not, ◌&&◌, ◌||◌, nat_eq, cond, unwrap_or, List, [], ◌∷◌, ◌++◌, length, Option, Some, None, refl, sym, ap, ◌∙◌, arith, append-nil, length-append}
use Rattle.std.specs.FinMap.{empty, get, insert}
use Rattle.std.specs.List.{list_all}
use Rattle.std.proofs.lemmas.Bool.{eq-eqb}
use Rattle.std.proofs.lemmas.Cmp.{nat_list_cmp_total, eq_by_cmp_equiv}
use Rattle.doc_items.specs.Maps.{Key, same_text}
use Rattle.doc_items.proofs.Maps.{tie}
use Rattle.wave_base.specs.Grammar.{host_of}
use Rattle.wave_base.specs.Versions.{IdOf, same_id}
use Rattle.wave_base.proofs.Same.{same_id-refl}
use Rattle.wavelet_op.specs.Deltas.{DeltaOf}
use Rattle.wavelet_op.specs.declared.delta.Submission.{Submission}
use Rattle.delta_history.specs.Legal.{has_id}
use Rattle.follower_rules.specs.Replicas.{ReplicaOf, is_waiting, queue}
use Rattle.peer_turns.specs.declared.absorbed.Absorbed.{Absorbed}
use Rattle.peer_turns.specs.declared.absorbed.Absorbed.TheVariants.{Old, Gap, Diverged, NotLegal, Took}
use Rattle.replica_store.specs.Worlds.{WorldOf, empty_world, Worlds, world_at, world_queued, with_queued, with_taken, taken_by, answer_at, with_settled, settled_if, waits_at, with_dropped, dropped_if, has_more}
use Rattle.replica_store.proofs.Stored.{get_put}
use Rattle.turn_lock.specs.Passes.{IsOneMore}
use Rattle.wavelet_shelf.specs.FileNames.{shard_of}
use Rattle.wavelet_shelf.specs.Hosting.{Hosted, grown_in}
use Rattle.hosted_copies.specs.Domains.{is_hosted_by}
use Rattle.shard_marks.specs.declared.giving.Given.{Given}
use Rattle.shard_marks.specs.declared.giving.Giving.{Giving}
use Rattle.shard_marks.specs.declared.giving.Giving.TheVariants.{Delta, Answer, NoMore}
use Rattle.shard_marks.specs.declared.mark.Mark.{Mark}
use Rattle.shard_marks.specs.declared.mark.Mark.TheVariants.{Began, Applied, Fault, Queued, Answered, Dropped}
use Rattle.shard_marks.specs.Givings.{gift_mark, is_took, name_of, given_in, is_taken_in, after_given, unowned, marks_if, is_taken, IsGivenFrom}
use Rattle.shard_marks.specs.Marks.{is_of, is_copied, is_own_mark, after_mark, with_mark, replayed_on, replayed, copied_on, copied, fault_count, most_faults}
use Rattle.shard_marks.proofs.Replaying.{noted, all_more, replayed_more, count_more}

abbrev pub IsGift : Mark → Type 0
IsGift (Began e j) = ⊥
IsGift (Applied n x) = Unit {0}
IsGift (Fault n i) = ⊥
IsGift (Queued n s) = ⊥
IsGift (Answered n i v) = Unit {0}
IsGift (Dropped n) = Unit {0}

pub gift_is : (n : Key) (g : Giving) → IsGift (gift_mark n g)
gift_is n (Delta delta) = tt
gift_is n (Answer id verdict) = tt
gift_is n NoMore = tt

pub gift_name : (n : Key) (g : Giving) → name_of (gift_mark n g) ≡ n
gift_name n (Delta delta) = refl
gift_name n (Answer id verdict) = refl
gift_name n NoMore = refl

pub one_given : (ms ns : List Mark) (b : Bool) (m : Mark) → ns ≡ ms ++ marks_if b m → (ns ≡ ms) ⊎ IsOneMore ms ns
one_given ms ns false m e = inl (e ∙ append-nil ms)
one_given ms ns true m e = inr (m, e)

none_faults : (b : Bool) (m : Mark) → IsGift m → fault_count (marks_if b m) ≡ 0
none_faults false m g = refl
none_faults true (Began e j) g = absurd g
none_faults true (Applied n x) g = refl
none_faults true (Fault n i) g = absurd g
none_faults true (Queued n s) g = absurd g
none_faults true (Answered n i v) g = refl
none_faults true (Dropped n) g = refl

pub counted_queued : (ms ns : List Mark) (n : Key) (s : Submission) (a : ℕ) → ns ≡ ms ++ Queued n s ∷ [] → min (fault_count ms) most_faults ≤ a → min (fault_count ns) most_faults ≤ a
counted_queued ms ns n s a e le =
    let same : fault_count ns ≡ fault_count ms + 0 = ap fault_count e ∙ count_more ms (Queued n s ∷ []) in
    omega (arith, same, le)

pub counted_given : (ms ns : List Mark) (b : Bool) (m : Mark) (a : ℕ) → IsGift m → ns ≡ ms ++ marks_if b m → min (fault_count ms) most_faults ≤ a → min (fault_count ns) most_faults ≤ a
counted_given ms ns b m a g e le =
    let same : fault_count ns ≡ fault_count ms + fault_count (marks_if b m) = ap fault_count e ∙ count_more ms (marks_if b m) in
    let none = none_faults b m g in
    omega (arith, same, none, le)

-- ---- an id that waits

waits_last : (i : IdOf) (ss : List Submission) (s : Submission) → same_id i s.id ≡ true → is_waiting i (ss ++ s ∷ []) ≡ true
waits_last i [] s e = ap (λ b. b || false) e
waits_last i (x ∷ ss) s e = go (same_id i x.id) (waits_last i ss s e)
  where
    go : (b : Bool) → is_waiting i (ss ++ s ∷ []) ≡ true → b || is_waiting i (ss ++ s ∷ []) ≡ true
    go true rest = refl
    go false rest = rest

abbrev queue_if : ReplicaOf → Submission → Bool → ReplicaOf
queue_if r s b = cond b r (record { deltas = r.deltas; waiting = r.waiting ++ s ∷ []; dropped = r.dropped })

queue_waits : (r : ReplicaOf) (s : Submission) → has_id s.id r.deltas ≡ false → is_waiting s.id (queue r s).waiting ≡ true
queue_waits r s new = ap (λ b. is_waiting s.id (queue_if r s (b || is_waiting s.id r.waiting)).waiting) new ∙ go (is_waiting s.id r.waiting) refl
  where
    go : (b : Bool) → is_waiting s.id r.waiting ≡ b → is_waiting s.id (queue_if r s b).waiting ≡ true
    go true e = e
    go false e = waits_last s.id r.waiting s (same_id-refl s.id)

same_tie : (n : Key) → tie n n ≡ true
unfolding tie
same_tie n = (eq_by_cmp_equiv nat_list_cmp_total).refl n

put_there : (cs : Worlds) (n : Key) (w : WorldOf) → world_at (insert cs n w) n ≡ w
put_there cs n w = ap (λ o. unwrap_or o empty_world) (get_put cs n w n) ∙ ap (λ b. unwrap_or (cond b (Some w) (get cs n)) empty_world) (same_tie n)

pub waits_queued : (cs : Worlds) (n : Key) (s : Submission) → has_id s.id (world_at cs n).replica.deltas ≡ false → waits_at (with_queued cs n s) n s.id ≡ true
waits_queued cs n s new = ap (λ (w : WorldOf). is_waiting s.id w.replica.waiting) (put_there cs n (world_queued (world_at cs n) s)) ∙ queue_waits (world_at cs n).replica s new

module _ (d : Key) (k : ℕ) where
  pub copied_more : (cs : Worlds) (ms ns : List Mark) → copied_on d k cs (ms ++ ns) ≡ copied_on d k (copied_on d k cs ms) ns
  copied_more cs [] ns = refl
  copied_more cs (m ∷ ms) ns = copied_more (with_mark d k cs m) ms ns

  pub no_copy : (n : Key) → is_hosted_by d n ≡ true → is_copied d k n ≡ false
  no_copy n own = ap (λ b. not b && nat_eq (shard_of n) k) own

  pub is_copy : (n : Key) → is_hosted_by d n ≡ false → shard_of n ≡ k → is_copied d k n ≡ true
  is_copy n other shard = ap (λ b. not b && nat_eq (shard_of n) k) other ∙ eq-eqb (shard_of n) k shard

  not_own : (n : Key) → is_copied d k n ≡ true → is_of d k n ≡ false
  not_own n e = go (same_text (host_of n) d) e
    where
      go : (b : Bool) → not b && nat_eq (shard_of n) k ≡ true → b && nat_eq (shard_of n) k ≡ false
      go true f = absurd cc
      go false f = refl

  -- ---- after a submission to a hosted wavelet

  copied_none : (cs : Worlds) (n : Key) (o : Option DeltaOf) → is_copied d k n ≡ false → copied_on d k cs (noted n o) ≡ cs
  copied_none cs n None other = refl
  copied_none cs n (Some x) other = ap (λ b. cond b (with_taken cs n x) cs) other

  pub copied_noted : (cs : Worlds) (ms ns : List Mark) (n : Key) (o : Option DeltaOf) → is_hosted_by d n ≡ true → ns ≡ ms ++ noted n o → cs ≡ copied d k ms → cs ≡ copied d k ns
  copied_noted cs ms ns n o own e is = is ∙ sym (copied_none (copied d k ms) n o (no_copy n own)) ∙ sym (copied_more empty ms (noted n o)) ∙ ap (copied d k) (sym e)

  pub copied_fault : (cs : Worlds) (ms ns : List Mark) (n : Key) (i : IdOf) → ns ≡ ms ++ Fault n i ∷ [] → cs ≡ copied d k ms → cs ≡ copied d k ns
  copied_fault cs ms ns n i e is = is ∙ sym (copied_more empty ms (Fault n i ∷ [])) ∙ ap (copied d k) (sym e)

  -- ---- after a submission that waits at a copy

  module _ (ms ns : List Mark) (n : Key) (s : Submission) (own : is_copied d k n ≡ true) (e : ns ≡ ms ++ Queued n s ∷ []) where
    pub copied_queued : (cs gs : Worlds) → cs ≡ copied d k ms → gs ≡ with_queued cs n s → gs ≡ copied d k ns
    copied_queued cs gs is after =
        after ∙ sym (ap (λ b. cond b (with_queued cs n s) cs) own) ∙ ap (λ z. copied_on d k z (Queued n s ∷ [])) is
        ∙ sym (copied_more empty ms (Queued n s ∷ [])) ∙ ap (copied d k) (sym e)

    pub hosted_queued : (hs : List Hosted) → hs ≡ replayed d k ms → hs ≡ replayed d k ns
    hosted_queued hs is = is ∙ sym (replayed_more d k [] ms (Queued n s ∷ [])) ∙ ap (replayed d k) (sym e)

    pub own_queued : list_all (is_own_mark d k) ms ≡ true → list_all (is_own_mark d k) ns ≡ true
    own_queued all = ap (list_all (is_own_mark d k)) e ∙ all_more (is_own_mark d k) ms (Queued n s ∷ []) all (ap (λ b. b && true) own)

  -- ---- after a copy was given something

  taken_here : (cs : Worlds) (n : Key) (x : DeltaOf) (a : Absorbed) → is_copied d k n ≡ true → copied_on d k cs (marks_if (is_took a) (Applied n x)) ≡ taken_by cs n x a
  taken_here cs n x Old own = refl
  taken_here cs n x Gap own = refl
  taken_here cs n x (Diverged mine theirs) own = refl
  taken_here cs n x NotLegal own = refl
  taken_here cs n x Took own = ap (λ b. cond b (with_taken cs n x) cs) own

  given_here : (cs : Worlds) (m : Mark) → IsGift m → is_copied d k (name_of m) ≡ true → copied_on d k cs (marks_if (is_taken_in cs m) m) ≡ after_given cs m
  given_here cs (Began e j) g own = absurd g
  given_here cs (Applied n x) g own = taken_here cs n x (answer_at cs n x) own
  given_here cs (Fault n i) g own = absurd g
  given_here cs (Queued n s) g own = absurd g
  given_here cs (Answered n i v) g own = go (waits_at cs n i)
    where
      go : (b : Bool) → copied_on d k cs (marks_if b (Answered n i v)) ≡ settled_if cs n i v b
      go true = ap (λ b. cond b (with_settled cs n i v) cs) own
      go false = refl
  given_here cs (Dropped n) g own = go (has_more cs n)
    where
      go : (b : Bool) → copied_on d k cs (marks_if b (Dropped n)) ≡ dropped_if cs n b
      go true = ap (λ b. cond b (with_dropped cs n) cs) own
      go false = refl

  module _ (ms ns : List Mark) (m : Mark) (b : Bool) (g : IsGift m) (own : is_copied d k (name_of m) ≡ true) (e : ns ≡ ms ++ marks_if b m) where
    pub copied_given : (cs gs : Worlds) → cs ≡ copied d k ms → gs ≡ after_given cs m → b ≡ is_taken_in cs m → gs ≡ copied d k ns
    copied_given cs gs is after changes =
        after ∙ sym (given_here cs m g own) ∙ ap (λ z. copied_on d k cs (marks_if z m)) (sym changes) ∙ ap (λ z. copied_on d k z (marks_if b m)) is
        ∙ sym (copied_more empty ms (marks_if b m)) ∙ ap (copied d k) (sym e)

    hosted_one : (hs : List Hosted) (m : Mark) → IsGift m → is_copied d k (name_of m) ≡ true → after_mark d k hs m ≡ hs
    hosted_one hs (Began e j) g own = absurd g
    hosted_one hs (Applied n x) g own = ap (λ z. cond z (grown_in hs n x) hs) (not_own n own)
    hosted_one hs (Fault n i) g own = absurd g
    hosted_one hs (Queued n s) g own = absurd g
    hosted_one hs (Answered n i v) g own = refl
    hosted_one hs (Dropped n) g own = refl

    hosted_none : (z : Bool) (hs : List Hosted) → replayed_on d k hs (marks_if z m) ≡ hs
    hosted_none false hs = refl
    hosted_none true hs = hosted_one hs m g own

    pub hosted_given : (hs : List Hosted) → hs ≡ replayed d k ms → hs ≡ replayed d k ns
    hosted_given hs is = is ∙ sym (hosted_none b (replayed d k ms)) ∙ sym (replayed_more d k [] ms (marks_if b m)) ∙ ap (replayed d k) (sym e)

    shard_second : (p q : Bool) → not p && q ≡ true → q ≡ true
    shard_second true q f = absurd cc
    shard_second false q f = f

    own_one : (m : Mark) → IsGift m → is_copied d k (name_of m) ≡ true → is_own_mark d k m ≡ true
    own_one (Began e j) g own = absurd g
    own_one (Applied n x) g own = shard_second (same_text (host_of n) d) (nat_eq (shard_of n) k) own
    own_one (Fault n i) g own = absurd g
    own_one (Queued n s) g own = absurd g
    own_one (Answered n i v) g own = own
    own_one (Dropped n) g own = own

    own_all : (z : Bool) → list_all (is_own_mark d k) (marks_if z m) ≡ true
    own_all false = refl
    own_all true = ap (λ z. z && true) (own_one m g own)

    pub own_given : list_all (is_own_mark d k) ms ≡ true → list_all (is_own_mark d k) ns ≡ true
    own_given all = ap (list_all (is_own_mark d k)) e ∙ all_more (is_own_mark d k) ms (marks_if b m) all (own_all b)

    pub given_at : (cs : Worlds) (a : Given) → cs ≡ copied d k ms → b ≡ is_taken_in cs m → a ≡ given_in cs m → IsGivenFrom d k ms ns m a
    given_at cs a is changes answer =
        let same : b ≡ is_taken d k ms m = changes ∙ ap (λ z. is_taken_in z m) is ∙ ap (λ z. z && is_taken_in (copied d k ms) m) (sym own) in
        record {
          gained = length (marks_if b m);
          longer = ap length e ∙ length-append ms (marks_if b m);
          answer = record {
            before = ms;
            last = e ∙ ap (λ z. ms ++ marks_if z m) same;
            answer = answer ∙ ap (λ z. given_in z m) is ∙ ap (λ z. cond z (given_in (copied d k ms) m) (unowned m)) (sym own);
            counted = ap (λ z. length (marks_if z m)) same;
          };
        }

  -- a wavelet that the domain hosts
  pub given_nothing : (ms : List Mark) (m : Mark) (a : Given) → is_hosted_by d (name_of m) ≡ true → a ≡ unowned m → IsGivenFrom d k ms ms m a
  given_nothing ms m a own is =
      let other = no_copy (name_of m) own in
      let none : is_taken d k ms m ≡ false = ap (λ z. z && is_taken_in (copied d k ms) m) other in
      record {
        gained = 0;
        longer = omega arith;
        answer = record {
          before = ms;
          last = sym (append-nil ms) ∙ ap (λ z. ms ++ marks_if z m) (sym none);
          answer = is ∙ ap (λ z. cond z (given_in (copied d k ms) m) (unowned m)) (sym other);
          counted = ap (λ z. length (marks_if z m)) (sym none);
        };
      }
