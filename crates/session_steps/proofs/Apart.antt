-- Shards have no wavelet in common, and what a session was sent of one stays sent whatever it is sent of another.
--     lacking           of a wavelet of another shard nothing is shown
--     apart             no wavelet is shown at two shards
--     sent_taken        after a message that asks for no look
--     sent_about        after a call about one wavelet, where its shard is due then
--     sent_delivered    after news
--     nothing_left      where a session was sent all of each shard
use Rattle.std.proofs.Common.{◌≡◌, ◌≢◌, ◌⊎◌, inl, inr, ◌<◌, ℕ, arith, Bool, true, false, cond, nat_eq, List, [], ◌∷◌, length, get_or, None, Some, option_map, unwrap_or, refl, sym, ap, subst, ◌∙◌, true≢false}
use Rattle.std.proofs.lemmas.Bool.{and_parts}
use Rattle.std.proofs.lemmas.Bool.Decides.{nat_tests}
use Rattle.std.specs.Cmp.Lexicographic.{slice_cmp}
use Rattle.std.specs.FinMap.{get, insert, empty, get-empty}
use Rattle.std.specs.List.{AllByRecursion}
use Rattle.std.specs.Ordering.{nat_cmp}
use mathlib.Core.List.{IsPrefix}
use Rattle.doc_items.specs.Maps.{Key}
use Rattle.doc_items.proofs.Maps.{tie, tied}
use Rattle.wave_base.specs.Versions.{IdOf}
use Rattle.delta_history.specs.Copying.{kept_in}
use Rattle.delta_history.specs.Points.{start}
use Rattle.delta_history.specs.Verdicts.{kept}
use Rattle.session_core.specs.declared.session.Session.{Session}
use Rattle.session_core.specs.Access.{Shown}
use Rattle.session_core.specs.Deliveries.{delivered, after_delivery}
use Rattle.session_core.specs.Rules.{Taken, has_peer}
use Rattle.wavelet_shelf.specs.FileNames.{shard_of}
use Rattle.wavelet_shelf.specs.Hosting.{Hosted, names_of, deltas_in, grown_in, copy_of}
use Rattle.wavelet_shelf.specs.Shelves.{acknowledged}
use Rattle.wavelet_shelf.proofs.Growing.{grows_alone}
use Rattle.wavelet_shelf.proofs.Names.{decided}
use Rattle.shard_marks.specs.declared.mark.Mark.{Mark}
use Rattle.shard_marks.specs.declared.mark.Mark.TheVariants.{Began, Applied, Fault, Queued, Answered, Dropped}
use Rattle.replica_store.specs.Settling.{outcome_kept}
use Rattle.replica_store.specs.Worlds.{WorldOf, empty_world, Worlds, world_at, outcome_at, world_taken, world_queued, world_settled, dropped}
use Rattle.replica_store.proofs.Stored.{get_put}
use Rattle.hosted_copies.specs.Domains.{is_hosted_by}
use Rattle.hosted_copies.specs.Shown.{outcome_in}
use Rattle.shard_marks.specs.Marks.{is_of, is_copied, is_founded, after_mark, replayed_on, replayed, with_mark, copied_on, copied, shown_at}
use Rattle.shard_marks.specs.Servers.{ServerOf}
use Rattle.shard_marks.specs.Told.{AreTold}
use Rattle.shard_marks.proofs.Following.{of_replayed}
use Rattle.shard_marks.proofs.Telling.{told_moment}
use Rattle.session_steps.specs.Clients.{IsSentTo, AreSentTo, AreSentAll}
use Rattle.session_steps.specs.Served.{HaveNothingLeft}
use Rattle.shard_marks.proofs.Prefixes.{prefix_self, prefix_whole}
use Rattle.session_steps.proofs.Taking.{IsTaken, IsLacking, IsAbout, AreApart, after_quiet, after_told}
use Rattle.session_steps.proofs.Telling.{IsNoneOf}

same_number : (a b : ℕ) → nat_eq a b ≡ true → a ≡ b
same_number a b e = grind (arith, nat_tests)

module _ (d : Key) (k : ℕ) (n : Key) (other : shard_of n ≢ k) where
  mark_none : (hs : List Hosted) (m : Mark) → deltas_in hs n ≡ [] → deltas_in (after_mark d k hs m) n ≡ []
  mark_none hs (Began e j) none = none
  mark_none hs (Fault x i) none = none
  mark_none hs (Queued x s) none = none
  mark_none hs (Answered x i v) none = none
  mark_none hs (Dropped x) none = none
  mark_none hs (Applied x delta) none = go (is_of d k x) refl
    where
      go : (t : Bool) → is_of d k x ≡ t → deltas_in (cond t (grown_in hs x delta) hs) n ≡ []
      go true e = grows_alone.others hs x delta n (λ same. other (ap shard_of same ∙ same_number (shard_of x) k (and_parts _ _ e).1)) ∙ none
      go false e = none

  changed : (cs : Worlds) (x : Key) (w : WorldOf) → world_at cs n ≡ empty_world → world_at (cond (is_copied d k x) (insert cs x w) cs) n ≡ empty_world
  changed cs x w none = go (is_copied d k x) refl
    where
      go : (t : Bool) → is_copied d k x ≡ t → world_at (cond t (insert cs x w) cs) n ≡ empty_world
      go false e = none
      go true e = ap (λ o. unwrap_or o empty_world) (get_put cs x w n) ∙ apart_from (tie n x) refl
        where
          apart_from : (b : Bool) → tie n x ≡ b → unwrap_or (cond b (Some w) (get cs n)) empty_world ≡ empty_world
          apart_from false f = none
          apart_from true f = absurd (other (ap shard_of (tied n x f) ∙ same_number (shard_of x) k (and_parts _ _ e).1))

  replayed_none : (ms : List Mark) (hs : List Hosted) → deltas_in hs n ≡ [] → deltas_in (replayed_on d k hs ms) n ≡ []
  replayed_none [] hs none = none
  replayed_none (m ∷ ms) hs none = replayed_none ms (after_mark d k hs m) (mark_none hs m none)

  -- so there is no copy
  world_none : (cs : Worlds) (m : Mark) → world_at cs n ≡ empty_world → world_at (with_mark d k cs m) n ≡ empty_world
  world_none cs (Began e j) none = none
  world_none cs (Applied x delta) none = changed cs x (world_taken (world_at cs x) delta) none
  world_none cs (Fault x i) none = none
  world_none cs (Queued x s) none = changed cs x (world_queued (world_at cs x) s) none
  world_none cs (Answered x i v) none = changed cs x (world_settled (world_at cs x) i v) none
  world_none cs (Dropped x) none = changed cs x (dropped (world_at cs x)) none

  copied_none : (ms : List Mark) (cs : Worlds) → world_at cs n ≡ empty_world → world_at (copied_on d k cs ms) n ≡ empty_world
  copied_none [] cs none = none
  copied_none (m ∷ ms) cs none = copied_none ms (with_mark d k cs m) (world_none cs m none)

  no_deltas : (ms : List Mark) → deltas_in (replayed d k ms) n ≡ []
  no_deltas ms = replayed_none ms [] refl

  no_world : (ms : List Mark) → world_at (copied d k ms) n ≡ empty_world
  no_world ms = copied_none ms empty (ap (λ o. unwrap_or o empty_world) (get-empty (slice_cmp nat_cmp) n))

  -- the hosts' names are of the shard
  none_of : (hs : List Hosted) → AllByRecursion (λ h. is_of d k h.name ≡ true) hs → IsNoneOf n (names_of hs)
  none_of [] all = tt
  none_of (h ∷ hs) all = (decided n h.name (λ e. other (ap shard_of e ∙ same_number (shard_of h.name) k (and_parts _ _ all.0).1)), none_of hs all.1)

  pub lacking : (ms : List Mark) → IsLacking (shown_at d k ms) n
  lacking ms = record {
    copy = ap (copy_of n) (no_copy (is_hosted_by d n));
    outcome = λ i. no_outcome i (is_hosted_by d n);
    unhosted = none_of (replayed d k ms) (of_replayed d k ms);
  }
    where
      no_copy : (b : Bool) → cond b (deltas_in (replayed d k ms) n) (world_at (copied d k ms) n).replica.deltas ≡ []
      no_copy true = no_deltas ms
      no_copy false = ap (λ (w : WorldOf). w.replica.deltas) (no_world ms)

      no_outcome : (i : IdOf) (b : Bool) → cond b (outcome_in (replayed d k ms) n i) (outcome_at (copied d k ms) n i) ≡ None
      no_outcome i true = ap (λ ds. option_map acknowledged (kept_in (copy_of n ds) i)) (no_deltas ms)
      no_outcome i false = ap (λ (w : WorldOf). outcome_kept i w.noted (kept i (start n) w.replica.deltas)) (no_world ms)

same_or_not : (j k : ℕ) → (j ≡ k) ⊎ (j ≢ k)
same_or_not j k = grind arith

pub apart : (d : Key) (j k : ℕ) → j ≢ k → (ms ns : List Mark) → AreApart (shown_at d j ms) (shown_at d k ns)
apart d j k differ ms ns = record { copies = λ n. go n (same_or_not (shard_of n) j); hosts = each (replayed d j ms) (of_replayed d j ms) }
  where
    go : (n : Key) → (shard_of n ≡ j) ⊎ (shard_of n ≢ j) → ((shown_at d k ns).copy n ≡ None) ⊎ ((shown_at d j ms).copy n ≡ None)
    go n (inl e) = inl (lacking d k n (λ f. differ (sym e ∙ f)) ns).copy
    go n (inr e) = inr (lacking d j n e ms).copy

    each : (hs : List Hosted) → AllByRecursion (λ h. is_of d j h.name ≡ true) hs → AllByRecursion (λ h. IsNoneOf h (shown_at d k ns).hosts) (names_of hs)
    each [] all = tt
    each (h ∷ hs) all = ((lacking d k h.name (λ f. differ (sym (same_number (shard_of h.name) j (and_parts _ _ all.0).1) ∙ f)) ns).unhosted, each hs all.1)

module _ (d : Key) (m : ℕ → List Mark) (s : Session) (lengths : List ℕ) (sent : AreSentTo d m s lengths) where
  -- what is quiet for the one session is quiet for the other, and what the one was told all of the other was
  sent_as : (x : Session) → ((c : Shown) → delivered c s ≡ [] → delivered c x ≡ []) → ((c : Shown) → AreTold c s → AreTold c x) → AreSentTo d m x lengths
  sent_as x quiet told k below = let here = sent k below in record {
    told = record { within = here.told.within; told = λ cut begins whole some. told (shown_at d k cut) (here.told.told cut begins whole some) };
    quiet = λ cut begins whole some. quiet (shown_at d k cut) (here.quiet cut begins whole some);
  }

  pub sent_taken : (v : ServerOf) (r : Taken) → IsTaken v s r → has_peer r.0 ≡ has_peer s → AreSentTo d m r.0 lengths
  sent_taken v r t same = sent_as r.0 (t.quiet same) (t.told same)

  module _ (now : List ℕ) (j : ℕ) (others : (k : ℕ) → k ≢ j → get_or now k 0 ≡ get_or lengths k 0) where
    -- of another shard, by what stays of its copies
    sent_other : (x : Session) (k : ℕ) → k < 16 → k ≢ j → ((cut : List Mark) → delivered (shown_at d k cut) s ≡ [] → delivered (shown_at d k cut) x ≡ [])
        → ((cut : List Mark) → AreTold (shown_at d k cut) s → AreTold (shown_at d k cut) x) → IsSentTo d k (m k) x (get_or now k 0)
    sent_other x k below n quiet told =
        let here = sent k below in
        let same = others k n in
        let within = here.told.within in record {
          told = record {
            within = omega (arith, within, same);
            told = λ cut begins whole some. told cut (here.told.told cut begins (whole ∙ same) (λ z. some (same ∙ z)));
          };
          quiet = λ cut begins whole some. quiet cut (here.quiet cut begins (whole ∙ same) (λ z. some (same ∙ z)));
        }

    pub sent_about : (v : ServerOf) (name : Key) (x : Session) → j ≡ shard_of name → get_or now j 0 ≡ 0 → IsAbout v s name x → AreSentTo d m x now
    sent_about v name x at due a k below = go (same_or_not k j)
      where
        go : (k ≡ j) ⊎ (k ≢ j) → IsSentTo d k (m k) x (get_or now k 0)
        go (inl e) =
            let zero_here : get_or now k 0 ≡ 0 = ap (λ i. get_or now i 0) e ∙ due in record {
              told = record { within = omega (arith, zero_here); told = λ cut begins whole some. absurd (some zero_here) };
              quiet = λ cut begins whole some. absurd (some zero_here);
            }
        go (inr n) =
            sent_other x k below n (λ cut. a.quiet (shown_at d k cut) (lacking d k name (λ e. n (sym e ∙ sym at)) cut))
            (λ cut. a.told (shown_at d k cut) (lacking d k name (λ e. n (sym e ∙ sym at)) cut))

    pub sent_delivered : (x : Session) → x ≡ after_delivery (shown_at d j (m j)) s → delivered (shown_at d j (m j)) x ≡ [] → get_or now j 0 ≡ length (m j) → AreSentTo d m x now
    sent_delivered x is quiet length_is k below = go (same_or_not k j)
      where
        whole_is : (P : List Mark → Type 0) → P (m j) → (cut : List Mark) → IsPrefix cut (m j) → length cut ≡ get_or now j 0 → P cut
        whole_is P here cut begins whole = subst P (sym (prefix_whole cut (m j) begins (whole ∙ length_is))) here

        go : (k ≡ j) ⊎ (k ≢ j) → IsSentTo d k (m k) x (get_or now k 0)
        go (inl e) =
            subst (λ i. IsSentTo d i (m i) x (get_or now i 0)) (sym e) (record {
              told = record {
                within = omega (arith, length_is);
                told = λ cut begins whole some. whole_is (λ ms. AreTold (shown_at d j ms) x) (subst (AreTold (shown_at d j (m j))) (sym is) (told_moment d j (m j) s)) cut begins whole;
              };
              quiet = λ cut begins whole some. whole_is (λ ms. delivered (shown_at d j ms) x ≡ []) quiet cut begins whole;
            })
        go (inr n) =
            let others_apart = λ (cut : List Mark). apart d j k (λ e. n (sym e)) (m j) cut in
            subst (λ y. IsSentTo d k (m k) y (get_or now k 0)) (sym is) (sent_other (after_delivery (shown_at d j (m j)) s) k below n
            (λ cut. after_quiet s (shown_at d j (m j)) (shown_at d k cut) (others_apart cut)) (λ cut. after_told s (shown_at d j (m j)) (shown_at d k cut) (others_apart cut)))

  some_marks : (k : ℕ) (ms : List Mark) → is_founded d k ms ≡ true → length ms ≢ 0
  some_marks k [] e z = absurd (true≢false (sym e))
  some_marks k (x ∷ ms) e z = absurd (omega (arith, z))

  pub nothing_left : ((k : ℕ) → k < 16 → is_founded d k (m k) ≡ true) → AreSentAll m 16 lengths → HaveNothingLeft d m s
  nothing_left founded all k below =
      let here = sent k below in
      let same = all k below in here.quiet (m k) (prefix_self (m k)) (sym same) (λ z. some_marks k (m k) (founded k below) (sym same ∙ z))
