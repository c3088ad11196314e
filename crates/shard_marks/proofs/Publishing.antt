-- What a peer is sent of a shard's hosted wavelets, where it was told all of an earlier moment: just what later marks give it.
--     names_published     the names of what marks give are those that they publish
--     lookup              what holds of each name of histories holds of one that has a delta
--     AreAllBut ts ns hs  names that are all of the hosted ones, but for such as nothing is to be told of
--     sent_but, told_but  a peer is sent the same of these, and told the same
--     all_but             the names of what later marks give are such
--     news_published, after_published     so a session is sent the same, and is left the same
--     due_news, due_after     so it is with the names that are due
--     told_later          what was told at an earlier moment
use Rattle.std.proofs.Common.{Less, Equal, Greater, ◌≡◌, ◌≢◌, ◌⊎◌, inl, inr, ℕ, zero, suc, take, drop, Bool, true, false, cond, ◌&&◌, nat_eq, List, [], ◌∷◌, ◌++◌, refl, sym, ap, subst, ◌∙◌, arith, length, Option, None, Some, option_and_then, not, append-nil, take-append-drop, length-take-le, true≢false}
use Rattle.std.specs.Cmp.Lexicographic.{slice_cmp}
use Rattle.std.specs.List.{AllByRecursion, list_all}
use Rattle.std.specs.Ordering.{nat_cmp, ordering_reverse}
use Rattle.std.specs.declared.cmp.Ordering.{Ordering}
use Rattle.std.proofs.lemmas.Bool.{and_parts}
use mathlib.Core.List.{IsPrefix}
use Rattle.doc_items.specs.Maps.{Key, same_text}
use Rattle.wavelet_op.specs.Deltas.{DeltaOf}
use Rattle.delta_history.specs.Copying.{AreAscending}
use Rattle.delta_history.specs.Histories.{HistoryOf}
use Rattle.session_core.specs.declared.session.Party.{Party}
use Rattle.session_core.specs.declared.session.Party.TheVariants.{Nobody, User, Domain}
use Rattle.session_core.specs.declared.session.Session.{Session}
use Rattle.session_core.specs.declared.session.Telling.{Telling}
use Rattle.session_core.specs.Access.{Shown, with_hosts, has_domain, seen_from}
use Rattle.session_core.specs.Rules.{party_is_peer}
use Rattle.session_core.proofs.Named.{sent_named, told_named, delivered_named, after_named}
use Rattle.session_core.specs.Deliveries.{telling_of, host_news, after_host, hosts_sent, hosts_told, delivered_to, delivered, after_for, after_delivery}
use Rattle.wavelet_shelf.specs.FileNames.{shard_of}
use Rattle.wavelet_shelf.specs.Hosting.{Hosted, names_of, deltas_in, grown_by, grown_in, copy_of, HaveDeltas}
use Rattle.wavelet_shelf.specs.Parts.{is_in}
use Rattle.wavelet_shelf.proofs.Growing.{no_deltas}
use Rattle.wavelet_shelf.proofs.Names.{own, decided, any, tied, turned, same_or_not}
use Rattle.hosted_copies.specs.Domains.{is_hosted_by}
use Rattle.replica_store.specs.Worlds.{world_at}
use Rattle.shard_marks.specs.declared.mark.Mark.{Mark}
use Rattle.shard_marks.specs.declared.mark.Mark.TheVariants.{Began, Applied, Fault, Queued, Answered, Dropped}
use Rattle.shard_marks.specs.Histories.{are_sound}
use Rattle.shard_marks.specs.Marks.{is_of, is_own_mark, after_mark, replayed_on, replayed, copied, shown_at}
use Rattle.shard_marks.specs.Told.{IsToldOf, AreToldOf, AreToldTo, AreTold, AreToldAt, AreDue, name_put, name_put_by, with_published, published}
use Rattle.shard_marks.proofs.Following.{ascend_replayed, of_replayed, have_replayed, deltas_since}
use Rattle.shard_marks.proofs.Prefixes.{prefix_length, prefix_both}
use Rattle.shard_marks.proofs.Telling.{IsSoundFrom, apart, no_news, no_change, still_told, sound_hosts}

-- ---- the names that marks publish

names_grown : (hs : List Hosted) (n : Key) (x : DeltaOf) → names_of (grown_in hs n x) ≡ name_put n (names_of hs)
names_grown [] n x = refl
names_grown (h ∷ hs) n x = go (slice_cmp nat_cmp n h.name) (names_grown hs n x)
  where
    go : (o : Ordering) → names_of (grown_in hs n x) ≡ name_put n (names_of hs)
        → names_of (grown_by o h hs (grown_in hs n x) n x) ≡ name_put_by o n h.name (names_of hs) (name_put n (names_of hs))
    go Less rest = refl
    go Equal rest = refl
    go Greater rest = ap (λ l. h.name ∷ l) rest

module _ (d : Key) (k : ℕ) where
  names_after : (hs : List Hosted) (m : Mark) → is_own_mark d k m ≡ true → names_of (after_mark d k hs m) ≡ with_published d (names_of hs) m
  names_after hs (Began e j) own = refl
  names_after hs (Applied n x) own = go (is_hosted_by d n) (is_in k n) own
    where
      go : (a b : Bool) → b ≡ true → names_of (cond (a && b) (grown_in hs n x) hs) ≡ cond a (name_put n (names_of hs)) (names_of hs)
      go true true e = names_grown hs n x
      go false b e = refl
      go true false e = absurd (true≢false (sym e))
  names_after hs (Fault n i) own = refl
  names_after hs (Queued n s) own = refl
  names_after hs (Answered n i v) own = refl
  names_after hs (Dropped n) own = refl

  names_on : (hs : List Hosted) (ms : List Mark) → list_all (is_own_mark d k) ms ≡ true → names_of (replayed_on d k hs ms) ≡ published d (names_of hs) ms
  names_on hs [] own = refl
  names_on hs (m ∷ ms) own =
      let parts = and_parts (is_own_mark d k m) (list_all (is_own_mark d k) ms) own in
      names_on (after_mark d k hs m) ms parts.1 ∙ ap (λ ns. published d ns ms) (names_after hs m parts.0)

  pub names_published : (ms : List Mark) → list_all (is_own_mark d k) ms ≡ true → names_of (replayed d k ms) ≡ published d [] ms
  names_published ms own = names_on [] ms own

-- ---- names of histories

-- the deltas of a name that isn't the first one's, and of one that is there later
passed : (n : Key) (h : Hosted) (hs : List Hosted) → n ≢ h.name → deltas_in (h ∷ hs) n ≡ deltas_in hs n
passed n h hs ne = ap (λ t. cond t h.deltas (deltas_in hs n)) (decided n h.name ne)

there_on : (n : Key) (h : Hosted) (hs : List Hosted) → h.deltas ≢ [] → deltas_in hs n ≢ [] → deltas_in (h ∷ hs) n ≢ []
there_on n h hs have there = go (same_text n h.name)
  where
    go : (t : Bool) → cond t h.deltas (deltas_in hs n) ≢ []
    go true = have
    go false = there

first : (h : Hosted) (hs : List Hosted) → deltas_in (h ∷ hs) h.name ≡ h.deltas
first h hs = ap (λ t. cond t h.deltas (deltas_in hs h.name)) (own h.name)

module _ (P : Key → Type 0) where
  pub lookup : (hs : List Hosted) → AllByRecursion (λ h. P h.name) hs → (n : Key) → deltas_in hs n ≢ [] → P n
  lookup [] all n there = absurd (there refl)
  lookup (h ∷ hs) all n there = go (lookup hs all.1 n) (same_or_not n h.name)
    where
      go : (deltas_in hs n ≢ [] → P n) → (n ≡ h.name) ⊎ (n ≢ h.name) → P n
      go rest (inl e) = subst P (sym e) all.0
      go rest (inr ne) = rest (λ e. there (passed n h hs ne ∙ e))

  by_name : (hs : List Hosted) → AllByRecursion P (names_of hs) → AllByRecursion (λ h. P h.name) hs
  by_name [] all = tt
  by_name (h ∷ hs) all = (all.0, by_name hs all.1)

-- ---- what a peer is sent

module _ (c : Shown) (domain : Key) where
  -- it was told all of the wavelet
  abbrev IsResting : List Telling → Key → Type 0
  IsResting ts n = IsToldOf n (telling_of n ts) (seen_from c n domain) × IsSoundFrom c domain n

  abbrev AreAllBut : List Telling → List Key → List Key → Type 0
  AreAllBut ts ns [] = ns ≡ []
  AreAllBut ts ns (h ∷ hs) = (IsResting ts h × AreAllBut ts ns hs) ⊎ ((rest : List Key) × ((ns ≡ h ∷ rest) × AreAllBut ts rest hs))

  but_on : (n : Key) (ts : List Telling) (hs ns : List Key) → AllByRecursion (λ m. m ≢ n) hs → AreAllBut ts ns hs → AreAllBut (after_host c domain ts n) ns hs
  but_on n ts [] ns ne all = all
  but_on n ts (h ∷ hs) ns ne (inl x) = inl ((still_told c domain h n ts ne.0 x.0.0, x.0.1), but_on n ts hs ns ne.1 x.1)
  but_on n ts (h ∷ hs) ns ne (inr x) = inr (x.0, (x.1.0, but_on n ts hs x.0 ne.1 x.1.1))

  sent_but : (hs ns : List Key) (ts : List Telling) → AreAscending hs → AreAllBut ts ns hs → hosts_sent c domain ts hs ≡ hosts_sent c domain ts ns
  sent_but [] ns ts a all = ap (hosts_sent c domain ts) (sym all)
  sent_but (h ∷ hs) ns ts a (inl x) =
      (λ i. no_news c domain h ts x.0.1 x.0.0 i ++ hosts_sent c domain (no_change c domain h ts x.0.0 i) hs) ∙ sent_but hs ns ts (any h hs a) x.1
  sent_but (h ∷ hs) ns ts a (inr x) =
      ap (λ l. host_news h (telling_of h ts) (seen_from c h domain) ++ l)
      (sent_but hs x.0 (after_host c domain ts h) (any h hs a) (but_on h ts hs x.0 (apart h hs a) x.1.1))
      ∙ ap (hosts_sent c domain ts) (sym x.1.0)

  told_but : (hs ns : List Key) (ts : List Telling) → AreAscending hs → AreAllBut ts ns hs → hosts_told c domain ts hs ≡ hosts_told c domain ts ns
  told_but [] ns ts a all = ap (hosts_told c domain ts) (sym all)
  told_but (h ∷ hs) ns ts a (inl x) = ap (λ us. hosts_told c domain us hs) (no_change c domain h ts x.0.0) ∙ told_but hs ns ts (any h hs a) x.1
  told_but (h ∷ hs) ns ts a (inr x) =
      told_but hs x.0 (after_host c domain ts h) (any h hs a) (but_on h ts hs x.0 (apart h hs a) x.1.1) ∙ ap (hosts_told c domain ts) (sym x.1.0)

  -- ---- the names of some of the histories

  module _ (ts : List Telling) where
    -- the one list has the names of the other, and the peer was told all of what it has beside them
    record AreSome (xs hs : List Hosted) : Type 0 where
      ascend : AreAscending (names_of xs)
      ascend_all : AreAscending (names_of hs)
      have : HaveDeltas xs
      have_all : HaveDeltas hs
      within : (n : Key) → deltas_in hs n ≡ [] → deltas_in xs n ≡ []
      beside : (n : Key) → deltas_in hs n ≢ [] → deltas_in xs n ≡ [] → IsResting ts n

    -- the first one of all is none of them
    skipped : (xs : List Hosted) (h : Hosted) (hs : List Hosted) → deltas_in xs h.name ≡ [] → AreSome xs (h ∷ hs) → AreSome xs hs
    skipped xs h hs absent s = record {
      ascend = s.ascend;
      ascend_all = any h.name (names_of hs) s.ascend_all;
      have = s.have;
      have_all = s.have_all.1;
      within = λ n none. go n none (same_or_not n h.name);
      beside = λ n there none. s.beside n (there_on n h hs s.have_all.0 there) none;
    }
      where
        go : (n : Key) → deltas_in hs n ≡ [] → (n ≡ h.name) ⊎ (n ≢ h.name) → deltas_in xs n ≡ []
        go n none (inl e) = ap (deltas_in xs) e ∙ absent
        go n none (inr ne) = s.within n (passed n h hs ne ∙ none)

    -- the first ones of both are the same
    taken : (x : Hosted) (xs : List Hosted) (h : Hosted) (hs : List Hosted) → x.name ≡ h.name → AreSome (x ∷ xs) (h ∷ hs) → AreSome xs hs
    taken x xs h hs same s = record {
      ascend = any x.name (names_of xs) s.ascend;
      ascend_all = any h.name (names_of hs) s.ascend_all;
      have = s.have.1;
      have_all = s.have_all.1;
      within = λ n none. go n none (same_or_not n x.name);
      beside = λ n there none. beside n there none (same_or_not n h.name);
    }
      where
        go : (n : Key) → deltas_in hs n ≡ [] → (n ≡ x.name) ⊎ (n ≢ x.name) → deltas_in xs n ≡ []
        go n none (inl e) = ap (deltas_in xs) e ∙ no_deltas x.name xs s.ascend
        go n none (inr ne) = sym (passed n x xs ne) ∙ s.within n (passed n h hs (λ e. ne (e ∙ sym same)) ∙ none)

        beside : (n : Key) → deltas_in hs n ≢ [] → deltas_in xs n ≡ [] → (n ≡ h.name) ⊎ (n ≢ h.name) → IsResting ts n
        beside n there none (inl e) = absurd (there (ap (deltas_in hs) e ∙ no_deltas h.name hs s.ascend_all))
        beside n there none (inr ne) = s.beside n (there_on n h hs s.have_all.0 there) (passed n x xs (λ e. ne (e ∙ same)) ∙ none)

    -- a name before those of all is none of theirs
    absent_in : (x : Hosted) (xs : List Hosted) (h : Hosted) (hs : List Hosted) → x.name ≢ h.name → AreSome (x ∷ xs) (h ∷ hs) → deltas_in (x ∷ xs) h.name ≡ []
    absent_in x xs h hs differ s = go (slice_cmp nat_cmp h.name x.name) refl
      where
        go : (o : Ordering) → slice_cmp nat_cmp h.name x.name ≡ o → deltas_in (x ∷ xs) h.name ≡ []
        go Less e = no_deltas h.name (x ∷ xs) (e, s.ascend)
        go Equal e = absurd (differ (sym (tied h.name x.name e)))
        go Greater e = absurd (s.have.0 (sym (first x xs) ∙ s.within x.name (no_deltas x.name (h ∷ hs) (turned h.name x.name ∙ ap ordering_reverse e, s.ascend_all))))

    but_some : (hs xs : List Hosted) → AreSome xs hs → AreAllBut ts (names_of xs) (names_of hs)
    but_some [] [] s = refl
    but_some [] (x ∷ xs) s = absurd (s.have.0 (sym (first x xs) ∙ s.within x.name refl))
    but_some (h ∷ hs) [] s = inl (s.beside h.name (λ e. s.have_all.0 (sym (first h hs) ∙ e)) refl, but_some hs [] (skipped [] h hs refl s))
    but_some (h ∷ hs) (x ∷ xs) s = go (but_some hs xs) (but_some hs (x ∷ xs)) (same_or_not x.name h.name)
      where
        go : (AreSome xs hs → AreAllBut ts (names_of xs) (names_of hs)) → (AreSome (x ∷ xs) hs → AreAllBut ts (names_of (x ∷ xs)) (names_of hs))
            → (x.name ≡ h.name) ⊎ (x.name ≢ h.name) → AreAllBut ts (names_of (x ∷ xs)) (names_of (h ∷ hs))
        go both rest (inl e) = inr (names_of xs, (ap (λ n. n ∷ names_of xs) e, both (taken x xs h hs e s)))
        go both rest (inr ne) =
            let absent = absent_in x xs h hs ne s in
            inl (s.beside h.name (λ e. s.have_all.0 (sym (first h hs) ∙ e)) absent, rest (skipped (x ∷ xs) h hs absent s))

-- ---- marks of an earlier moment, and later ones

second_none : {A : Type 0} (xs ys : List A) → xs ++ ys ≡ [] → ys ≡ []
second_none [] ys e = e
second_none (x ∷ xs) ys e = absurd (omega (arith, ap length e))

module _ (d : Key) (k : ℕ) (cut since : List Mark) where
  abbrev c : Shown
  c = shown_at d k (cut ++ since)

  abbrev seen_of : Key → Bool → Option HistoryOf → Option HistoryOf
  seen_of domain dropped copy = option_and_then (λ h. cond (has_domain h domain && not dropped) (Some h) None) copy

  hosted_seen : (domain n : Key) (ms : List Mark) → is_hosted_by d n ≡ true → seen_from (shown_at d k ms) n domain ≡ seen_of domain false (copy_of n (deltas_in (replayed d k ms) n))
  hosted_seen domain n ms hosted =
      let w = (world_at (copied d k ms) n).replica in
      λ i. seen_of domain (cond (hosted i) false w.dropped) (copy_of n (cond (hosted i) (deltas_in (replayed d k ms) n) w.deltas))

  -- a hosted wavelet to which nothing was added since is as it was, and is seen as before
  still : (n : Key) → deltas_in (replayed d k since) n ≡ [] → deltas_in (replayed d k cut) n ≡ deltas_in (replayed d k (cut ++ since)) n
  still n none = sym (deltas_since d k n cut since ∙ ap (λ l. deltas_in (replayed d k cut) n ++ l) none ∙ append-nil (deltas_in (replayed d k cut) n))

  seen_still : (domain n : Key) → is_hosted_by d n ≡ true → deltas_in (replayed d k since) n ≡ [] → seen_from (shown_at d k cut) n domain ≡ seen_from c n domain
  seen_still domain n hosted none =
      hosted_seen domain n cut hosted ∙ ap (λ ds. seen_of domain false (copy_of n ds)) (still n none) ∙ sym (hosted_seen domain n (cut ++ since) hosted)

  module _ (sound : are_sound (replayed d k (cut ++ since)) ≡ true) where
    module _ (domain : Key) (ts : List Telling) (told : AreToldOf (shown_at d k cut) domain ts (names_of (replayed d k cut))) where
      resting : (n : Key) → deltas_in (replayed d k (cut ++ since)) n ≢ [] → deltas_in (replayed d k since) n ≡ [] → IsResting c domain ts n
      resting n there none =
          let all = replayed d k (cut ++ since) in
          let hosted : is_hosted_by d n ≡ true = (and_parts (is_hosted_by d n) (nat_eq (shard_of n) k) (lookup (λ m. is_of d k m ≡ true) all (of_replayed d k (cut ++ since)) n there)).0 in
          let before : deltas_in (replayed d k cut) n ≢ [] = λ e. there (sym (still n none) ∙ e) in (
            subst (IsToldOf n (telling_of n ts)) (seen_still domain n hosted none)
                (lookup (λ m. IsToldOf m (telling_of m ts) (seen_from (shown_at d k cut) m domain)) (replayed d k cut)
                (by_name (λ m. IsToldOf m (telling_of m ts) (seen_from (shown_at d k cut) m domain)) (replayed d k cut) told) n before),
            lookup (IsSoundFrom c domain) all (by_name (IsSoundFrom c domain) all (sound_hosts d k (cut ++ since) domain sound)) n there,
          )

      some : AreSome c domain ts (replayed d k since) (replayed d k (cut ++ since))
      some = record {
        ascend = ascend_replayed d k since;
        ascend_all = ascend_replayed d k (cut ++ since);
        have = have_replayed d k since;
        have_all = have_replayed d k (cut ++ since);
        within = λ n none. second_none (deltas_in (replayed d k cut) n) (deltas_in (replayed d k since) n) (sym (deltas_since d k n cut since) ∙ none);
        beside = resting;
      }

      all_but : AreAllBut c domain ts (names_of (replayed d k since)) (names_of (replayed d k (cut ++ since)))
      all_but = but_some c domain ts (replayed d k (cut ++ since)) (replayed d k since) some

    -- a session that was told all at the earlier moment
    module _ (s : Session) (told : AreTold (shown_at d k cut) s) (ns : List Key) (is : ns ≡ names_of (replayed d k since)) where
      ascend : AreAscending c.hosts
      ascend = ascend_replayed d k (cut ++ since)

      pub news_published : delivered (with_hosts c ns) s ≡ delivered c s
      news_published = go s.party refl told
        where
          go : (p : Party) → s.party ≡ p → AreToldTo (shown_at d k cut) s.tellings p → delivered_to (with_hosts c ns) s s.party ≡ delivered_to c s s.party
          go Nobody e t = delivered_named c ns s (ap party_is_peer e)
          go (User user) e t = delivered_named c ns s (ap party_is_peer e)
          go (Domain domain) e t =
              ap (delivered_to (with_hosts c ns) s) e ∙ sent_named c ns domain s.tellings ns ∙ ap (hosts_sent c domain s.tellings) is
              ∙ sym (sent_but c domain c.hosts (names_of (replayed d k since)) s.tellings ascend (all_but domain s.tellings t)) ∙ sym (ap (delivered_to c s) e)

      pub after_published : after_delivery (with_hosts c ns) s ≡ after_delivery c s
      after_published = go s.party refl told
        where
          go : (p : Party) → s.party ≡ p → AreToldTo (shown_at d k cut) s.tellings p → after_for (with_hosts c ns) s s.party ≡ after_for c s s.party
          go Nobody e t = after_named c ns s (ap party_is_peer e)
          go (User user) e t = after_named c ns s (ap party_is_peer e)
          go (Domain domain) e t =
              ap (after_for (with_hosts c ns) s) e
              ∙ ap (λ ts. record s { tellings = ts }) (told_named c ns domain s.tellings ns ∙ ap (hosts_told c domain s.tellings) is
              ∙ sym (told_but c domain c.hosts (names_of (replayed d k since)) s.tellings ascend (all_but domain s.tellings t)))
              ∙ sym (ap (after_for c s) e)

-- ---- the names that are due

module _ (d : Key) (k : ℕ) (ms : List Mark) (own : list_all (is_own_mark d k) ms ≡ true) (sound : are_sound (replayed d k ms) ≡ true) (s : Session) (n : ℕ) (at : AreToldAt d k ms s n) where
  abbrev all : Shown
  all = shown_at d k ms

  own_rest : (i : ℕ) (xs : List Mark) → list_all (is_own_mark d k) xs ≡ true → list_all (is_own_mark d k) (drop i xs) ≡ true
  own_rest zero xs e = e
  own_rest (suc i) [] e = refl
  own_rest (suc i) (x ∷ xs) e = own_rest i xs (and_parts (is_own_mark d k x) (list_all (is_own_mark d k) xs) e).1

  -- what was published since
  module _ (some : n ≢ 0) (ns : List Key) (is : ns ≡ published d [] (drop n ms)) where
    whole : take n ms ++ drop n ms ≡ ms
    whole = take-append-drop n ms

    told : AreTold (shown_at d k (take n ms)) s
    told = let within = at.within in at.told (take n ms) (drop n ms, whole) (length-take-le n ms within) some

    names : ns ≡ names_of (replayed d k (drop n ms))
    names = is ∙ sym (names_published d k (drop n ms) (own_rest n ms own))

    sound_whole : are_sound (replayed d k (take n ms ++ drop n ms)) ≡ true
    sound_whole = ap (λ xs. are_sound (replayed d k xs)) whole ∙ sound

    news_since : delivered (with_hosts all ns) s ≡ delivered all s
    news_since = subst (λ xs. delivered (with_hosts (shown_at d k xs) ns) s ≡ delivered (shown_at d k xs) s) whole
        (news_published d k (take n ms) (drop n ms) sound_whole s told ns names)

    after_since : after_delivery (with_hosts all ns) s ≡ after_delivery all s
    after_since = subst (λ xs. after_delivery (with_hosts (shown_at d k xs) ns) s ≡ after_delivery (shown_at d k xs) s) whole
        (after_published d k (take n ms) (drop n ms) sound_whole s told ns names)

  pub due_news : (ns : List Key) → AreDue d k ms s n ns → delivered (with_hosts all ns) s ≡ delivered all s
  due_news ns (inl other) = delivered_named all ns s other
  due_news ns (inr (inl is)) = ap (λ xs. delivered (with_hosts all xs) s) is
  due_news ns (inr (inr since)) = news_since since.0 ns since.1

  pub due_after : (ns : List Key) → AreDue d k ms s n ns → after_delivery (with_hosts all ns) s ≡ after_delivery all s
  due_after ns (inl other) = after_named all ns s other
  due_after ns (inr (inl is)) = ap (λ xs. after_delivery (with_hosts all xs) s) is
  due_after ns (inr (inr since)) = after_since since.0 ns since.1

-- ---- later moments

pub told_later : (d : Key) (k : ℕ) (ms ns : List Mark) (s : Session) (n : ℕ) → IsPrefix ms ns → AreToldAt d k ms s n → AreToldAt d k ns s n
told_later d k ms ns s n begins at =
    let within = at.within in
    let up = prefix_length ms ns begins in record {
      within = omega (arith, within, up);
      told = λ cut p whole some. at.told cut (prefix_both cut ms ns p begins (omega (arith, whole, within))) whole some;
    }
