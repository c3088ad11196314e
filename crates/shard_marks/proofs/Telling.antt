-- What a peer is told of hosted wavelets, once and not again.
--     apart             names that ascend from one are others
--     no_news, no_change      of a wavelet of which a peer was told all there is nothing to tell, and telling it changes nothing
--     still_told        it stays told of it where it is told of another
--     all_told          after it was sent all it was told all
--     nothing_told      so there is nothing to tell then
--     told_moment       so it is with a session and a shard
--     legal_sound       a legal history is whole, and its deltas are short
--     sound_hosts       so is what is shown to a peer of a shard whose histories are
--     delivered_short   what a session is sent of such a shard may stand in messages
use Rattle.std.proofs.Common.{◌≡◌, ◌≢◌, ℕ, zero, suc, ◌+◌, ◌<◌, nat_eq, nat_lt, Bool, true, false, cond, ◌&&◌, not, List, [], ◌∷◌, ◌++◌, length, drop, slice_set, Option, None, Some, option_map, option_and_then, IfSome, refl, sym, ap, subst, ◌∙◌, arith, add-one, true≢false}
use Rattle.std.specs.Cmp.Lexicographic.{slice_cmp, bytes_decides}
use Rattle.std.specs.List.{list_all, All, AllByRecursion}
use Rattle.std.specs.Ordering.{nat_cmp}
use Rattle.std.proofs.lemmas.Bool.{and_parts, and_from}
use Rattle.std.proofs.lemmas.Bool.Decides.{nat_tests}
use Rattle.std.proofs.lemmas.List.Elements.{All-nil, All-cons, All-append}
use Rattle.std.specs.declared.cmp.Ordering.TheVariants.{Less}
use Rattle.doc_items.specs.Maps.{Key, same_text}
use Rattle.op_codec.specs.Spelling.{limit}
use Rattle.wavelet_op.specs.Deltas.{DeltaOf}
use Rattle.wavelet_codec.specs.Spelling.{delta_bytes}
use Rattle.delta_history.specs.Copying.{AscendFrom, AreAscending}
use Rattle.delta_history.specs.Histories.{HistoryOf, head_of}
use Rattle.delta_history.specs.Legal.{IsLegalFrom, IsLegal}
use Rattle.delta_history.specs.Places.{started_below}
use Rattle.message_json.specs.Write.{IsShort}
use Rattle.message_json.specs.declared.message.Message.TheVariants.{Applied, Dropped}
use Rattle.session_core.specs.declared.session.Party.{Party}
use Rattle.session_core.specs.declared.session.Party.TheVariants.{Nobody, User, Domain}
use Rattle.session_core.specs.declared.session.Session.{Session}
use Rattle.session_core.specs.declared.session.Telling.{Telling}
use Rattle.session_core.specs.Access.{Shown, has_domain, seen_from}
use Rattle.session_core.specs.Answers.{place_told, put_told, told_at}
use Rattle.session_core.specs.Current.{is_none_left}
use Rattle.session_core.specs.Deliveries.{since, applieds, telling_of, host_news, host_told, after_host, hosts_sent, hosts_told, delivered_to, delivered, after_for, after_delivery}
use Rattle.session_core.specs.Rules.{party_is_peer}
use Rattle.session_core.proofs.Current.{nothing_after}
use Rattle.wavelet_shelf.specs.FileNames.{shard_of}
use Rattle.wavelet_shelf.specs.Hosting.{Hosted, names_of, deltas_in, copy_of}
use Rattle.wavelet_shelf.proofs.Names.{own, decided, any, lower, below_none}
use Rattle.hosted_copies.specs.Domains.{is_hosted_by}
use Rattle.hosted_copies.proofs.Short.{sent_short}
use Rattle.replica_store.specs.Worlds.{world_at}
use Rattle.shard_copies.specs.Shown.{copy_among}
use Rattle.shard_marks.specs.declared.mark.Mark.{Mark}
use Rattle.shard_marks.specs.Histories.{hosted_as, history_of, is_whole, is_short, is_sound, are_sound}
use Rattle.shard_marks.specs.Marks.{is_of, replayed, copied, shown_at}
use Rattle.shard_marks.specs.Told.{IsToldOf, AreToldOf, AreToldTo, AreTold}
use Rattle.shard_marks.proofs.Following.{ascend_replayed, of_replayed, all_there}

-- ---- what was told of a wavelet

abbrev telling : Key → ℕ → Bool → Telling
telling n v b = record { name = n; sent = v; told = b }

put_more : (n : Key) (v : ℕ) (b : Bool) (t : Telling) (ts : List Telling) (o : Option ℕ) → put_told n v b (t ∷ ts) (option_map (λ i. i + 1) o) ≡ t ∷ put_told n v b ts o
put_more n v b t ts None = refl
put_more n v b t ts (Some i) = ap (λ j. slice_set (t ∷ ts) j (telling n v b)) (add-one i)

told_here : (n : Key) (v : ℕ) (b : Bool) (ts : List Telling) → telling_of n (told_at n v b ts) ≡ telling n v b
told_here n v b [] = ap (λ e. cond e (telling n v b) (telling_of n [])) (own n)
told_here n v b (t ∷ ts) = go (same_text t.name n) refl (told_here n v b ts)
  where
    go : (e : Bool) → same_text t.name n ≡ e → telling_of n (told_at n v b ts) ≡ telling n v b → telling_of n (put_told n v b (t ∷ ts) (cond e (Some 0) (option_map (λ i. i + 1) (place_told n ts)))) ≡ telling n v b
    go true same rest = ap (λ e. cond e (telling n v b) (telling_of n ts)) (own n)
    go false other rest = ap (telling_of n) (put_more n v b t ts (place_told n ts)) ∙ ap (λ e. cond e t (telling_of n (told_at n v b ts))) other ∙ rest

told_other : (m n : Key) (v : ℕ) (b : Bool) → m ≢ n → (ts : List Telling) → telling_of m (told_at n v b ts) ≡ telling_of m ts
told_other m n v b ne [] = ap (λ e. cond e (telling n v b) (telling_of m [])) (decided n m (λ e. ne (sym e)))
told_other m n v b ne (t ∷ ts) = go (same_text t.name n) refl (told_other m n v b ne ts)
  where
    go : (e : Bool) → same_text t.name n ≡ e → telling_of m (told_at n v b ts) ≡ telling_of m ts → telling_of m (put_told n v b (t ∷ ts) (cond e (Some 0) (option_map (λ i. i + 1) (place_told n ts)))) ≡ telling_of m (t ∷ ts)
    go true same rest =
        let apart : same_text t.name m ≡ false = decided t.name m (λ e. ne (sym e ∙ (bytes_decides t.name n).0 same)) in
        ap (λ e. cond e (telling n v b) (telling_of m ts)) (decided n m (λ e. ne (sym e))) ∙ sym (ap (λ e. cond e t (telling_of m ts)) apart)
    go false other rest = ap (telling_of m) (put_more n v b t ts (place_told n ts)) ∙ ap (λ l. cond (same_text t.name m) t l) rest

-- what was told so already
told_again : (n : Key) (v : ℕ) (ts : List Telling) → telling_of n ts ≡ telling n v true → told_at n v true ts ≡ ts
told_again n v [] e = absurd (true≢false (sym (ap (λ (t : Telling). t.told) e)))
told_again n v (t ∷ ts) e = go (same_text t.name n) e (told_again n v ts)
  where
    go : (b : Bool) → cond b t (telling_of n ts) ≡ telling n v true → (telling_of n ts ≡ telling n v true → told_at n v true ts ≡ ts)
        → put_told n v true (t ∷ ts) (cond b (Some 0) (option_map (λ i. i + 1) (place_told n ts))) ≡ t ∷ ts
    go true is rest = ap (λ x. x ∷ ts) (sym is)
    go false is rest = put_more n v true t ts (place_told n ts) ∙ ap (λ l. t ∷ l) (rest is)

-- ---- all that is hosted

pub record IsSound (h : HistoryOf) : Type 0 where
  pub whole : since (head_of h).at.version h ≡ []
  pub short : list_all is_short h.deltas ≡ true

pub apart : (n : Key) (ns : List Key) → AscendFrom n ns → AllByRecursion (λ m. m ≢ n) ns
apart n [] a = tt
apart n (m ∷ ns) a = (λ e. below_none n (subst (λ z. slice_cmp nat_cmp n z ≡ Less) e a.0), apart n ns (lower n m ns a.0 a.1))

module _ (c : Shown) (domain : Key) where
  abbrev pub IsSoundFrom : Key → Type 0
  IsSoundFrom n = IfSome (seen_from c n domain) IsSound

  abbrev IsTold : List Telling → Key → Type 0
  IsTold ts n = IsToldOf n (telling_of n ts) (seen_from c n domain)

  -- there is nothing to tell then
  pub no_news : (n : Key) (ts : List Telling) → IsSoundFrom n → IsTold ts n → host_news n (telling_of n ts) (seen_from c n domain) ≡ []
  no_news n ts sound told = go (seen_from c n domain) sound told
    where
      go : (seen : Option HistoryOf) → IfSome seen IsSound → IsToldOf n (telling_of n ts) seen → host_news n (telling_of n ts) seen ≡ []
      go None w e = ap (λ t. cond t (Dropped n ∷ []) []) e
      go (Some h) w e = ap (λ (t : Telling). applieds n (since t.sent h)) e ∙ ap (applieds n) w.whole

  -- and nothing changes
  pub no_change : (n : Key) (ts : List Telling) → IsTold ts n → after_host c domain ts n ≡ ts
  no_change n ts told = go (seen_from c n domain) told
    where
      go : (seen : Option HistoryOf) → IsToldOf n (telling_of n ts) seen → host_told n ts (telling_of n ts) seen ≡ ts
      go None e = ap (λ t. cond t (told_at n (telling_of n ts).sent false ts) ts) e
      go (Some h) e = told_again n (head_of h).at.version ts e

  told_after : (n : Key) (ts : List Telling) → IsTold (after_host c domain ts n) n
  told_after n ts = go (seen_from c n domain)
    where
      dropped : (t : Bool) → (telling_of n ts).told ≡ t → (telling_of n (cond t (told_at n (telling_of n ts).sent false ts) ts)).told ≡ false
      dropped true e = ap (λ (t : Telling). t.told) (told_here n (telling_of n ts).sent false ts)
      dropped false e = e

      go : (seen : Option HistoryOf) → IsToldOf n (telling_of n (host_told n ts (telling_of n ts) seen)) seen
      go None = dropped (telling_of n ts).told refl
      go (Some h) = told_here n (head_of h).at.version true ts

  telling_stays : (m n : Key) (ts : List Telling) → m ≢ n → telling_of m (after_host c domain ts n) ≡ telling_of m ts
  telling_stays m n ts ne = go (seen_from c n domain)
    where
      dropped : (t : Bool) → telling_of m (cond t (told_at n (telling_of n ts).sent false ts) ts) ≡ telling_of m ts
      dropped true = told_other m n (telling_of n ts).sent false ne ts
      dropped false = refl

      go : (seen : Option HistoryOf) → telling_of m (host_told n ts (telling_of n ts) seen) ≡ telling_of m ts
      go None = dropped (telling_of n ts).told
      go (Some h) = told_other m n (head_of h).at.version true ne ts

  pub still_told : (m n : Key) (ts : List Telling) → m ≢ n → IsTold ts m → IsTold (after_host c domain ts n) m
  still_told m n ts ne told = subst (λ t. IsToldOf m t (seen_from c m domain)) (sym (telling_stays m n ts ne)) told

  -- by the others, in turn
  told_on : (n : Key) (ns : List Key) → AllByRecursion (λ m. m ≢ n) ns → (ts : List Telling) → IsTold ts n → IsTold (hosts_told c domain ts ns) n
  told_on n [] ne ts told = told
  told_on n (m ∷ ns) ne ts told = told_on n ns ne.1 (after_host c domain ts m) (still_told n m ts (λ e. ne.0 (sym e)) told)

  pub all_told : (ns : List Key) → AreAscending ns → (ts : List Telling) → AreToldOf c domain (hosts_told c domain ts ns) ns
  all_told [] a ts = tt
  all_told (n ∷ ns) a ts = (told_on n ns (apart n ns a) (after_host c domain ts n) (told_after n ts), all_told ns (any n ns a) (after_host c domain ts n))

  none_sent : (ns : List Key) → AllByRecursion IsSoundFrom ns → (ts : List Telling) → AreToldOf c domain ts ns → hosts_sent c domain ts ns ≡ []
  none_sent [] w ts told = refl
  none_sent (n ∷ ns) w ts told = (λ i. no_news n ts w.0 told.0 i ++ hosts_sent c domain (no_change n ts told.0 i) ns) ∙ none_sent ns w.1 ts told.1

  pub nothing_told : (ns : List Key) → AreAscending ns → AllByRecursion IsSoundFrom ns → (ts : List Telling) → hosts_sent c domain (hosts_told c domain ts ns) ns ≡ []
  nothing_told ns a w ts = none_sent ns w (hosts_told c domain ts ns) (all_told ns a ts)

-- a session that was given all of a shard
pub told_moment : (d : Key) (k : ℕ) (ms : List Mark) (s : Session) → AreTold (shown_at d k ms) (after_delivery (shown_at d k ms) s)
told_moment d k ms s = go s.party refl
  where
    c : Shown
    c = shown_at d k ms

    go : (party : Party) → s.party ≡ party → AreToldTo c (after_for c s party).tellings (after_for c s party).party
    go Nobody e = subst (AreToldTo c s.tellings) (sym e) tt
    go (User user) e = subst (AreToldTo c s.tellings) (sym e) tt
    go (Domain domain) e = subst (AreToldTo c (hosts_told c domain s.tellings c.hosts)) (sym e) (all_told c domain c.hosts (ascend_replayed d k ms) s.tellings)

-- ---- sound histories

below : (a b : ℕ) → a < b → nat_lt a b ≡ true
below a b h = grind (arith, nat_tests)

legal_short : (name : Key) (b ds : List DeltaOf) → IsLegalFrom name b ds → list_all is_short ds ≡ true
legal_short name b [] legal = refl
legal_short name b (d ∷ ds) legal =
    let few = legal.0.short in
    let short : is_short d ≡ true = below (length (delta_bytes d)) limit (omega (arith, few)) in
    and_from (is_short d) (list_all is_short ds) short (legal_short name (b ++ d ∷ []) ds legal.1)

none_is : (ds : List DeltaOf) → ds ≡ [] → is_none_left ds ≡ true
none_is ds e = ap is_none_left e

pub legal_sound : (name : Key) (ds : List DeltaOf) → IsLegal name ds → is_sound (hosted_as name ds) ≡ true
legal_sound name ds legal =
    let h : HistoryOf = history_of (hosted_as name ds) in
    and_from (is_whole (hosted_as name ds)) (list_all is_short ds) (none_is (since (head_of h).at.version h) (nothing_after h legal)) (legal_short name [] ds legal)

-- ---- what is shown of them

none_left : (ds : List DeltaOf) → is_none_left ds ≡ true → ds ≡ []
none_left [] e = refl
none_left (d ∷ ds) e = absurd (true≢false (sym e))

sound_shown : (n : Key) (ds : List DeltaOf) (may : HistoryOf → Bool) → is_sound (hosted_as n ds) ≡ true → IfSome (option_and_then (λ h. cond (may h) (Some h) None) (copy_of n ds)) IsSound
sound_shown n [] may e = tt
sound_shown n (d ∷ ds) may e = go (may all)
  where
    all : HistoryOf
    all = record { name = n; deltas = d ∷ ds; spare = 0 }

    parts : (is_whole (hosted_as n (d ∷ ds)) ≡ true) × (list_all is_short (d ∷ ds) ≡ true)
    parts = and_parts (is_whole (hosted_as n (d ∷ ds))) (list_all is_short (d ∷ ds)) e

    go : (b : Bool) → IfSome (cond b (Some all) None) IsSound
    go true = record { whole = none_left (since (head_of all).at.version all) parts.0; short = parts.1 }
    go false = tt

module _ (d : Key) (k : ℕ) (ms : List Mark) (domain : Key) where
  abbrev sound_host : Key → Type 0
  sound_host n = IsSoundFrom (shown_at d k ms) domain n

  one_sound : (h : Hosted) → is_of d k h.name ≡ true → deltas_in (replayed d k ms) h.name ≡ h.deltas → is_sound h ≡ true → sound_host h.name
  one_sound h of there sound =
      let c = shown_at d k ms in
      let hosted : is_hosted_by d h.name ≡ true = (and_parts (is_hosted_by d h.name) (nat_eq (shard_of h.name) k) of).0 in
      let copy : copy_among d (replayed d k ms) (copied d k ms) h.name ≡ copy_of h.name h.deltas =
      ap (λ b. copy_of h.name (cond b (deltas_in (replayed d k ms) h.name) (world_at (copied d k ms) h.name).replica.deltas)) hosted ∙ ap (copy_of h.name) there in
      subst (λ o. IfSome (option_and_then (λ g. cond (has_domain g domain && not (c.drops h.name)) (Some g) None) o) IsSound) (sym copy)
      (sound_shown h.name h.deltas (λ g. has_domain g domain && not (c.drops h.name)) sound)

  each_sound : (hs : List Hosted) → AllByRecursion (λ h. is_of d k h.name ≡ true) hs → AllByRecursion (λ h. deltas_in (replayed d k ms) h.name ≡ h.deltas) hs → are_sound hs ≡ true → AllByRecursion sound_host (names_of hs)
  each_sound [] of there sound = tt
  each_sound (h ∷ hs) of there sound =
      let parts = and_parts (is_sound h) (are_sound hs) sound in
      (one_sound h of.0 there.0 parts.0, each_sound hs of.1 there.1 parts.1)

  pub sound_hosts : are_sound (replayed d k ms) ≡ true → AllByRecursion sound_host (names_of (replayed d k ms))
  sound_hosts sound = each_sound (replayed d k ms) (of_replayed d k ms) (all_there (replayed d k ms) (ascend_replayed d k ms)) sound

-- ---- what may stand in messages

above : (a b : ℕ) → nat_lt a b ≡ true → a < b
above a b h = grind (arith, nat_tests)

short_behind : (n : ℕ) (ds : List DeltaOf) → list_all is_short ds ≡ true → list_all is_short (drop n ds) ≡ true
short_behind zero ds e = e
short_behind (suc n) [] e = refl
short_behind (suc n) (d ∷ ds) e = short_behind n ds (and_parts (is_short d) (list_all is_short ds) e).1

applieds_short : (n : Key) (ds : List DeltaOf) → list_all is_short ds ≡ true → All IsShort (applieds n ds)
applieds_short n [] e = All-nil IsShort
applieds_short n (d ∷ ds) e =
    let parts = and_parts (is_short d) (list_all is_short ds) e in
    All-cons IsShort (Applied n d) (applieds n ds) (above (length (delta_bytes d)) limit parts.0) (applieds_short n ds parts.1)

module _ (c : Shown) (domain : Key) where
  drop_short : (n : Key) (b : Bool) → All IsShort (cond b (Dropped n ∷ []) [])
  drop_short n true = All-cons IsShort (Dropped n) [] tt (All-nil IsShort)
  drop_short n false = All-nil IsShort

  host_short : (n : Key) (t : Telling) (seen : Option HistoryOf) → IfSome seen IsSound → All IsShort (host_news n t seen)
  host_short n t None sound = drop_short n t.told
  host_short n t (Some h) sound = applieds_short n (since t.sent h) (short_behind (started_below t.sent h.deltas) h.deltas sound.short)

  hosts_short : (ns : List Key) (ts : List Telling) → AllByRecursion (IsSoundFrom c domain) ns → All IsShort (hosts_sent c domain ts ns)
  hosts_short [] ts sound = All-nil IsShort
  hosts_short (n ∷ ns) ts sound =
      All-append IsShort (host_news n (telling_of n ts) (seen_from c n domain)) (hosts_sent c domain (after_host c domain ts n) ns)
      (host_short n (telling_of n ts) (seen_from c n domain) sound.0) (hosts_short ns (after_host c domain ts n) sound.1)

pub delivered_short : (d : Key) (k : ℕ) (ms : List Mark) (s : Session) → are_sound (replayed d k ms) ≡ true → All IsShort (delivered (shown_at d k ms) s)
delivered_short d k ms s sound = go s.party refl
  where
    c : Shown
    c = shown_at d k ms

    go : (party : Party) → s.party ≡ party → All IsShort (delivered_to c s s.party)
    go Nobody e = sent_short c s (ap party_is_peer e)
    go (User user) e = sent_short c s (ap party_is_peer e)
    go (Domain domain) e = subst (λ p. All IsShort (delivered_to c s p)) (sym e) (hosts_short c domain (names_of (replayed d k ms)) s.tellings (sound_hosts d k ms domain sound))
