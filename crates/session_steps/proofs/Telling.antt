-- What a peer was told of hosted wavelets.
--     telling_told             after it was told of one, what it was told of each
--     AreAlike ns ts us        of these wavelets it was told the same in both
--     alike_sent               so it is sent the same of them
--     IsNoneOf name ns         the name is none of these
--     told_apart, hosts_apart  what it is told of others changes nothing of these
--     told_beside, told_apart_from     so it was told all of these as before
use Rattle.std.proofs.Common.{◌≡◌, ℕ, ◌+◌, Bool, true, false, if◌then◌else◌, List, [], ◌∷◌, ◌++◌, Option, None, Some, option_map, slice_set, refl, sym, ap, subst, ◌∙◌, true≢false, add-one}
use Rattle.std.specs.Cmp.Lexicographic.{bytes_decides}
use Rattle.std.specs.List.{AllByRecursion}
use Rattle.doc_items.specs.Maps.{Key, same_text}
use Rattle.delta_history.specs.Histories.{HistoryOf, head_of}
use Rattle.session_core.specs.declared.session.Party.{Party}
use Rattle.session_core.specs.declared.session.Party.TheVariants.{Nobody, User, Domain}
use Rattle.session_core.specs.declared.session.Telling.{Telling}
use Rattle.session_core.specs.Access.{Shown, seen_from}
use Rattle.session_core.specs.Answers.{place_told, put_told, told_at}
use Rattle.session_core.specs.Deliveries.{telling_of, host_news, host_told, after_host, hosts_sent, hosts_told}
use Rattle.wavelet_shelf.proofs.Names.{decided}
use Rattle.shard_marks.specs.Told.{IsToldOf, AreToldOf, AreToldTo}

-- ---- one wavelet

module _ (n name : Key) (v : ℕ) (told : Bool) where
  abbrev new : Telling
  new = record { name = name; sent = v; told = told }

  pub telling_told : (ts : List Telling) → telling_of n (told_at name v told ts) ≡ (if same_text name n then new else telling_of n ts)
  telling_told [] = refl
  telling_told (t ∷ ts) = go (same_text t.name name) refl (place_told name ts) (telling_told ts)
    where
      step : (o : Option ℕ) → put_told name v told (t ∷ ts) (option_map (λ i. i + 1) o) ≡ t ∷ put_told name v told ts o
      step None = refl
      step (Some i) = ap (λ j. slice_set (t ∷ ts) j new) (add-one i)

      -- the first one of the name is replaced
      here : same_text t.name name ≡ true → (b : Bool) → same_text name n ≡ b
          → (if b then new else telling_of n ts) ≡ (if b then new else (if same_text t.name n then t else telling_of n ts))
      here e true f = refl
      here e false f = sym (ap (λ b. if b then t else telling_of n ts) (ap (λ m. same_text m n) ((bytes_decides t.name name).0 e) ∙ f))

      other : same_text t.name name ≡ false → same_text t.name n ≡ true → same_text name n ≡ false
      other e f = decided name n (λ g. true≢false (sym ((bytes_decides t.name name).1 ((bytes_decides t.name n).0 f ∙ sym g)) ∙ e))

      later : (us : List Telling) → same_text t.name name ≡ false → telling_of n us ≡ (if same_text name n then new else telling_of n ts) → (b : Bool) → same_text t.name n ≡ b
          → (if b then t else telling_of n us) ≡ (if same_text name n then new else (if b then t else telling_of n ts))
      later us e rest true f = sym (ap (λ b. if b then new else t) (other e f))
      later us e rest false f = rest

      go : (b : Bool) → same_text t.name name ≡ b → (o : Option ℕ) → telling_of n (put_told name v told ts o) ≡ (if same_text name n then new else telling_of n ts)
          → telling_of n (put_told name v told (t ∷ ts) (if b then Some 0 else option_map (λ i. i + 1) o)) ≡ (if same_text name n then new else telling_of n (t ∷ ts))
      go true e o rest = here e (same_text name n) refl
      go false e o rest = ap (telling_of n) (step o) ∙ later (put_told name v told ts o) e rest (same_text t.name n) refl

-- ---- several

abbrev pub AreAlike : List Key → List Telling → List Telling → Type 0
AreAlike ns ts us = AllByRecursion (λ n. telling_of n ts ≡ telling_of n us) ns

abbrev pub IsNoneOf : Key → List Key → Type 0
IsNoneOf name ns = AllByRecursion (λ n. same_text name n ≡ false) ns

alike_same : (ns : List Key) (ts : List Telling) → AreAlike ns ts ts
alike_same [] ts = tt
alike_same (n ∷ ns) ts = (refl, alike_same ns ts)

alike_more : (ns : List Key) (ts us ws : List Telling) → AreAlike ns ts us → AreAlike ns us ws → AreAlike ns ts ws
alike_more [] ts us ws a b = tt
alike_more (n ∷ ns) ts us ws a b = (a.0 ∙ b.0, alike_more ns ts us ws a.1 b.1)

alike_told : (name : Key) (v : ℕ) (told : Bool) (ns : List Key) (ts us : List Telling) → AreAlike ns ts us → AreAlike ns (told_at name v told ts) (told_at name v told us)
alike_told name v told [] ts us a = tt
alike_told name v told (n ∷ ns) ts us a = (
  telling_told n name v told ts ∙ ap (λ t. if same_text name n then record { name = name; sent = v; told = told } else t) a.0 ∙ sym (telling_told n name v told us),
  alike_told name v told ns ts us a.1,
)

pub told_apart : (name : Key) (v : ℕ) (told : Bool) (ns : List Key) (ts : List Telling) → IsNoneOf name ns → AreAlike ns (told_at name v told ts) ts
told_apart name v told [] ts x = tt
told_apart name v told (n ∷ ns) ts x = (
  telling_told n name v told ts ∙ ap (λ b. if b then record { name = name; sent = v; told = told } else telling_of n ts) x.0,
  told_apart name v told ns ts x.1,
)

-- ---- what is sent

alike_host : (name : Key) (t : Telling) (seen : Option HistoryOf) (ns : List Key) (ts us : List Telling) → AreAlike ns ts us → AreAlike ns (host_told name ts t seen) (host_told name us t seen)
alike_host name t None ns ts us a = go t.told
  where
    go : (b : Bool) → AreAlike ns (if b then told_at name t.sent false ts else ts) (if b then told_at name t.sent false us else us)
    go true = alike_told name t.sent false ns ts us a
    go false = a
alike_host name t (Some h) ns ts us a = alike_told name (head_of h).at.version true ns ts us a

host_apart : (name : Key) (t : Telling) (seen : Option HistoryOf) (ns : List Key) (ts : List Telling) → IsNoneOf name ns → AreAlike ns (host_told name ts t seen) ts
host_apart name t None ns ts x = go t.told
  where
    go : (b : Bool) → AreAlike ns (if b then told_at name t.sent false ts else ts) ts
    go true = told_apart name t.sent false ns ts x
    go false = alike_same ns ts
host_apart name t (Some h) ns ts x = told_apart name (head_of h).at.version true ns ts x

module _ (c : Shown) (domain : Key) where
  pub alike_sent : (ns : List Key) (ts us : List Telling) → AreAlike ns ts us → hosts_sent c domain ts ns ≡ hosts_sent c domain us ns
  alike_sent [] ts us a = refl
  alike_sent (n ∷ ns) ts us a = (λ i. host_news n (a.0 i) (seen_from c n domain) ++ alike_sent ns (after_host c domain ts n) (after_host c domain us n) after i)
    where
      after : AreAlike ns (after_host c domain ts n) (after_host c domain us n)
      after = subst (λ t. AreAlike ns (after_host c domain ts n) (host_told n us t (seen_from c n domain))) a.0 (alike_host n (telling_of n ts) (seen_from c n domain) ns ts us a.1)

  pub hosts_apart : (hosts ns : List Key) (ts : List Telling) → AllByRecursion (λ h. IsNoneOf h ns) hosts → AreAlike ns (hosts_told c domain ts hosts) ts
  hosts_apart [] ns ts x = alike_same ns ts
  hosts_apart (h ∷ hs) ns ts x =
      alike_more ns (hosts_told c domain ts (h ∷ hs)) (after_host c domain ts h) ts (hosts_apart hs ns (after_host c domain ts h) x.1) (host_apart h (telling_of h ts) (seen_from c h domain) ns ts x.0)

-- ---- what it was told

told_alike : (c : Shown) (domain : Key) (ns : List Key) (ts us : List Telling) → AreAlike ns ts us → AreToldOf c domain us ns → AreToldOf c domain ts ns
told_alike c domain [] ts us a told = tt
told_alike c domain (n ∷ ns) ts us a told = (subst (λ t. IsToldOf n t (seen_from c n domain)) (sym a.0) told.0, told_alike c domain ns ts us a.1 told.1)

-- of another wavelet
pub told_beside : (c : Shown) (name : Key) (v : ℕ) (told : Bool) (ts : List Telling) (p : Party) → IsNoneOf name c.hosts → AreToldTo c ts p → AreToldTo c (told_at name v told ts) p
told_beside c name v told ts Nobody none all = tt
told_beside c name v told ts (User user) none all = tt
told_beside c name v told ts (Domain domain) none all = told_alike c domain c.hosts (told_at name v told ts) ts (told_apart name v told c.hosts ts none) all

-- of other copies
pub told_apart_from : (c other : Shown) (ts : List Telling) (domain : Key) → AllByRecursion (λ h. IsNoneOf h other.hosts) c.hosts → AreToldTo other ts (Domain domain)
    → AreToldTo other (hosts_told c domain ts c.hosts) (Domain domain)
told_apart_from c other ts domain none all = told_alike other domain other.hosts (hosts_told c domain ts c.hosts) ts (hosts_apart c domain c.hosts other.hosts ts none) all
