-- What was sent on a link and has no answer yet was sent on it, after each step.
--     ok_or              a test that holds anyhow
--     sent_some          after submissions were sent
--     greeted_sent       after a new link was begun
--     step_sent          after a step
--     step_idle          so nothing that was asked for is unsent where a step came to rest
use Rattle.std.proofs.Common.{◌≡◌, ◌∙◌, ◌⊎◌, inl, inr, sym, ap, subst, refl, ℕ, Bool, true, false, ◌&&◌, ◌||◌, if◌then◌else◌, IsTrue, List, [], ◌∷◌, ◌++◌, map, Result, Ok, Err, append_assoc, append-nil}
use Rattle.std.specs.Cmp.Lexicographic.{bytes_decides}
use Rattle.std.specs.List.{All}
use Rattle.std.proofs.Math.Logic.{∥∥₁_map}
use Rattle.std.proofs.lemmas.Bool.{false≢true, and_parts, or_cases}
use Rattle.std.proofs.lemmas.List.Elements.{All-nil, All-cons, All-head, All-tail, All-append, All-weaker}
use Rattle.doc_items.specs.Maps.{Key, same_text}
use Rattle.wave_base.specs.Versions.{IdOf, same_id}
use Rattle.wave_base.proofs.Same.{same_id-is}
use Rattle.wave_outside.specs.declared.link.LinkEvent.{LinkEvent}
use Rattle.wave_outside.specs.declared.link.LinkEvent.TheVariants.{Received, Idle, Ended}
use Rattle.message_json.specs.declared.message.Message.{Message}
use Rattle.message_json.specs.declared.message.Message.TheVariants as message
use Rattle.session_core.specs.declared.session.Waiting.{Waiting}
use Rattle.peer_turns.specs.declared.call.TurnCall.{TurnCall}
use Rattle.peer_turns.specs.declared.fault.TurnFault.{TurnFault}
use Rattle.peer_turns.specs.declared.item.Relay.{Relay}
use Rattle.federation_link.specs.Asking.{is_any, HasSentSome, HasGreeted}
use Rattle.federation_link.specs.Sends.{noted, has, relay, have, sent_as, fresh, WasSent}
use Rattle.federation_link.specs.Takes.{Heard, same_as, without, settled_by, settled, heard}
use Rattle.federation_link.specs.Steps.{IsCome, HasSentOn, IsStep, IsIdle}
use Rattle.federation_link.specs.declared.ear.Ear.{Ear}
use Rattle.federation_link.specs.declared.ear.Ear.TheVariants.{Open, Holding, Cut}
use Rattle.federation_link.specs.declared.stepped.Stepped.{Stepped}
use Rattle.federation_link.specs.declared.stepped.Stepped.TheVariants as came_to

pub ok_or : (b : Bool) → (b || true) ≡ true
ok_or true = refl
ok_or false = refl

-- ---- one event on

was_grown : (es gs : List LinkEvent) (w : Waiting) → WasSent es w → WasSent (es ++ gs) w
was_grown es gs w s = record {
  submission = s.submission;
  same = s.same;
  sent = record {
    before = s.sent.before;
    after = s.sent.after ++ gs;
    split = ap (λ z. z ++ gs) s.sent.split ∙ append_assoc s.sent.before (relay (record { name = w.name; submission = s.submission }) ∷ s.sent.after) gs;
  };
}

abbrev pub AllSent : Bool → List LinkEvent → List Waiting → Type 0
AllSent tells es ws = IsTrue tells → All (WasSent es) ws

grown : (tells : Bool) (es fs gs : List LinkEvent) (ws : List Waiting) → (IsTrue tells → fs ≡ es ++ gs) → AllSent tells es ws → AllSent tells fs ws
grown tells es fs gs ws is all = λ t. subst (λ z. All (WasSent z) ws) (sym (is t)) (All-weaker (WasSent es) (WasSent (es ++ gs)) (was_grown es gs) ws (all t))

same_events : (tells : Bool) (es fs : List LinkEvent) (ws : List Waiting) → (IsTrue tells → fs ≡ es) → AllSent tells es ws → AllSent tells fs ws
same_events tells es fs ws is all = λ t. subst (λ z. All (WasSent z) ws) (sym (is t)) (all t)

sents : (es : List LinkEvent) (rs : List Relay) → All (WasSent (es ++ map relay rs)) (map noted rs)
sents es [] = All-nil (WasSent (es ++ []))
sents es (r ∷ rs) = All-cons (WasSent (es ++ map relay (r ∷ rs))) (noted r) (map noted rs)
    (record { submission = r.submission; same = refl; sent = record { before = es; after = map relay rs; split = refl } })
    (subst (λ z. All (WasSent z) (map noted rs)) (append_assoc es (relay r ∷ []) (map relay rs)) (sents (es ++ relay r ∷ []) rs))

pub sent_some : (tells : Bool) (ws vs : List Waiting) (es fs : List LinkEvent) (rs : List Relay) → HasSentSome tells ws vs es fs rs → AllSent tells es ws → AllSent tells fs vs
sent_some tells ws vs es fs rs h all = λ t.
    subst (λ z. All (WasSent fs) z) (sym h.noted_is)
    (All-append (WasSent fs) ws (map noted rs)
    (grown tells es fs (map relay rs) ws h.events all t)
    (subst (λ z. All (WasSent z) (map noted rs)) (sym (h.events t)) (sents es rs)))

-- ---- a new link

pub greeted_sent : (tells told : Bool) (domain own : Key) (vs : List Waiting) (es fs : List LinkEvent) (cs ds : List TurnCall)
    → HasGreeted tells told domain own vs es fs cs ds → AllSent tells fs vs
greeted_sent tells told domain own vs es fs cs ds h = λ t.
    subst (λ z. All (WasSent fs) z) (sym h.noted_is)
    (subst (λ z. All (WasSent z) (map noted h.relays))
    (append_assoc es (sent_as (message.Peer own) ∷ map have h.copies) (map relay h.relays) ∙ sym (h.sent t))
    (sents (es ++ sent_as (message.Peer own) ∷ map have h.copies) h.relays))

-- ---- a message

kept_all : (P : Waiting → Type 0) (w : Waiting) (ws vs : List Waiting) (b : Bool) → All P (w ∷ ws) → All P vs → All P (if b then vs else w ∷ vs)
kept_all P w ws vs true all rest = rest
kept_all P w ws vs false all rest = All-cons P w vs (All-head P w ws all) rest

without_all : (P : Waiting → Type 0) (name : Key) (id : IdOf) (ws : List Waiting) → All P ws → All P (without name id ws)
without_all P name id [] all = all
without_all P name id (w ∷ ws) all = kept_all P w ws (without name id ws) (same_as name id w) all (without_all P name id ws (All-tail P w ws all))

settled_by_all : (P : Waiting → Type 0) (m : Message) (ws : List Waiting) → All P ws → All P (settled_by m ws)
settled_by_all P (message.Relayed name id verdict) ws all = without_all P name id ws all
settled_by_all P m ws all = all

settled_all : (P : Waiting → Type 0) (h : Heard) (ws : List Waiting) → All P ws → All P (settled h ws)
settled_all P (Ok m) ws all = settled_by_all P m ws all
settled_all P (Err k) ws all = all

-- ---- steps

module _ (tells told : Bool) (domain : Key) where
  come_sent : (i : Ear) (bytes : List ℕ) (es fs : List LinkEvent) (ws : List Waiting) → IsCome tells told domain i bytes es fs → AllSent tells es ws → AllSent tells fs ws
  come_sent Open bytes es fs ws came all = grown tells es fs (Received bytes ∷ []) ws came all
  come_sent (Holding v) bytes es fs ws came all = same_events tells es fs ws came.1 all
  come_sent Cut bytes es fs ws came all = absurd came

  idle_sent : (es : List LinkEvent) (ws : List Waiting) → AllSent tells es ws → AllSent tells (es ++ Idle ∷ []) ws
  idle_sent es ws all = grown tells es (es ++ Idle ∷ []) (Idle ∷ []) ws (λ t. refl) all

  on_sent : (es fs : List LinkEvent) (ws vs : List Waiting) → HasSentOn tells told domain es fs ws vs → AllSent tells es ws → AllSent tells fs vs
  on_sent es fs ws vs (inl same) all = λ t. subst (λ z. All (WasSent fs) z) (sym same.1) (same_events tells es fs ws same.0 all t)
  on_sent es fs ws vs (inr some) all = sent_some tells ws vs (es ++ Idle ∷ []) fs some.0 some.1 (idle_sent es ws all)

  pub step_sent : (es fs : List LinkEvent) (i j : Ear) (ws vs : List Waiting) (cs ds : List TurnCall) (l0 l1 f0 f1 : ℕ) (c : Bool) (r : Result Stepped TurnFault)
      → IsStep tells told domain es fs i j ws vs cs ds l0 l1 f0 f1 c r → AllSent tells es ws → AllSent tells fs vs
  step_sent es fs i j ws vs cs ds l0 l1 f0 f1 c (Ok came_to.Dialled) s all = absurd s
  step_sent es fs i j ws vs cs ds l0 l1 f0 f1 c (Ok came_to.Worked) (inl s) all = λ t.
      subst (λ z. All (WasSent fs) z) (sym s.settled_is) (settled_all (WasSent fs) (heard s.bytes) ws (come_sent i s.bytes es fs ws s.came all t))
  step_sent es fs i j ws vs cs ds l0 l1 f0 f1 c (Ok came_to.Worked) (inr s) all = sent_some tells ws vs (es ++ Idle ∷ []) fs (fresh ws s.asked.relays) s.asked.sent (idle_sent es ws all)
  step_sent es fs i j ws vs cs ds l0 l1 f0 f1 c (Ok came_to.Idle) s all = sent_some tells ws vs (es ++ Idle ∷ []) fs (fresh ws s.asked.relays) s.asked.sent (idle_sent es ws all)
  step_sent es fs i j ws vs cs ds l0 l1 f0 f1 c (Ok came_to.Cut) s all = ended s.sent
    where
      ended : HasSentOn tells told domain es fs ws vs ⊎ ((IsTrue tells → fs ≡ es ++ Ended ∷ []) × (vs ≡ ws)) → AllSent tells fs vs
      ended (inl on) = on_sent es fs ws vs on all
      ended (inr end) = λ t. subst (λ z. All (WasSent fs) z) (sym end.1) (grown tells es fs (Ended ∷ []) ws end.0 all t)
  step_sent es fs i j ws vs cs ds l0 l1 f0 f1 c (Err e) (inl s) all = λ t. subst (λ z. All (WasSent fs) z) (sym s.same) (come_sent i s.bytes es fs ws s.came all t)
  step_sent es fs i j ws vs cs ds l0 l1 f0 f1 c (Err e) (inr s) all = on_sent es fs ws vs s.sent all

-- ---- each submission that was asked for was sent

module _ (P : Waiting → Type 0) where
  all_left : (xs ys : List Waiting) → All P (xs ++ ys) → All P xs
  all_left [] ys all = All-nil P
  all_left (x ∷ xs) ys all = All-cons P x xs (All-head P x (xs ++ ys) all) (all_left xs ys (All-tail P x (xs ++ ys) all))

  all_right : (xs ys : List Waiting) → All P (xs ++ ys) → All P ys
  all_right [] ys all = all
  all_right (x ∷ xs) ys all = all_right xs ys (All-tail P x (xs ++ ys) all)

  one_held : (w : Waiting) (r : Relay) → (same_text w.name r.name && same_id w.id r.submission.id) ≡ true → P w → P (noted r)
  one_held w r is p =
      let parts = and_parts (same_text w.name r.name) (same_id w.id r.submission.id) is in
      let name = (bytes_decides w.name r.name).0 parts.0 in
      let id = same_id-is w.id r.submission.id parts.1 in
      subst P (λ i. record { name = name i; id = id i }) p

  held : (ws : List Waiting) (r : Relay) → has ws r ≡ true → All P ws → P (noted r)
  held [] r is all = absurd (false≢true is)
  held (w ∷ ws) r is all = elim (or_cases (same_text w.name r.name && same_id w.id r.submission.id) (has ws r) is) [
    | inl here ↦ one_held w r here (All-head P w ws all)
    | inr there ↦ held ws r there (All-tail P w ws all)
  ]

  next_sent : (ws : List Waiting) (r : Relay) (rs : List Relay) (b : Bool) → has ws r ≡ b
      → (All P (ws ++ map noted (fresh ws rs)) → All P (map noted rs))
      → (All P ((ws ++ noted r ∷ []) ++ map noted (fresh (ws ++ noted r ∷ []) rs)) → All P (map noted rs))
      → All P (ws ++ map noted (if b then fresh ws rs else r ∷ fresh (ws ++ noted r ∷ []) rs)) → All P (noted r ∷ map noted rs)
  next_sent ws r rs true is same more all = All-cons P (noted r) (map noted rs) (held ws r is (all_left ws (map noted (fresh ws rs)) all)) (same all)
  next_sent ws r rs false is same more all = All-cons P (noted r) (map noted rs)
      (All-head P (noted r) (map noted (fresh (ws ++ noted r ∷ []) rs)) (all_right ws (noted r ∷ map noted (fresh (ws ++ noted r ∷ []) rs)) all))
      (more (subst (All P) (sym (append_assoc ws (noted r ∷ []) (map noted (fresh (ws ++ noted r ∷ []) rs)))) all))

  asked_sent : (ws : List Waiting) (rs : List Relay) → All P (ws ++ map noted (fresh ws rs)) → All P (map noted rs)
  asked_sent ws [] all = All-nil P
  asked_sent ws (r ∷ rs) all = next_sent ws r rs (has ws r) refl (asked_sent ws rs) (asked_sent (ws ++ noted r ∷ []) rs) all

none_fresh : (rs : List Relay) → false ≡ is_any rs → rs ≡ []
none_fresh [] e = refl
none_fresh (r ∷ rs) e = absurd (false≢true e)

module _ (tells told : Bool) (domain : Key) where
  pub step_idle : (es fs : List LinkEvent) (i j : Ear) (ws vs : List Waiting) (cs ds : List TurnCall) (l0 l1 f0 f1 : ℕ) (c : Bool) (r : Result Stepped TurnFault)
      → IsStep tells told domain es fs i j ws vs cs ds l0 l1 f0 f1 c r → ∥ AllSent tells es ws ∥₁ → IsIdle tells told domain es fs cs ds l0 l1 r
  step_idle es fs i j ws vs cs ds l0 l1 f0 f1 c (Ok came_to.Dialled) s all = tt
  step_idle es fs i j ws vs cs ds l0 l1 f0 f1 c (Ok came_to.Worked) s all = tt
  step_idle es fs i j ws vs cs ds l0 l1 f0 f1 c (Ok came_to.Idle) s all = record {
    relays = s.asked.relays;
    calls = s.asked.calls;
    sent = ∥∥₁_map all (λ was. λ t. asked_sent (WasSent fs) ws s.asked.relays (subst (All (WasSent fs)) s.asked.sent.noted_is (sent_some tells ws vs (es ++ Idle ∷ []) fs (fresh ws s.asked.relays) s.asked.sent (idle_sent tells told domain es ws was) t)));
    looked = s.looked;
    last = λ t. s.asked.sent.events t ∙ ap (λ z. (es ++ Idle ∷ []) ++ map relay z) (none_fresh (fresh ws s.asked.relays) s.asked.any_is) ∙ append-nil (es ++ Idle ∷ []);
  }
  step_idle es fs i j ws vs cs ds l0 l1 f0 f1 c (Ok came_to.Cut) s all = tt
  step_idle es fs i j ws vs cs ds l0 l1 f0 f1 c (Err e) s all = tt
