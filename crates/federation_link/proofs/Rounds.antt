-- Items that are asked for one by one, and what is sent of them.
--     ok_map                       a fact that holds at an answer, and what follows of it
--     AreAsked                     so many were asked for, whatever comes after them
--     asked_begin, asked_more, asked_over
--     sent_none, sent_join         submissions that were sent
--     IsRound                      of the submissions that were asked for, those were sent that weren't sent yet
--     round_begin, round_next, round_over
--     IsTelling, IsRelaying        copies and submissions were asked for, and of each was sent
--     telling_begin, telling_next, telling_over, relaying_begin, relaying_next, relaying_over
--     told_both, greeted           what a new link begins with
use Rattle.std.proofs.Common.{◌≡◌, ◌∙◌, sym, ap, subst, refl, ℕ, ◌+◌, Bool, true, false, not, ◌||◌, if◌then◌else◌, IsTrue, List, [], ◌∷◌, ◌++◌, map, Option, Some, None, Result, Ok, Err, OnOk, append_assoc, append-nil}
use Rattle.std.proofs.lemmas.List.{map-append}
use Rattle.doc_items.specs.Maps.{Key}
use Rattle.turn_lock.specs.declared.cell.Spent.{Spent}
use Rattle.wave_outside.specs.declared.link.LinkEvent.{LinkEvent}
use Rattle.message_json.specs.declared.message.Message.TheVariants.{Peer}
use Rattle.session_core.specs.declared.session.Waiting.{Waiting}
use Rattle.peer_turns.specs.declared.call.TurnCall.{TurnCall}
use Rattle.peer_turns.specs.declared.call.TurnCall.TheVariants.{NextRelay, NextCopy}
use Rattle.peer_turns.specs.declared.item.CopyAt.{CopyAt}
use Rattle.peer_turns.specs.declared.item.Relay.{Relay}
use Rattle.federation_link.specs.Asking.{is_any, HasSentSome, IsPassed, IsOver, HasAskedFresh, HasToldNext, HasRelayedNext, HasSentHaves, HasAskedAll, HasTold, HasGreeted}
use Rattle.federation_link.specs.Sends.{item_calls, copy_calls, relay_calls, noted, has, fresh, have, relay, sent_as}

pub ok_map : {A E P Q : Type 0} (r : Result A E) → (P → Q) → OnOk r P → OnOk r Q
ok_map (Ok a) f p = f p
ok_map (Err e) f p = p

-- ---- questions

module _ {X : Type 0} (told : Bool) (call : ℕ → Result (Option X) Spent → TurnCall) where
  abbrev pub AreAsked : ℕ → List TurnCall → List TurnCall → List X → Type 0
  AreAsked place cs ds found = IsTrue told → (rest : List X) → ds ++ item_calls call place rest ≡ cs ++ item_calls call 0 (found ++ rest)

  pub asked_begin : (cs : List TurnCall) → AreAsked 0 cs cs []
  asked_begin cs = λ t rest. refl

  pub asked_more : (place : ℕ) (cs ds fs : List TurnCall) (found : List X) (x : X) → AreAsked place cs ds found → (IsTrue told → fs ≡ ds ++ call place (Ok (Some x)) ∷ [])
      → AreAsked (place + 1) cs fs (found ++ x ∷ [])
  asked_more place cs ds fs found x asked grown = λ t rest.
      ap (λ z. z ++ item_calls call (place + 1) rest) (grown t)
      ∙ append_assoc ds (call place (Ok (Some x)) ∷ []) (item_calls call (place + 1) rest)
      ∙ asked t (x ∷ rest)
      ∙ ap (λ z. cs ++ item_calls call 0 z) (sym (append_assoc found (x ∷ []) rest))

  pub asked_over : (place : ℕ) (cs ds fs : List TurnCall) (found : List X) → AreAsked place cs ds found → (IsTrue told → fs ≡ ds ++ call place (Ok None) ∷ [])
      → IsTrue told → fs ≡ cs ++ item_calls call 0 found
  asked_over place cs ds fs found asked grown = λ t. grown t ∙ asked t [] ∙ ap (λ z. cs ++ item_calls call 0 z) (append-nil found)

-- ---- submissions that were sent

pub sent_none : (tells : Bool) (ws : List Waiting) (es : List LinkEvent) → HasSentSome tells ws ws es es []
sent_none tells ws es = record { noted_is = sym (append-nil ws); events = λ t. sym (append-nil es) }

pub sent_join : (tells : Bool) (ws vs us : List Waiting) (es fs gs : List LinkEvent) (ps qs : List Relay) → HasSentSome tells ws vs es fs ps → HasSentSome tells vs us fs gs qs
    → HasSentSome tells ws us es gs (ps ++ qs)
sent_join tells ws vs us es fs gs ps qs first second = record {
  noted_is = second.noted_is ∙ ap (λ z. z ++ map noted qs) first.noted_is ∙ append_assoc ws (map noted ps) (map noted qs) ∙ ap (λ z. ws ++ z) (sym (map-append noted ps qs));
  events = λ t. second.events t ∙ ap (λ z. z ++ map relay qs) (first.events t) ∙ append_assoc es (map relay ps) (map relay qs) ∙ ap (λ z. es ++ z) (sym (map-append relay ps qs));
}

-- ---- those that weren't sent yet

any_last : (ps : List Relay) (r : Relay) (sent : Bool) → (is_any ps || sent) ≡ is_any (ps ++ (if sent then r ∷ [] else []))
any_last [] r true = refl
any_last [] r false = refl
any_last (p ∷ ps) r sent = refl

-- what is fresh of a submission and those after it
fresh_next : (ws vs : List Waiting) (r : Relay) (rest : List Relay) (sent : Bool) → has ws r ≡ not sent → vs ≡ ws ++ map noted (if sent then r ∷ [] else [])
    → fresh ws (r ∷ rest) ≡ (if sent then r ∷ [] else []) ++ fresh vs rest
fresh_next ws vs r rest true new is = ap (λ b. if b then fresh ws rest else r ∷ fresh (ws ++ noted r ∷ []) rest) new ∙ ap (λ z. r ∷ fresh z rest) (sym is)
fresh_next ws vs r rest false new is = ap (λ b. if b then fresh ws rest else r ∷ fresh (ws ++ noted r ∷ []) rest) new ∙ ap (λ z. fresh z rest) (sym (is ∙ append-nil ws))

module _ (tells told : Bool) (domain : Key) where
  pub record IsRound (place : ℕ) (ws vs : List Waiting) (es fs : List LinkEvent) (cs ds : List TurnCall) (any : Bool) : Type 0 where
    pub found : List Relay
    pub passed : List Relay
    pub calls : AreAsked told (NextRelay domain) place cs ds found
    pub fresh_is : (rest : List Relay) → fresh ws (found ++ rest) ≡ passed ++ fresh vs rest
    pub sent : HasSentSome tells ws vs es fs passed
    pub any_is : any ≡ is_any passed

  pub round_begin : (ws : List Waiting) (es : List LinkEvent) (cs : List TurnCall) → IsRound 0 ws ws es es cs cs false
  round_begin ws es cs = record { found = []; passed = []; calls = asked_begin told (NextRelay domain) cs; fresh_is = λ rest. refl; sent = sent_none tells ws es; any_is = refl }

  module _ (place : ℕ) (ws vs us : List Waiting) (es fs gs : List LinkEvent) (cs ds hs : List TurnCall) (any : Bool) (r : IsRound place ws vs es fs cs ds any) where
    pub round_next : (sent : Bool) → IsPassed tells told domain place vs us fs gs ds hs sent → IsRound (place + 1) ws us es gs cs hs (any || sent)
    round_next sent n = record {
      found = r.found ++ n.relay ∷ [];
      passed = r.passed ++ (if sent then n.relay ∷ [] else []);
      calls = asked_more told (NextRelay domain) place cs ds hs r.found n.relay r.calls n.calls;
      fresh_is = λ rest.
          ap (fresh ws) (append_assoc r.found (n.relay ∷ []) rest) ∙ r.fresh_is (n.relay ∷ rest)
          ∙ ap (λ z. r.passed ++ z) (fresh_next vs us n.relay rest sent n.new n.passed.noted_is)
          ∙ sym (append_assoc r.passed (if sent then n.relay ∷ [] else []) (fresh us rest));
      sent = sent_join tells ws vs us es fs gs r.passed (if sent then n.relay ∷ [] else []) r.sent n.passed;
      any_is = ap (λ b. b || sent) r.any_is ∙ any_last r.passed n.relay sent;
    }

    pub round_over : IsOver tells told domain place vs us fs gs ds hs → HasAskedFresh tells told domain ws us es gs cs hs any
    round_over n = record {
      relays = r.found;
      calls = asked_over told (NextRelay domain) place cs ds hs r.found r.calls n.calls;
      sent = subst (λ z. HasSentSome tells ws us es gs z) passed_fresh (sent_join tells ws vs us es fs gs r.passed [] r.sent n.passed);
      any_is = r.any_is ∙ ap is_any (sym (append-nil r.passed) ∙ passed_fresh);
    }
      where
        passed_fresh : r.passed ++ [] ≡ fresh ws r.found
        passed_fresh = sym (r.fresh_is []) ∙ ap (fresh ws) (append-nil r.found)

-- ---- all of them

module _ (tells told : Bool) (domain : Key) where
  pub record IsTelling (place : ℕ) (es fs : List LinkEvent) (cs ds : List TurnCall) : Type 0 where
    pub found : List CopyAt
    pub calls : AreAsked told (NextCopy domain) place cs ds found
    pub sent : IsTrue tells → fs ≡ es ++ map have found

  pub telling_begin : (es : List LinkEvent) (cs : List TurnCall) → IsTelling 0 es es cs cs
  telling_begin es cs = record { found = []; calls = asked_begin told (NextCopy domain) cs; sent = λ t. sym (append-nil es) }

  module _ (place : ℕ) (es fs gs : List LinkEvent) (cs ds hs : List TurnCall) (r : IsTelling place es fs cs ds) where
    pub telling_next : HasToldNext tells told domain place fs gs ds hs true → IsTelling (place + 1) es gs cs hs
    telling_next n = record {
      found = r.found ++ n.0 ∷ [];
      calls = asked_more told (NextCopy domain) place cs ds hs r.found n.0 r.calls n.1;
      sent = λ t. n.2 t ∙ ap (λ z. z ++ have n.0 ∷ []) (r.sent t) ∙ append_assoc es (map have r.found) (have n.0 ∷ []) ∙ ap (λ z. es ++ z) (sym (map-append have r.found (n.0 ∷ [])));
    }

    pub telling_over : HasToldNext tells told domain place fs gs ds hs false → HasSentHaves tells told domain es gs cs hs
    telling_over n = record { copies = r.found; calls = asked_over told (NextCopy domain) place cs ds hs r.found r.calls n.0; sent = λ t. n.1 t ∙ r.sent t }

  pub record IsRelaying (place : ℕ) (ws vs : List Waiting) (es fs : List LinkEvent) (cs ds : List TurnCall) : Type 0 where
    pub found : List Relay
    pub calls : AreAsked told (NextRelay domain) place cs ds found
    pub sent : HasSentSome tells ws vs es fs found

  pub relaying_begin : (ws : List Waiting) (es : List LinkEvent) (cs : List TurnCall) → IsRelaying 0 ws ws es es cs cs
  relaying_begin ws es cs = record { found = []; calls = asked_begin told (NextRelay domain) cs; sent = sent_none tells ws es }

  module _ (place : ℕ) (ws vs us : List Waiting) (es fs gs : List LinkEvent) (cs ds hs : List TurnCall) (r : IsRelaying place ws vs es fs cs ds) where
    pub relaying_next : HasRelayedNext tells told domain place vs us fs gs ds hs true → IsRelaying (place + 1) ws us es gs cs hs
    relaying_next n = record {
      found = r.found ++ n.0 ∷ [];
      calls = asked_more told (NextRelay domain) place cs ds hs r.found n.0 r.calls n.1;
      sent = sent_join tells ws vs us es fs gs r.found (n.0 ∷ []) r.sent n.2;
    }

    pub relaying_over : HasRelayedNext tells told domain place vs us fs gs ds hs false → HasAskedAll tells told domain ws us es gs cs hs
    relaying_over n = record {
      relays = r.found;
      calls = asked_over told (NextRelay domain) place cs ds hs r.found r.calls n.0;
      sent = subst (λ z. HasSentSome tells ws us es gs z) (append-nil r.found) (sent_join tells ws vs us es fs gs r.found [] r.sent n.1);
    }

  pub told_both : (vs us : List Waiting) (es fs gs : List LinkEvent) (cs ds hs : List TurnCall) → vs ≡ [] → HasSentHaves tells told domain es fs cs ds
      → HasAskedAll tells told domain vs us fs gs ds hs → HasTold tells told domain us es gs cs hs
  told_both vs us es fs gs cs ds hs none h a = record {
    copies = h.copies;
    relays = a.relays;
    calls = λ t. a.calls t ∙ ap (λ z. z ++ relay_calls domain 0 a.relays) (h.calls t) ∙ append_assoc cs (copy_calls domain 0 h.copies) (relay_calls domain 0 a.relays);
    sent = λ t. a.sent.events t ∙ ap (λ z. z ++ map relay a.relays) (h.sent t) ∙ append_assoc es (map have h.copies) (map relay a.relays);
    noted_is = a.sent.noted_is ∙ ap (λ z. z ++ map noted a.relays) none;
  }

  pub greeted : (own : Key) (us : List Waiting) (es fs gs : List LinkEvent) (cs ds : List TurnCall) → (IsTrue tells → fs ≡ es ++ sent_as (Peer own) ∷ []) → HasTold tells told domain us fs gs cs ds
      → HasGreeted tells told domain own us es gs cs ds
  greeted own us es fs gs cs ds first h = record {
    copies = h.copies;
    relays = h.relays;
    calls = h.calls;
    sent = λ t. h.sent t ∙ ap (λ z. z ++ (map have h.copies ++ map relay h.relays)) (first t) ∙ append_assoc es (sent_as (Peer own) ∷ []) (map have h.copies ++ map relay h.relays);
    noted_is = h.noted_is;
  }
