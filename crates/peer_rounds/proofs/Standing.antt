-- How peers stand with the net after turns and steps.
--     prefix_self, prefix_then     beginnings of lists
--     ready_grows, all_ready_grow  more was dialled
--     step_dialled, step_grows, step_ready     after a step
--     turned_grow, all_ready, ready_ok       after a turn of the loop
--     end_dialled, all_dialled, dialled_ok     after each link was stepped until it could be left
use Rattle.std.proofs.Common.{◌≡◌, ◌∙◌, inl, inr, sym, ap, subst, refl, arith, ◌≤◌, ℕ, Bool, true, false, IsTrue, List, [], ◌∷◌, ◌++◌, Option, Some, None, IfSome, Result, Ok, Err, IfOk, OnOk, map, append_assoc, append-nil}
use Rattle.std.specs.Str.{encode_utf8_all}
use mathlib.Core.List.{IsPrefix}
use Rattle.doc_items.specs.Maps.{Key}
use Rattle.wave_outside.specs.Counts.{Rose}
use Rattle.wave_outside.specs.declared.link.Link as link_of
use Rattle.wave_outside.specs.declared.net.Net as net_of
use Rattle.session_core.specs.declared.session.Waiting.{Waiting}
use Rattle.peer_turns.specs.declared.call.TurnCall.{TurnCall}
use Rattle.peer_turns.specs.declared.fault.TurnFault.{TurnFault}
use Rattle.peer_turns.specs.declared.turns.PeerTurns as turns_of
use Rattle.federation_link.specs.Asking.{HasGreeted}
use Rattle.message_json.specs.declared.message.Message.TheVariants as message
use Rattle.federation_link.specs.Sends.{have, relay, sent_as}
use Rattle.federation_link.specs.Dials.{IsHeld, IsGone}
use Rattle.federation_link.specs.Called.{Dials}
use Rattle.federation_link.specs.Steps.{is_cut}
use Rattle.federation_link.specs.declared.peer_link.PeerLink.{PeerLink}
use Rattle.federation_link.specs.declared.stepped.Stepped.{Stepped}
use Rattle.federation_link.specs.declared.stepped.Stepped.TheVariants as came_to
use Rattle.peer_rounds.specs.Peers.{names}
use Rattle.peer_rounds.specs.Stands.{WasDialled, HasSaid, IsReady, AreReady, AreDialled}
use Rattle.peer_rounds.specs.Turns.{IsStep, HasTurned, HaveTurned, Runs, HasRun, HaveRun}
use Rattle.peer_rounds.specs.declared.peer.Peer.{Peer}

-- ---- beginnings of lists

module _ {X : Type 0} where
  pub prefix_self : (xs : List X) → IsPrefix xs xs
  prefix_self xs = ([], append-nil xs)

  pub prefix_then : (xs ys zs : List X) → IsPrefix xs ys → IsPrefix ys zs → IsPrefix xs zs
  prefix_then xs ys zs p q = (p.0 ++ q.0, sym (append_assoc xs p.0 q.0) ∙ ap (λ z. z ++ q.0) p.1 ∙ q.1)

dialled_grows : (address : List ℕ) (xs ys : List (List ℕ)) → IsPrefix xs ys → WasDialled address xs → WasDialled address ys
dialled_grows address xs ys p w = record {
  before = w.before;
  after = w.after ++ p.0;
  split = sym p.1 ∙ ap (λ z. z ++ p.0) w.split ∙ append_assoc w.before (address ∷ w.after) p.0;
}

-- ---- links that there may be

module _ {L : Type 0} where
  pub held_some : (o : Option L) (P Q : L → Type 0) → ((l : L) → P l → Q l) → IsHeld o P → IfSome o Q
  held_some None P Q f h = absurd h
  held_some (Some l) P Q f h = f l h

  pub none_some : (o : Option L) (Q : L → Type 0) → o ≡ None → IfSome o Q
  none_some o Q is = subst (λ z. IfSome z Q) (sym is) tt

  pub gone_some : (a b : Option L) (P Q : L → Type 0) (R : L → L → Type 0) → ((l m : L) → R l m → P l → Q m) → IsGone a b R → IfSome a P → IfSome b Q
  gone_some None b P Q R f g h = absurd g
  gone_some (Some l) None P Q R f g h = absurd g
  gone_some (Some l) (Some m) P Q R f g h = f l m g h

module _ {L : Type 0} (link : link_of.Ghosts L) where
  -- ---- what was said

  pub said_later : (own : Key) (l m : L) → (link.faults l ≤ link.faults m) × (IsTrue link.tells → IsPrefix (link.events l) (link.events m)) → HasSaid link own l → HasSaid link own m
  said_later own l m later (inl failed) = let e = later.0 in inl (omega (arith, failed, e))
  said_later own l m later (inr said) = inr (λ t. prefix_then (sent_as (message.Peer own) ∷ []) (link.events l) (link.events m) (said t) (later.1 t))

  greeted_said : (told : Bool) (domain own : Key) (ws : List Waiting) (cs ds : List TurnCall) (l : L) → HasGreeted link.tells told domain own ws [] (link.events l) cs ds → HasSaid link own l
  greeted_said told domain own ws cs ds l g = inr (λ t. (map have g.copies ++ map relay g.relays, sym (g.sent t)))

  failed_said : (own : Key) (l : L) → Rose 0 (link.faults l) → HasSaid link own l
  failed_said own l rose = inl (omega (arith, rose))

module _ {L : Type 0} {link : link_of.Ghosts L} where
  -- ---- more was dialled

  module _ (tells : Bool) (xs ys : List (List ℕ)) (grows : IsTrue tells → IsPrefix xs ys) where
    pub ready_grows : (p : PeerLink L link) → IsReady tells xs p → IsReady tells ys p
    ready_grows p r = record { dialled = λ o t. dialled_grows (encode_utf8_all p.address) xs ys (grows t) (r.dialled o t); said = r.said }

    pub all_ready_grow : (ps : List (Peer L link)) → AreReady tells xs ps → AreReady tells ys ps
    all_ready_grow [] r = tt
    all_ready_grow (p ∷ ps) r = (ready_grows p.link r.0, all_ready_grow ps r.1)

module _ {L T N : Type 0} {link : link_of.Ghosts L} (turns : turns_of.Ghosts T) (net : net_of.Ghosts N L) where
  -- ---- a step

  module _ (p q : PeerLink L link) (t u : T) (n m : N) (s : Stepped) (step : IsStep turns net p q t u n m (Ok s)) where
    address_same : encode_utf8_all p.address ≡ encode_utf8_all q.address
    address_same = sym (ap (λ z. z.2) step.named)

    dialled_by : IsReady net.tells (net.asked n) p → (b : Bool) → is_cut p.ear ≡ b → IsTrue net.tells → WasDialled (encode_utf8_all p.address) (net.asked m)
    dialled_by ready true is told = record { before = net.asked n; after = []; split = step.asked_is is told }
    dialled_by ready false is told = subst (λ z. WasDialled (encode_utf8_all p.address) (net.asked z)) (sym (step.apart is)) (ready.dialled is told)

    pub step_dialled : IsReady net.tells (net.asked n) p → IsTrue net.tells → WasDialled (encode_utf8_all q.address) (net.asked m)
    step_dialled ready told = subst (λ z. WasDialled z (net.asked m)) address_same (dialled_by ready (is_cut p.ear) refl told)

    grows_by : (b : Bool) → is_cut p.ear ≡ b → IsTrue net.tells → IsPrefix (net.asked n) (net.asked m)
    grows_by true is told = (encode_utf8_all p.address ∷ [], sym (step.asked_is is told))
    grows_by false is told = subst (λ z. IsPrefix (net.asked n) (net.asked z)) (sym (step.apart is)) (prefix_self (net.asked n))

    pub step_grows : IsTrue net.tells → IsPrefix (net.asked n) (net.asked m)
    step_grows told = grows_by (is_cut p.ear) refl told

    own_same : p.own ≡ q.own
    own_same = sym (ap (λ z. z.1) step.named)

    begun_said : (came : Stepped) → Dials link turns p.domain p.own p.link q.link q.ear q.unanswered t u (net.line n) (net.line m) (Ok came) → IfSome q.link (λ l. HasSaid link p.own l)
    begun_said came_to.Dialled d = held_some q.link (λ l. HasGreeted link.tells turns.tells p.domain p.own q.unanswered [] (link.events l) (turns.calls t) (turns.calls u)) (λ l. HasSaid link p.own l) (greeted_said link turns.tells p.domain p.own q.unanswered (turns.calls t) (turns.calls u)) d.0
    begun_said came_to.Worked d = absurd d
    begun_said came_to.Idle d = absurd d
    begun_said came_to.Cut (inl none) = none_some q.link (λ l. HasSaid link p.own l) none.0.0
    begun_said came_to.Cut (inr begun) = held_some q.link (λ l. Rose 0 (link.faults l)) (λ l. HasSaid link p.own l) (failed_said link p.own) begun.0

    said_by : IsReady net.tells (net.asked n) p → (b : Bool) → is_cut p.ear ≡ b → IfSome q.link (λ l. HasSaid link p.own l)
    said_by ready true is = begun_said s (step.dialled is)
    said_by ready false is = gone_some p.link q.link (λ l. HasSaid link p.own l) (λ l. HasSaid link p.own l) (λ l k. (link.faults l ≤ link.faults k) × (IsTrue link.tells → IsPrefix (link.events l) (link.events k))) (said_later link p.own) (step.later is) ready.said

    pub step_ready : IsReady net.tells (net.asked n) p → IsReady net.tells (net.asked m) q
    step_ready ready = record {
      dialled = λ o told. step_dialled ready told;
      said = subst (λ z. IfSome q.link (λ l. HasSaid link z l)) own_same (said_by ready (is_cut p.ear) refl);
    }

  -- ---- a turn of the loop

  module _ (p q : Peer L link) (t u : T) (n m : N) (worked : Bool) where
    turn_grows : HasTurned turns net p q t u n m worked → IsTrue net.tells → IsPrefix (net.asked n) (net.asked m)
    turn_grows (inl h) told = subst (λ z. IsPrefix (net.asked n) (net.asked z)) (sym h.1.net_is) (prefix_self (net.asked n))
    turn_grows (inr h) told = step_grows p.link q.link t u n m h.1.came h.1.step told

    turn_ready : HasTurned turns net p q t u n m worked → IsReady net.tells (net.asked n) p.link → IsReady net.tells (net.asked m) q.link
    turn_ready (inl h) ready = subst (λ z. IsReady net.tells (net.asked m) z) (sym h.1.link_is) (subst (λ z. IsReady net.tells (net.asked z) p.link) (sym h.1.net_is) ready)
    turn_ready (inr h) ready = step_ready p.link q.link t u n m h.1.came h.1.step ready

  pub turned_grow : (ps qs : List (Peer L link)) (t u : T) (n m : N) (worked : Bool) → HaveTurned turns net ps qs t u n m worked → IsTrue net.tells → IsPrefix (net.asked n) (net.asked m)
  turned_grow [] [] t u n m worked h told = subst (λ z. IsPrefix (net.asked n) (net.asked z)) (sym h.1) (prefix_self (net.asked n))
  turned_grow [] (q ∷ qs) t u n m worked h told = absurd h
  turned_grow (p ∷ ps) [] t u n m worked h told = absurd h
  turned_grow (p ∷ ps) (q ∷ qs) t u n m worked h told = prefix_then (net.asked n) (net.asked h.1) (net.asked m) (turn_grows p q t h.0 n h.1 h.2 h.4 told) (turned_grow ps qs h.0 u h.1 m h.3 h.5 told)

  pub all_ready : (ps qs : List (Peer L link)) (t u : T) (n m : N) (worked : Bool) → HaveTurned turns net ps qs t u n m worked
      → AreReady net.tells (net.asked n) ps → AreReady net.tells (net.asked m) qs
  all_ready [] [] t u n m worked h r = tt
  all_ready [] (q ∷ qs) t u n m worked h r = absurd h
  all_ready (p ∷ ps) [] t u n m worked h r = absurd h
  all_ready (p ∷ ps) (q ∷ qs) t u n m worked h r = (
    ready_grows net.tells (net.asked h.1) (net.asked m) (turned_grow ps qs h.0 u h.1 m h.3 h.5) q.link (turn_ready p q t h.0 n h.1 h.2 h.4 r.0),
    all_ready ps qs h.0 u h.1 m h.3 h.5 (all_ready_grow net.tells (net.asked n) (net.asked h.1) (turn_grows p q t h.0 n h.1 h.2 h.4) ps r.1),
  )

  -- ---- before the server ends

  runs_grow : (ss : List Stepped) (p q : PeerLink L link) (t u : T) (n m : N) → Runs turns net ss p q t u n m → IsTrue net.tells → IsPrefix (net.asked n) (net.asked m)
  runs_grow [] p q t u n m r told = subst (λ z. IsPrefix (net.asked n) (net.asked z)) (sym r.2) (prefix_self (net.asked n))
  runs_grow (s ∷ ss) p q t u n m r told = prefix_then (net.asked n) (net.asked r.2) (net.asked m) (runs_grow ss p r.0 t r.1 n r.2 r.3 told) (step_grows r.0 q r.1 u r.2 m s r.4 told)

  pub runs_ready : (ss : List Stepped) (p q : PeerLink L link) (t u : T) (n m : N) → Runs turns net ss p q t u n m → IsReady net.tells (net.asked n) p → IsReady net.tells (net.asked m) q
  runs_ready [] p q t u n m r ready = subst (λ z. IsReady net.tells (net.asked m) z) (sym r.0) (subst (λ z. IsReady net.tells (net.asked z) p) (sym r.2) ready)
  runs_ready (s ∷ ss) p q t u n m r ready = step_ready r.0 q r.1 u r.2 m s r.4 (runs_ready ss p r.0 t r.1 n r.2 r.3 ready)

  module _ (p q : PeerLink L link) (t u : T) (n m : N) (r : HasRun turns net p q t u n m) where
    pub run_grows : IsTrue net.tells → IsPrefix (net.asked n) (net.asked m)
    run_grows told = prefix_then (net.asked n) (net.asked r.net_then) (net.asked m) (runs_grow r.came p r.link_then t r.turns_then n r.net_then r.ran told) (step_grows r.link_then q r.turns_then u r.net_then m r.last r.step told)

    pub end_dialled : IsReady net.tells (net.asked n) p → IsTrue net.tells → WasDialled (encode_utf8_all q.address) (net.asked m)
    end_dialled ready told = step_dialled r.link_then q r.turns_then u r.net_then m r.last r.step (runs_ready r.came p r.link_then t r.turns_then n r.net_then r.ran ready) told

  pub run_all_grow : (ps qs : List (Peer L link)) (t u : T) (n m : N) → HaveRun turns net ps qs t u n m → IsTrue net.tells → IsPrefix (net.asked n) (net.asked m)
  run_all_grow [] [] t u n m h told = subst (λ z. IsPrefix (net.asked n) (net.asked z)) (sym h.1) (prefix_self (net.asked n))
  run_all_grow [] (q ∷ qs) t u n m h told = absurd h
  run_all_grow (p ∷ ps) [] t u n m h told = absurd h
  run_all_grow (p ∷ ps) (q ∷ qs) t u n m h told = prefix_then (net.asked n) (net.asked h.1) (net.asked m) (run_grows p.link q.link t h.0 n h.1 h.2 told) (run_all_grow ps qs h.0 u h.1 m h.3 told)

  pub all_dialled : (ps qs : List (Peer L link)) (t u : T) (n m : N) → HaveRun turns net ps qs t u n m → AreReady net.tells (net.asked n) ps → IsTrue net.tells → AreDialled (net.asked m) (names qs)
  all_dialled [] [] t u n m h r told = tt
  all_dialled [] (q ∷ qs) t u n m h r told = absurd h
  all_dialled (p ∷ ps) [] t u n m h r told = absurd h
  all_dialled (p ∷ ps) (q ∷ qs) t u n m h r told = (
    dialled_grows (encode_utf8_all q.link.address) (net.asked h.1) (net.asked m) (run_all_grow ps qs h.0 u h.1 m h.3 told) (end_dialled p.link q.link t h.0 n h.1 h.2 r.0 told),
    all_dialled ps qs h.0 u h.1 m h.3 (all_ready_grow net.tells (net.asked n) (net.asked h.1) (run_grows p.link q.link t h.0 n h.1 h.2) ps r.1) told,
  )

  pub ready_ok : (ps qs : List (Peer L link)) (t u : T) (n m : N) (r : Result Bool TurnFault) → IfOk r (HaveTurned turns net ps qs t u n m)
      → OnOk r (AreReady net.tells (net.asked n) ps → AreReady net.tells (net.asked m) qs)
  ready_ok ps qs t u n m (Ok worked) h = all_ready ps qs t u n m worked h
  ready_ok ps qs t u n m (Err e) h = tt

  pub dialled_ok : (ps qs : List (Peer L link)) (t u : T) (n m : N) (r : Result (Unit {0}) TurnFault) → OnOk r (HaveRun turns net ps qs t u n m)
      → OnOk r (AreReady net.tells (net.asked n) ps → IsTrue net.tells → AreDialled (net.asked m) (names qs))
  dialled_ok ps qs t u n m (Ok o) h = all_dialled ps qs t u n m h
  dialled_ok ps qs t u n m (Err e) h = tt
