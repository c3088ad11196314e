-- How many peers were reached, and how far the count of the line rose.
--     runs_rise, run_rises, all_rise     the count of the line doesn't fall
--     end_reached        a link that may be left was stepped or has failed, or the count of the line rose
--     all_reached        so each
--     come_back          after their links were put back
--     come_after         so after each link was stepped until it could be left
use Rattle.std.proofs.Common.{◌≡◌, ◌⊎◌, inl, inr, sym, ap, subst, refl, arith, ◌≤◌, ◌<◌, ℕ, ◌+◌, min, Bool, true, false, IsTrue, List, [], ◌∷◌, ◌++◌, length, Option, Some, None, IfSome, Result, Ok, Err, OnOk}
use Rattle.std.proofs.lemmas.Bool.{false≢true}
use mathlib.Core.List.{IsPrefix}
use Rattle.doc_items.specs.Maps.{Key}
use Rattle.wave_outside.specs.Counts.{Rose}
use Rattle.wave_outside.specs.declared.link.Link as link_of
use Rattle.wave_outside.specs.declared.net.Net as net_of
use Rattle.peer_turns.specs.declared.fault.TurnFault.{TurnFault}
use Rattle.peer_turns.specs.declared.turns.PeerTurns as turns_of
use Rattle.federation_link.specs.Dials.{IsHeld, IsGone, line_after, list_in}
use Rattle.federation_link.specs.Called.{Dials}
use Rattle.message_json.specs.declared.message.Message.TheVariants as message
use Rattle.federation_link.specs.Sends.{sent_as}
use Rattle.federation_link.specs.Steps.{is_cut, HasEnded, IsAtRest}
use Rattle.federation_link.specs.declared.peer_link.PeerLink.{PeerLink}
use Rattle.federation_link.specs.declared.stepped.Stepped.{Stepped}
use Rattle.federation_link.specs.declared.stepped.Stepped.TheVariants as came_to
use Rattle.peer_rounds.specs.Peers.{SpeakFor, links, names}
use Rattle.peer_rounds.specs.Stands.{HasSaid, IsReady, AreReady, IsStepped, IsFruit}
use Rattle.peer_rounds.specs.Turns.{IsStep, is_end, Runs, HasRun, HaveRun}
use Rattle.peer_rounds.specs.Reached.{last_count, AtLeast, IsReached, HaveReached, line_then, HaveCome}
use Rattle.peer_rounds.specs.declared.peer.Peer.{Peer}
use Rattle.peer_rounds.proofs.Standing.{prefix_then, said_later, run_grows, runs_ready, all_ready_grow}

-- ---- counts

abbrev pub Rises : ℕ → ℕ → Type 0
Rises n m = min n last_count ≤ m

rises_then : (n k m : ℕ) → Rises n k → Rises k m → Rises n m
rises_then n k m r s = omega (arith, r, s)

rises_below : (n m : ℕ) → Rises n m → m < last_count → n ≤ m
rises_below n m r below = omega (arith, r, below)

rose_below : (n m : ℕ) → Rose n m → m < last_count → n + 1 ≤ m
rose_below n m r below = omega (arith, r, below)

rose_some : (n m : ℕ) → Rose n m → 1 ≤ m
rose_some n m r = omega (arith, r)

module _ {L : Type 0} (faults : L → ℕ) where
  after_rises : (o : Option L) (n : ℕ) → Rises n (line_after faults o n)
  after_rises None n = omega arith
  after_rises (Some l) n = omega arith

-- ---- links that there may be

module _ {L : Type 0} where
  held_map : (o : Option L) (P Q : L → Type 0) → ((l : L) → P l → Q l) → IsHeld o P → IsHeld o Q
  held_map None P Q f h = absurd h
  held_map (Some l) P Q f h = f l h

  gone_held : (a b : Option L) (P : L → Type 0) (R S : L → L → Type 0) (Q : L → Type 0) → ((l m : L) → R l m → S l m → P l → Q m) → IsGone a b R → IsGone a b S → IfSome a P → IsHeld b Q
  gone_held None b P R S Q f g h i = absurd g
  gone_held (Some l) None P R S Q f g h i = absurd g
  gone_held (Some l) (Some m) P R S Q f g h i = f l m g h i

module _ {L T N : Type 0} {link : link_of.Ghosts L} (turns : turns_of.Ghosts T) (net : net_of.Ghosts N L) where
  -- ---- the last step

  module _ (p q : PeerLink L link) (t u : T) (n m : N) where
    -- what a link that may be left shows
    abbrev pub IsDone : Key → Type 0
    IsDone own = IsHeld q.link (λ l. IsFruit link own l) ⊎ (net.line m < last_count → net.line n + 1 ≤ net.line m)

    rested : (own : Key) (l k : L) → (link.faults l ≤ link.faults k) × (IsTrue link.tells → IsPrefix (link.events l) (link.events k))
        → IsAtRest link.tells turns.tells p.domain (link.events l) (link.events k) (turns.calls t) (turns.calls u) (link.looks l) (link.looks k) → HasSaid link own l → IsFruit link own k
    rested own l k later rest (inl failed) = let e = later.0 in inl (omega (arith, failed, e))
    rested own l k later rest (inr said) = inr (record {
      said = λ told. prefix_then (sent_as (message.Peer own) ∷ []) (link.events l) (link.events k) (said told) (later.1 told);
      looked = inl (λ told. record { before = link.events l; after = []; split = rest.last told });
    })

    ended : (own : Key) (l k : L) → (link.faults l ≤ link.faults k) × (IsTrue link.tells → IsPrefix (link.events l) (link.events k))
        → HasEnded link.tells turns.tells p.domain (link.events l) (link.events k) p.ear q.ear p.unanswered q.unanswered (turns.calls t) (turns.calls u) (link.faults l) (link.faults k) (link.closed k)
        → HasSaid link own l → IsFruit link own k
    ended own l k later end said = by_cause end.cause (said_later link own l k later said)
      where
        by_cause : Rose (link.faults l) (link.faults k) ⊎ (link.closed k ≡ true) → HasSaid link own k → IsFruit link own k
        by_cause (inl rose) now = inl (rose_some _ _ rose)
        by_cause (inr closed) (inl failed) = inl failed
        by_cause (inr closed) (inr was) = inr (record { said = was; looked = inr closed })

    done_by : (s : Stepped) → is_end s ≡ true → IsStep turns net p q t u n m (Ok s) → IfSome p.link (λ l. HasSaid link p.own l) → (b : Bool) → is_cut p.ear ≡ b → IsDone p.own
    done_by came_to.Dialled end step said b is = absurd (false≢true end)
    done_by came_to.Worked end step said b is = absurd (false≢true end)
    done_by came_to.Idle end step said true is = absurd (step.dialled is)
    done_by came_to.Idle end step said false is = inl (gone_held p.link q.link (λ l. HasSaid link p.own l) (λ l k. (link.faults l ≤ link.faults k) × (IsTrue link.tells → IsPrefix (link.events l) (link.events k)))
        (λ l k. IsAtRest link.tells turns.tells p.domain (link.events l) (link.events k) (turns.calls t) (turns.calls u) (link.looks l) (link.looks k)) (λ k. IsFruit link p.own k) (rested p.own) (step.later is) (step.idle is) said)
    done_by came_to.Cut end step said true is = by_dial (step.dialled is)
      where
        by_dial : Dials link turns p.domain p.own p.link q.link q.ear q.unanswered t u (net.line n) (net.line m) (Ok came_to.Cut) → IsDone p.own
        by_dial (inl none) = inr (λ below.
            let up = rose_below (line_after link.faults p.link (net.line n)) (net.line m) none.1 below in
            let first = rises_below (net.line n) (line_after link.faults p.link (net.line n)) (after_rises link.faults p.link (net.line n)) (omega (arith, up, below)) in
            omega (arith, up, first))
        by_dial (inr begun) = inl (held_map q.link (λ l. Rose 0 (link.faults l)) (λ l. IsFruit link p.own l) (λ l rose. inl (rose_some 0 (link.faults l) rose)) begun.0)
    done_by came_to.Cut end step said false is = inl (gone_held p.link q.link (λ l. HasSaid link p.own l) (λ l k. (link.faults l ≤ link.faults k) × (IsTrue link.tells → IsPrefix (link.events l) (link.events k)))
        (λ l k. HasEnded link.tells turns.tells p.domain (link.events l) (link.events k) p.ear q.ear p.unanswered q.unanswered (turns.calls t) (turns.calls u) (link.faults l) (link.faults k) (link.closed k)) (λ k. IsFruit link p.own k) (ended p.own) (step.later is) (step.gone is) said)

  -- ---- the count of the line

  runs_rise : (ss : List Stepped) (p q : PeerLink L link) (t u : T) (n m : N) → Runs turns net ss p q t u n m → Rises (net.line n) (net.line m)
  runs_rise [] p q t u n m r = subst (λ z. Rises (net.line n) (net.line z)) (sym r.2) (omega arith)
  runs_rise (s ∷ ss) p q t u n m r = rises_then (net.line n) (net.line r.2) (net.line m) (runs_rise ss p r.0 t r.1 n r.2 r.3) r.4.risen

  pub run_rises : (p q : PeerLink L link) (t u : T) (n m : N) → HasRun turns net p q t u n m → Rises (net.line n) (net.line m)
  run_rises p q t u n m r = rises_then (net.line n) (net.line r.net_then) (net.line m) (runs_rise r.came p r.link_then t r.turns_then n r.net_then r.ran) r.step.risen

  pub all_rise : (ps qs : List (Peer L link)) (t u : T) (n m : N) → HaveRun turns net ps qs t u n m → Rises (net.line n) (net.line m)
  all_rise [] [] t u n m h = subst (λ z. Rises (net.line n) (net.line z)) (sym h.1) (omega arith)
  all_rise [] (q ∷ qs) t u n m h = absurd h
  all_rise (p ∷ ps) [] t u n m h = absurd h
  all_rise (p ∷ ps) (q ∷ qs) t u n m h = rises_then (net.line n) (net.line h.1) (net.line m) (run_rises p.link q.link t h.0 n h.1 h.2) (all_rise ps qs h.0 u h.1 m h.3)

  pub end_reached : (p q : PeerLink L link) (t u : T) (n m : N) → HasRun turns net p q t u n m → IsReady net.tells (net.asked n) p
      → IsHeld q.link (λ l. IsFruit link q.own l) ⊎ (net.line m < last_count → net.line n + 1 ≤ net.line m)
  end_reached p q t u n m r ready = by_done (done_by r.link_then q r.turns_then u r.net_then m r.last r.ends r.step
      (runs_ready turns net r.came p r.link_then t r.turns_then n r.net_then r.ran ready).said (is_cut r.link_then.ear) refl)
    where
      by_done : IsDone r.link_then q r.turns_then u r.net_then m r.link_then.own → IsHeld q.link (λ l. IsFruit link q.own l) ⊎ (net.line m < last_count → net.line n + 1 ≤ net.line m)
      by_done (inl held) = inl (subst (λ z. IsHeld q.link (λ l. IsFruit link z l)) (sym (ap (λ z. z.1) r.step.named)) held)
      by_done (inr rose) = inr (λ below.
          let up = rose below in
          let first = rises_below (net.line n) (net.line r.net_then) (runs_rise r.came p r.link_then t r.turns_then n r.net_then r.ran) (omega (arith, up, below)) in
          omega (arith, up, first))

  -- ---- all of them

  first_reached : (q : Peer L link) (qs : List (Peer L link)) (n k m : ℕ) → Rises n k → Rises k m
      → IsHeld q.link.link (λ l. IsFruit link q.link.own l) ⊎ (k < last_count → n + 1 ≤ k) → HaveReached k m qs → HaveReached n m (q ∷ qs)
  first_reached q qs n k m first later (inl held) others = record {
    count = others.count + 1;
    reached = inr (held, (others.count, refl, others.reached));
    enough = λ below.
        let then = rises_below k m later below in
        let start = rises_below n k first (omega (arith, then, below)) in
        let rest = others.enough below in
        omega (arith, start, rest);
  }
  first_reached q qs n k m first later (inr rose) others = record {
    count = others.count;
    reached = inl others.reached;
    enough = λ below.
        let then = rises_below k m later below in
        let start = rose (omega (arith, then, below)) in
        let rest = others.enough below in
        omega (arith, start, rest);
  }

  pub all_reached : (ps qs : List (Peer L link)) (t u : T) (n m : N) → HaveRun turns net ps qs t u n m → AreReady net.tells (net.asked n) ps → HaveReached (net.line n) (net.line m) qs
  all_reached [] [] t u n m h r = record { count = 0; reached = refl; enough = λ below. subst (λ z. net.line n + 0 ≤ net.line z + 0) (sym h.1) (omega arith) }
  all_reached [] (q ∷ qs) t u n m h r = absurd h
  all_reached (p ∷ ps) [] t u n m h r = absurd h
  all_reached (p ∷ ps) (q ∷ qs) t u n m h r = first_reached q qs (net.line n) (net.line h.1) (net.line m)
      (run_rises p.link q.link t h.0 n h.1 h.2) (all_rise ps qs h.0 u h.1 m h.3) (end_reached p.link q.link t h.0 n h.1 h.2 r.0)
      (all_reached ps qs h.0 u h.1 m h.3 (all_ready_grow net.tells (net.asked n) (net.asked h.1) (run_grows turns net p.link q.link t h.0 n h.1 h.2) ps r.1))

-- ---- links that are put back

module _ {L : Type 0} (link : link_of.Ghosts L) (own : Key) where
  abbrev pub SteppedAtLeast : List L → ℕ → Type 0
  SteppedAtLeast ls k = AtLeast (λ l. IsStepped link own l) ls k

  none_more : (o : Option L) (ls : List L) (k : ℕ) → SteppedAtLeast ls k → SteppedAtLeast (list_in o ++ ls) k
  none_more None ls k a = a
  none_more (Some l) ls k a = inl a

  -- one link: it was stepped, or the count of the line rises with it
  one_back : (o : Option L) (n : ℕ) (ls : List L) (k : ℕ) → IsHeld o (λ l. IsFruit link own l) → SteppedAtLeast ls k
      → SteppedAtLeast (list_in o ++ ls) (k + 1) ⊎ (SteppedAtLeast (list_in o ++ ls) k × (line_after link.faults o n < last_count → n + 1 ≤ line_after link.faults o n))
  one_back None n ls k h a = absurd h
  one_back (Some l) n ls k (inl failed) a = inr (inl a, λ below. omega (arith, failed, below))
  one_back (Some l) n ls k (inr stepped) a = inl (inr (stepped, (k, refl, a)))

  -- the count of the line before and after the first link, and after all of them
  module _ (o : Option L) (ls : List L) (n m : ℕ) (k : ℕ) (later : Rises (line_after link.faults o n) m) (rest : HaveCome link own (line_after link.faults o n) m ls k) where
    passed : HaveCome link own n m (list_in o ++ ls) k
    passed = record {
      count = rest.count;
      stepped = none_more o ls rest.count rest.stepped;
      enough = λ below.
          let then = rises_below (line_after link.faults o n) m later below in
          let first = rises_below n (line_after link.faults o n) (after_rises link.faults o n) (omega (arith, then, below)) in
          let others = rest.enough below in
          omega (arith, first, others);
    }

    counted : SteppedAtLeast (list_in o ++ ls) (rest.count + 1) ⊎ (SteppedAtLeast (list_in o ++ ls) rest.count × (line_after link.faults o n < last_count → n + 1 ≤ line_after link.faults o n))
        → HaveCome link own n m (list_in o ++ ls) (k + 1)
    counted (inl more) = record {
      count = rest.count + 1;
      stepped = more;
      enough = λ below.
          let then = rises_below (line_after link.faults o n) m later below in
          let first = rises_below n (line_after link.faults o n) (after_rises link.faults o n) (omega (arith, then, below)) in
          let others = rest.enough below in
          omega (arith, first, others);
    }
    counted (inr rose) = record {
      count = rest.count;
      stepped = rose.0;
      enough = λ below.
          let then = rises_below (line_after link.faults o n) m later below in
          let first = rose.1 (omega (arith, then, below)) in
          let others = rest.enough below in
          omega (arith, first, others);
    }

module _ {L : Type 0} {link : link_of.Ghosts L} where
  pub then_rises : (ps : List (Peer L link)) (n : ℕ) → Rises n (line_then ps n)
  then_rises [] n = omega arith
  then_rises (p ∷ ps) n = rises_then n (line_after link.faults p.link.link n) (line_then ps (line_after link.faults p.link.link n))
      (after_rises link.faults p.link.link n) (then_rises ps (line_after link.faults p.link.link n))

  pub come_back : (own : Key) (ps : List (Peer L link)) (n k : ℕ) → SpeakFor own (names ps) → AtLeast IsReached ps k → HaveCome link own n (line_then ps n) (links ps) k
  come_back own [] n k same a = record { count = 0; stepped = refl; enough = λ below. let e = a in omega (arith, e) }
  come_back own (p ∷ ps) n k same (inl a) = passed link own p.link.link (links ps) n (line_then (p ∷ ps) n) k (then_rises ps (line_after link.faults p.link.link n))
      (come_back own ps (line_after link.faults p.link.link n) k same.1 a)
  come_back own (p ∷ ps) n k same (inr a) =
      let rest = come_back own ps (line_after link.faults p.link.link n) a.1.0 same.1 a.1.2 in
      subst (λ z. HaveCome link own n (line_then (p ∷ ps) n) (links (p ∷ ps)) z) (sym a.1.1)
      (counted link own p.link.link (links ps) n (line_then (p ∷ ps) n) a.1.0 (then_rises ps (line_after link.faults p.link.link n)) rest
      (one_back link own p.link.link n (links ps) rest.count (subst (λ z. IsHeld p.link.link (λ l. IsFruit link z l)) same.0 a.0) rest.stepped))

  pub come_after : (own : Key) (ps : List (Peer L link)) (n m : ℕ) → SpeakFor own (names ps) → HaveReached n m ps
      → HaveCome link own n (line_then ps m) (links ps) (length ps)
  come_after own ps n m same reached =
      let back = come_back own ps m reached.count same reached.reached in
      record {
        count = back.count;
        stepped = back.stepped;
        enough = λ below.
            let later = rises_below m (line_then ps m) (then_rises ps m) below in
            let rest = back.enough below in
            let first = reached.enough (omega (arith, later, below)) in
            omega (arith, first, rest);
      }

module _ {L T N : Type 0} {link : link_of.Ghosts L} (turns : turns_of.Ghosts T) (net : net_of.Ghosts N L) where
  pub reached_ok : (ps qs : List (Peer L link)) (t u : T) (n m : N) (r : Result (Unit {0}) TurnFault) → OnOk r (HaveRun turns net ps qs t u n m)
      → OnOk r (AreReady net.tells (net.asked n) ps → HaveReached (net.line n) (net.line m) qs)
  reached_ok ps qs t u n m (Ok o) h = all_reached turns net ps qs t u n m h
  reached_ok ps qs t u n m (Err e) h = tt
