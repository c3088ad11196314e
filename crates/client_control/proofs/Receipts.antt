-- What a follower answers to a delta, and what it keeps.
--     refused_same, unstructured_same     a delta that breaks a bound, or whose operations aren't structured
--     invalid_answer, valid_answer        what is answered where the follower doesn't advance
--     passed_on, landed                   what is kept where it does
use Rattle.std.proofs.Common.{◌≡◌, ℕ, ◌+◌, ◌-◌, ◌≤◌, Bool, true, false, nat_le, List, [], ◌++◌, length, map, Option, None, Some, IfSome, MatchOption, refl, sym, ap, subst, ◌∙◌, arith, option_and_then}
use Rattle.std.specs.Option.{option_map, option_to_list}
use Rattle.doc_op.proofs.Applying.{same_Some}
use Rattle.std.specs.Cmp.Lexicographic.{bytes_decides}
use Rattle.wave_base.specs.Versions.{same_id}
use Rattle.wavelet_codec.specs.Spelling.{delta_bytes, IsDelta}
use Rattle.wavelet_codec.proofs.Deltas.{alike}
use Rattle.wavelet_op.specs.Acts.{meanings, inserted, AreNormal, AreStructuredActs}
use Rattle.wavelet_op.specs.Deltas.{DeltaOf}
use Rattle.wavelet_op.specs.States.{State, run, first_invalid}
use Rattle.wavelet_op.specs.declared.op.WaveletOp.{WaveletOp}
use Rattle.wavelet_state.specs.Snapshots.{max_inserted}
use Rattle.delta_history.specs.Points.{Point, acts_of, point_behind, next_point}
use Rattle.delta_history.specs.Steps.{IsWithin, IsStep}
use Rattle.delta_history.specs.declared.step.Step.{Step}
use Rattle.delta_history.proofs.Points.{and_then_is}
use Rattle.follower_rules.specs.declared.received.Received.TheVariants.{OtherFlight, NotNext, Advanced}
use Rattle.follower_rules.specs.Followers.{FollowerOf, inserted_all, flying, pending, screen, moved}
use Rattle.follower_rules.specs.Laws.{IsSound}
use Rattle.follower_rules.specs.Receiving.{Over, over, is_within, advance_with, advance_within, with_acts, is_own, advance_to, advance, receive_other, receive_own, receive_id, receive_flight}
use Rattle.follower_rules.proofs.Advances.{ops_back, bounded, passing_is, landing_is}
use Rattle.client_control.specs.declared.flight.InFlight.{InFlight}
use Rattle.client_control.specs.declared.past.Passed.{Passed}
use Rattle.client_control.specs.declared.receiving.Meeting.{Meeting}
use Rattle.client_control.specs.declared.receiving.Meeting.TheVariants.{Other, Own, Clash}
use Rattle.client_control.specs.Parts.{Parts, parts, flight_of, follower_of, with_ops, IsKept}
use Rattle.client_control.specs.Steps.{IsOver, IsComparison, IsMeeting}
use Rattle.client_control.proofs.Pending.{run_structured}
use Rattle.std.proofs.lemmas.Bool.Decides.{nat_tests}
use Rattle.std.proofs.lemmas.Bool.{and_from}

true_le : (a b : ℕ) → a ≤ b → nat_le a b ≡ true
true_le a b h = grind (arith, nat_tests)

after_within : (p : Point) (d : DeltaOf) (s : State) → is_within (point_behind p d s) d ≡ true → IsWithin p.at p.count d
after_within p d s w = (let b = bounded (point_behind p d s) d w in record { counted = b.counted; held = b.held; short = b.short })

within_behind : (p : Point) (d : DeltaOf) (s : State) → IsWithin p.at p.count d → is_within (point_behind p d s) d ≡ true
within_behind p d s w = and_from _ _ (and_from _ _ (true_le _ _ w.counted) (true_le _ _ w.held)) (true_le _ _ w.short)

-- ---- where the follower stays

pub invalid_answer : (f : FollowerOf) (d : DeltaOf) (o : Option Over) → run f.here.state (acts_of d) ≡ None → advance f d o ≡ (NotNext (first_invalid f.here.state (acts_of d)), f)
invalid_answer f d o e = ap (λ z. advance_to f d o (option_map (point_behind f.here d) z)) e

pub valid_answer : (f : FollowerOf) (d : DeltaOf) (t : State) → run f.here.state (acts_of d) ≡ Some t → advance f d None ≡ (NotNext (length d.ops), f)
valid_answer f d t e = ap (λ z. advance_to f d None (option_map (point_behind f.here d) z)) e ∙ go (is_within (point_behind f.here d t) d)
  where
    go : (b : Bool) → advance_within f d None (point_behind f.here d t) b ≡ (NotNext (length d.ops), f)
    go true = refl
    go false = refl

pub refused_same : (f : FollowerOf) (d : DeltaOf) (o : Option Over) → (IsWithin f.here.at f.here.count d → ⊥) → advance f d o ≡ advance f d None
refused_same f d o n = go (run f.here.state (acts_of d))
  where
    short : (t : State) (b : Bool) → is_within (point_behind f.here d t) d ≡ b → advance_within f d o (point_behind f.here d t) b ≡ advance_within f d None (point_behind f.here d t) b
    short t true w = absurd (n (after_within f.here d t w))
    short t false w = refl

    go : (r : Option State) → advance_to f d o (option_map (point_behind f.here d) r) ≡ advance_to f d None (option_map (point_behind f.here d) r)
    go None = refl
    go (Some t) = short t (is_within (point_behind f.here d t) d) refl

pub unstructured_same : (f : FollowerOf) (d : DeltaOf) (o : Option Over) → (AreStructuredActs (acts_of d) → ⊥) → advance f d o ≡ advance f d None
unstructured_same f d o n = go (run f.here.state (acts_of d)) refl
  where
    go : (r : Option State) → run f.here.state (acts_of d) ≡ r → advance_to f d o (option_map (point_behind f.here d) r) ≡ advance_to f d None (option_map (point_behind f.here d) r)
    go None e = refl
    go (Some t) e = absurd (n (run_structured f.here.state t (acts_of d) e))

-- ---- where it advances

-- the parts after a delta
abbrev pub parts_after : Parts → Step → State → Option InFlight → List (List WaveletOp) → Parts
parts_after p s t g q = parts p.name p.client.author p.client.client s.to s.inserted t g q p.next

here_is : (p : Parts) (d : DeltaOf) (s : Step) (t : State) → IsStep p.here.at p.here.count d s → point_behind p.here d t ≡ record { at = s.to; state = t; count = s.inserted }
here_is p d s t h = ap (λ (z : Step). record { at = z.to; state = t; count = z.inserted }) (sym h.1)

goes : (p : Parts) (d : DeltaOf) (t : State) → run p.here.state (acts_of d) ≡ Some t → next_point p.here d ≡ Some (point_behind p.here d t)
goes p d t e = ap (option_map (point_behind p.here d)) e

-- a screen that was kept, moved on
abbrev pub IsMovedOn : Option State → List WaveletOp → Option State → Type 0
IsMovedOn before ops now = IfSome now (λ t. MatchOption before ⊥ (λ s. run s (meanings ops) ≡ Some t))

other_over : (p : Parts) (d : DeltaOf) (s : Step) (t : State) (o : Passed) → IsStep p.here.at p.here.count d s → run p.here.state (acts_of d) ≡ Some t → IsOver p.flight p.queue d.ops o → receive_other (follower_of p) d ≡ (Advanced, follower_of (parts_after p s t (with_ops p.flight o.flight) o.queue.items))
other_over p d s t o h e k =
    let f = follower_of p in
    let q : Point = point_behind p.here d t in
    let g = option_map flight_of (with_ops p.flight o.flight) in
    let es = map meanings o.queue.items in
    ap (advance_to f d (over f.flight f.queue (acts_of d))) (goes p d t e)
    ∙ ap (advance_within f d (over f.flight f.queue (acts_of d)) q) (within_behind p.here d t h.0)
    ∙ ap (advance_with f d q) k.is
    ∙ ap (λ (z : Point). (Advanced, moved f z g es)) (here_is p d s t h)

pub other_answer : (p : Parts) (d : DeltaOf) (s : Step) (t : State) (o : Passed) → IsStep p.here.at p.here.count d s → run p.here.state (acts_of d) ≡ Some t → IsOver p.flight p.queue d.ops o → (Advanced, follower_of (parts_after p s t (with_ops p.flight o.flight) o.queue.items)) ≡ receive_other (follower_of p) d
other_answer p d s t o h e k = sym (other_over p d s t o h e k)

record IsOtherKept (p : Parts) (s : Step) (t : State) (o : Passed) : Type 0 where
  sound : IsSound (follower_of (parts_after p s t (with_ops p.flight o.flight) o.queue.items))
  shows : screen (follower_of (parts_after p s t (with_ops p.flight o.flight) o.queue.items)) ≡ option_and_then (λ z. run z (meanings o.left)) (screen (follower_of p))

other_sound : (p : Parts) (d : DeltaOf) (s : Step) (t : State) (o : Passed) → IsSound (follower_of p) → IsStep p.here.at p.here.count d s → run p.here.state (acts_of d) ≡ Some t → IsOver p.flight p.queue d.ops o → IsOtherKept p s t o
other_sound p d s t o sound h e k =
    let f = follower_of p in
    let q : Point = point_behind p.here d t in
    let m = passing_is f d q sound (goes p d t e) (within_behind p.here d t h.0) in
    let same : ((m.flight, m.queue), m.left) ≡ ((option_map flight_of (with_ops p.flight o.flight), map meanings o.queue.items), meanings o.left) = same_Some (sym m.over ∙ k.is) in
    let here = here_is p d s t h in
    record {
      sound = subst (λ (z : Point). IsSound (moved f z (option_map flight_of (with_ops p.flight o.flight)) (map meanings o.queue.items))) here (subst (λ (z : Over). IsSound (moved f q z.0.0 z.0.1)) same m.sound);
      shows = subst (λ (z : Point). screen (moved f z (option_map flight_of (with_ops p.flight o.flight)) (map meanings o.queue.items)) ≡ option_and_then (λ y. run y (meanings o.left)) (screen f)) here (subst (λ (z : Over). screen (moved f q z.0.0 z.0.1) ≡ option_and_then (λ y. run y z.1) (screen f)) same m.shows);
    }

moved_screen : (o : Option State) (ops : List WaveletOp) (before now : Option State) (m : Option State) → m ≡ option_and_then (λ z. run z (meanings ops)) o → IfSome before (λ s. o ≡ Some s) → IsMovedOn before ops now → IfSome now (λ t. m ≡ Some t)
moved_screen o ops before None m e b n = tt
moved_screen o ops None (Some t) m e b n = absurd n
moved_screen o ops (Some s) (Some t) m e b n = e ∙ and_then_is o (λ z. run z (meanings ops)) s b ∙ n

pub other_kept : (p : Parts) (d : DeltaOf) (s : Step) (t : State) (o : Passed) (count now : ℕ) (shown shown' : Option State) → IsKept p count shown → IsStep p.here.at p.here.count d s → run p.here.state (acts_of d) ≡ Some t → IsOver p.flight p.queue d.ops o
    → now ≡ inserted_all (map meanings (option_to_list o.flight ++ o.queue.items)) → IsMovedOn shown o.left shown' → IsKept (parts_after p s t (with_ops p.flight o.flight) o.queue.items) now shown'
other_kept p d s t o count now shown shown' k h e v n m =
    let x = other_sound p d s t o k.sound h e v in
    record {
      sound = x.sound;
      flight_normal = v.flight_normal;
      queue_normal = v.queue_normal;
      held = n ∙ ap inserted_all v.flying;
      shown = moved_screen (screen (follower_of p)) o.left shown shown' (screen (follower_of (parts_after p s t (with_ops p.flight o.flight) o.queue.items))) x.shows k.shown m;
      client = k.client;
      next = k.next;
    }

-- what is pending then inserts few items
pub other_room : (p : Parts) (d : DeltaOf) (s : Step) (t : State) (o : Passed) → IsSound (follower_of p) → IsStep p.here.at p.here.count d s → run p.here.state (acts_of d) ≡ Some t → IsOver p.flight p.queue d.ops o → inserted_all (map meanings (option_to_list o.flight ++ o.queue.items)) ≤ max_inserted
other_room p d s t o sound h e k = subst (λ z. inserted_all z ≤ max_inserted) (sym k.flying) (other_sound p d s t o sound h e k).sound.held

-- ---- the flight's own delta

-- the flight has the delta's acts
abbrev pub IsOwnFlight : Option InFlight → DeltaOf → Type 0
IsOwnFlight g d = MatchOption g ⊥ (λ x. acts_of d ≡ meanings x.ops)

record IsOwnLanding (p : Parts) (d : DeltaOf) (s : Step) (t : State) : Type 0 where
  is : advance (follower_of p) d (Some ((None, map meanings p.queue), [])) ≡ (Advanced, follower_of (parts_after p s t None p.queue))
  sound : IsSound (follower_of (parts_after p s t None p.queue))
  shows : screen (follower_of (parts_after p s t None p.queue)) ≡ screen (follower_of p)

own_landing : (p : Parts) (d : DeltaOf) (s : Step) (t : State) → IsSound (follower_of p) → IsStep p.here.at p.here.count d s → run p.here.state (acts_of d) ≡ Some t → IsOwnFlight p.flight d → IsOwnLanding p d s t
own_landing p d s t sound h e own = go p.flight refl own
  where
    go : (g : Option InFlight) → p.flight ≡ g → IsOwnFlight g d → IsOwnLanding p d s t
    go None i o = absurd o
    go (Some x) i o =
        let f = follower_of p in
        let q : Point = point_behind p.here d t in
        let m = landing_is f d q (flight_of x) sound (goes p d t e) (within_behind p.here d t h.0) (ap (option_map flight_of) i) o in
        let here = here_is p d s t h in
        record {
          is = m.is ∙ ap (λ (z : Point). (Advanced, moved f z None f.queue)) here;
          sound = subst (λ (z : Point). IsSound (moved f z None f.queue)) here m.sound;
          shows = subst (λ (z : Point). screen (moved f z None f.queue) ≡ screen f) here m.shows;
        }

pub own_answer : (p : Parts) (d : DeltaOf) (s : Step) (t : State) → IsSound (follower_of p) → IsStep p.here.at p.here.count d s → run p.here.state (acts_of d) ≡ Some t → IsOwnFlight p.flight d → (Advanced, follower_of (parts_after p s t None p.queue)) ≡ advance (follower_of p) d (Some ((None, map meanings p.queue), []))
own_answer p d s t sound h e own = sym (own_landing p d s t sound h e own).is

-- the flight's items are among those that are pending
pub own_held : (p : Parts) (d : DeltaOf) → IsOwnFlight p.flight d → inserted_all (pending (follower_of p)) ≡ inserted (acts_of d) + inserted_all (map meanings p.queue)
own_held p d own = go p.flight own
  where
    go : (g : Option InFlight) → IsOwnFlight g d → inserted_all (flying (option_map flight_of g) ++ map meanings p.queue) ≡ inserted (acts_of d) + inserted_all (map meanings p.queue)
    go None o = absurd o
    go (Some x) o = ap (λ z. inserted z + inserted_all (map meanings p.queue)) (sym o)

same_screen : (o m : Option State) (shown : Option State) → m ≡ o → IfSome shown (λ s. o ≡ Some s) → IfSome shown (λ s. m ≡ Some s)
same_screen o m None e h = tt
same_screen o m (Some s) e h = e ∙ h

pub own_kept : (p : Parts) (d : DeltaOf) (s : Step) (t : State) (count now : ℕ) (shown : Option State) → IsKept p count shown → IsStep p.here.at p.here.count d s → run p.here.state (acts_of d) ≡ Some t → IsOwnFlight p.flight d → now ≡ count - inserted (acts_of d) → IsKept (parts_after p s t None p.queue) now shown
own_kept p d s t count now shown k h e own n =
    let x = own_landing p d s t k.sound h e own in
    let all = own_held p d own in
    record {
      sound = x.sound;
      flight_normal = tt;
      queue_normal = k.queue_normal;
      held = omega (arith, n, k.held, all);
      shown = same_screen (screen (follower_of p)) (screen (follower_of (parts_after p s t None p.queue))) shown x.shows k.shown;
      client = k.client;
      next = k.next;
    }

-- ---- the flight's id

same_delta : (d own : DeltaOf) (g : InFlight) → AreNormal g.ops → own ≡ record { id = d.id; from = d.from; time = d.time; ops = g.ops } → with_acts d (meanings g.ops) ≡ own
same_delta d own g n e = (λ i. record { id = d.id; from = d.from; time = d.time; ops = ops_back g.ops n i }) ∙ sym e

pub own_compared : (g : InFlight) (d own : DeltaOf) → AreNormal g.ops → own ≡ record { id = d.id; from = d.from; time = d.time; ops = g.ops } → IsDelta d → IsDelta own → delta_bytes d ≡ delta_bytes own → (is_own d (meanings g.ops) ≡ true) × (acts_of d ≡ meanings g.ops)
own_compared g d own n e a b h =
    let same = same_delta d own g n e in
    let bytes : delta_bytes d ≡ delta_bytes (with_acts d (meanings g.ops)) = h ∙ ap delta_bytes (sym same) in
    let ops : d.ops ≡ g.ops = (alike d own a b h).ops ∙ ap (λ (z : DeltaOf). z.ops) e in
    ((bytes_decides (delta_bytes d) (delta_bytes (with_acts d (meanings g.ops)))).1 bytes, ap meanings ops)

pub other_compared : (g : InFlight) (d own : DeltaOf) → AreNormal g.ops → own ≡ record { id = d.id; from = d.from; time = d.time; ops = g.ops } → (delta_bytes d ≡ delta_bytes own → ⊥) → is_own d (meanings g.ops) ≡ false
other_compared g d own n e h = go (is_own d (meanings g.ops)) refl
  where
    go : (b : Bool) → is_own d (meanings g.ops) ≡ b → b ≡ false
    go false q = refl
    go true q = absurd (h ((bytes_decides (delta_bytes d) (delta_bytes (with_acts d (meanings g.ops)))).0 q ∙ ap delta_bytes (same_delta d own g n e)))

pub compared : (p : Parts) (g : InFlight) (d : DeltaOf) (m : Meeting) → p.flight ≡ Some g → same_id d.id g.sent.id ≡ true → IsComparison g d m → IsMeeting (follower_of p) d m
compared p g d m e i h = go m h
  where
    f : FollowerOf
    f = follower_of p

    at : f.flight ≡ Some (flight_of g)
    at = ap (option_map flight_of) e

    found : receive_flight f d f.flight ≡ receive_own f d (flight_of g) (is_own d (meanings g.ops))
    found = ap (receive_flight f d) at ∙ ap (receive_id f d (flight_of g)) i

    go : (m : Meeting) → IsComparison g d m → IsMeeting f d m
    go Other k = absurd k
    go Own k = (found ∙ ap (receive_own f d (flight_of g)) k.0, (flight_of g, at, k.1))
    go (Clash mine theirs) k = found ∙ ap (receive_own f d (flight_of g)) k.0 ∙ (λ j. (OtherFlight (sym k.1 j) (sym k.2 j), f))

pub met_none : (p : Parts) (d : DeltaOf) → p.flight ≡ None → IsMeeting (follower_of p) d Other
met_none p d e = ap (λ z. receive_flight (follower_of p) d (option_map flight_of z)) e

pub met_other : (p : Parts) (g : InFlight) (d : DeltaOf) → p.flight ≡ Some g → same_id d.id g.sent.id ≡ false → IsMeeting (follower_of p) d Other
met_other p g d e i = ap (λ z. receive_flight (follower_of p) d (option_map flight_of z)) e ∙ ap (receive_id (follower_of p) d (flight_of g)) i
