-- A sound follower advances by a delta that starts where it is.
--     ops_back              operations in normal form are those of their acts
--     IsAdvance, advance_is     what the follower becomes
--     advances
use Rattle.std.proofs.Common.{◌≡◌, ℕ, ◌+◌, ◌≤◌, Bool, true, false, ◌&&◌, nat_le, nat_lt, List, [], ◌∷◌, ◌++◌, length, Option, None, Some, refl, sym, ap, subst, ◌∙◌, arith, option_and_then}
use Rattle.std.specs.Cmp.Lexicographic.{bytes_decides}
use Rattle.std.proofs.lemmas.Bool.{and_parts}
use Rattle.std.proofs.lemmas.Bool.Decides.{nat_tests}
use Rattle.doc_items.specs.Limits.{max_count}
use Rattle.doc_op.proofs.Applying.{no_value, same_Some}
use Rattle.wave_base.specs.Versions.{VersionAt, same_id}
use Rattle.wave_base.proofs.Same.{same_id-is, same_id-refl}
use Rattle.wavelet_op.specs.Acts.{Act, meaning, meanings, inserted, IsNormal, AreNormal}
use Rattle.wavelet_op.specs.Deltas.{DeltaOf}
use Rattle.wavelet_op.specs.States.{run}
use Rattle.wavelet_op.specs.declared.op.WaveletOp.{WaveletOp}
use Rattle.wavelet_op.specs.declared.op.WaveletOp.TheVariants.{NoOp, Add, Remove, Mutate, SetRole}
use Rattle.wavelet_op.proofs.Partial.{and_then_some, both}
use Rattle.wavelet_op.proofs.Passes.{split_first}
use Rattle.wavelet_codec.specs.Spelling.{delta_bytes}
use Rattle.delta_history.specs.Legal.{max_delta}
use Rattle.wavelet_state.specs.Snapshots.{max_inserted}
use Rattle.delta_history.specs.Points.{Point, acts_of, next_point}
use Rattle.delta_history.specs.Verdicts.{op_of, ops_of}
use Rattle.delta_history.proofs.Points.{and_then_is, after_point}
use Rattle.follower_rules.specs.declared.received.Received.TheVariants.{Advanced}
use Rattle.follower_rules.specs.Followers.{Flight, FollowerOf, run_all, inserted_all, flying, pending, screen, moved}
use Rattle.follower_rules.specs.Receiving.{rebase, Over, over, with_acts, is_own, is_within, Answered, advance_with, advance_within, advance_to, advance, receive_other, receive_own, receive_id, receive_flight, receive_hash, receive_gap, receive_old, receive}
use Rattle.follower_rules.specs.Laws.{IsSmall, IsPlace, IsSound, AreOwn, IsMoved, Advances}
use Rattle.follower_rules.proofs.Room.{small_run}
use Rattle.follower_rules.proofs.Rebases.{IsFlown, over_room}
use Rattle.follower_rules.proofs.Sounds.{le_true}

-- ---- operations in normal form

op_back : (o : WaveletOp) → IsNormal o → op_of (meaning o) ≡ o
op_back NoOp h = refl
op_back (Add address) h = refl
op_back (Remove address) h = refl
op_back (Mutate document op) h = ap (Mutate document) (sym h)
op_back (SetRole address old new) h = refl

pub ops_back : (ops : List WaveletOp) → AreNormal ops → ops_of (meanings ops) ≡ ops
ops_back [] h = refl
ops_back (o ∷ ops) h =
    let p = split_first IsNormal o ops h in
    λ i. op_back o p.0 i ∷ ops_back ops p.1 i

pub own_is : (d : DeltaOf) (acts : List Act) → AreNormal d.ops → acts_of d ≡ acts → is_own d acts ≡ true
own_is d acts n e =
    let ops : ops_of acts ≡ d.ops = ap ops_of (sym e) ∙ ops_back d.ops n in
    let same : with_acts d acts ≡ d = λ i. record { id = d.id; from = d.from; time = d.time; ops = ops i } in
    (bytes_decides (delta_bytes d) (delta_bytes (with_acts d acts))).1 (sym (ap delta_bytes same))

-- ---- the point after

not_below : (a b : ℕ) → a ≡ b → nat_lt a b ≡ false
not_below a b h = grind (arith, nat_tests)

pub record IsBounded (q : Point) (d : DeltaOf) : Type 0 where
  pub counted : q.at.version ≤ max_count
  pub held : q.count ≤ max_inserted
  pub short : length (delta_bytes d) ≤ max_delta

pub bounded : (q : Point) (d : DeltaOf) → is_within q d ≡ true → IsBounded q d
bounded q d w =
    let x = and_parts (nat_le q.at.version max_count && nat_le q.count max_inserted) (nat_le (length (delta_bytes d)) max_delta) w in
    let y = and_parts (nat_le q.at.version max_count) (nat_le q.count max_inserted) x.0 in
    record { counted = le_true _ _ y.0; held = le_true _ _ y.1; short = le_true _ _ x.1 }

pub place_after : (p q : Point) (d : DeltaOf) → IsPlace p → next_point p d ≡ Some q → q.count ≤ max_inserted → IsPlace q
place_after p q d h n b =
    let a = after_point p q d n in
    let small = small_run p.count p.state a.state (acts_of d) h.small a.goes in
    record { count = b; small = λ k. subst (λ z. IsSmall q.count z) (sym a.same) (subst (λ z. IsSmall z a.state) (sym a.count) small) k }

-- ---- the answer

pub record IsAdvance (f : FollowerOf) (d : DeltaOf) (q : Point) (r : Answered) : Type 0 where
  pub after : FollowerOf
  pub is : r ≡ (Advanced, after)
  pub here : after.here ≡ q
  pub client : after.client ≡ f.client
  pub next : after.next ≡ f.next
  pub sound : IsSound after
  pub moves : IsMoved f after d
  pub landed : (x : Flight) → f.flight ≡ Some x → d.id ≡ x.sent.id → after.flight ≡ None
  pub waits : (x : Flight) → f.flight ≡ Some x → d.id ≡ x.sent.id → pending after ≡ f.queue
  pub flown : (x : Flight) → f.flight ≡ Some x → (d.id ≡ x.sent.id → ⊥) → IsFlown x (acts_of d) after.flight
  pub none : f.flight ≡ None → after.flight ≡ None

advance_by : (f : FollowerOf) (d : DeltaOf) (q : Point) (o : Option Over) → next_point f.here d ≡ Some q → is_within q d ≡ true → advance f d o ≡ advance_with f d q o
advance_by f d q o n w = ap (advance_to f d o) n ∙ ap (advance_within f d o q) w

-- the flight and the entries pass another's delta
pub record IsPassing (f : FollowerOf) (d : DeltaOf) (q : Point) : Type 0 where
  pub flight : Option Flight
  pub queue : List (List Act)
  pub left : List Act
  pub over : over f.flight f.queue (acts_of d) ≡ Some ((flight, queue), left)
  pub is : receive_other f d ≡ (Advanced, moved f q flight queue)
  pub sound : IsSound (moved f q flight queue)
  pub rebased : rebase (pending f) (acts_of d) ≡ Some (pending (moved f q flight queue), left)
  pub shows : screen (moved f q flight queue) ≡ option_and_then (λ s. run s left) (screen f)
  pub flown : (x : Flight) → f.flight ≡ Some x → IsFlown x (acts_of d) flight
  pub none : f.flight ≡ None → flight ≡ None

pub passing_is : (f : FollowerOf) (d : DeltaOf) (q : Point) → IsSound f → next_point f.here d ≡ Some q → is_within q d ≡ true → IsPassing f d q
passing_is f d q s n w =
    let a = after_point f.here q d n in
    let b = bounded q d w in
    let room : f.here.count + (inserted_all (pending f) + inserted (acts_of d)) ≤ max_count = omega (arith, s.held, b.held, a.count) in
    let o = over_room f.here.count f.here.state f.flight f.queue (acts_of d) a.state s.shown s.place.small room a.goes s.is_shown in
    let g : FollowerOf = moved f q o.flight o.queue in
    let shows : screen g ≡ Some o.end = subst (λ z. run_all z (flying o.flight ++ o.queue) ≡ Some o.end) (sym a.same) o.goes in
    record {
      flight = o.flight;
      queue = o.queue;
      left = o.left;
      over = o.defined;
      is = advance_by f d q (over f.flight f.queue (acts_of d)) n w ∙ ap (advance_with f d q) o.defined;
      sound = record { place = place_after f.here q d s.place n b.held; shown = o.end; is_shown = shows; held = omega (arith, o.small, s.held) };
      rebased = o.rebased;
      shows = shows ∙ sym (and_then_is (screen f) (λ z. run z o.left) s.shown s.is_shown ∙ o.left_goes);
      flown = o.flown;
      none = o.none;
    }

other_is : (f : FollowerOf) (d : DeltaOf) (q : Point) → IsSound f → next_point f.here d ≡ Some q → is_within q d ≡ true → ((x : Flight) → f.flight ≡ Some x → d.id ≡ x.sent.id → ⊥) → IsAdvance f d q (receive_other f d)
other_is f d q s n w not_own =
    let o = passing_is f d q s n w in
    record {
      after = moved f q o.flight o.queue;
      is = o.is;
      here = refl;
      client = refl;
      next = refl;
      sound = o.sound;
      moves = record { own = λ x i p. absurd (not_own x i p); other = λ z. (o.left, o.rebased, o.shows) };
      landed = λ x i p. absurd (not_own x i p);
      waits = λ x i p. absurd (not_own x i p);
      flown = λ x i p. o.flown x i;
      none = o.none;
    }

-- the flight's own delta
pub record IsLanding (f : FollowerOf) (d : DeltaOf) (q : Point) : Type 0 where
  pub is : advance f d (Some ((None, f.queue), [])) ≡ (Advanced, moved f q None f.queue)
  pub sound : IsSound (moved f q None f.queue)
  pub shows : screen (moved f q None f.queue) ≡ screen f

pub landing_is : (f : FollowerOf) (d : DeltaOf) (q : Point) (x : Flight) → IsSound f → next_point f.here d ≡ Some q → is_within q d ≡ true → f.flight ≡ Some x → acts_of d ≡ x.acts → IsLanding f d q
landing_is f d q x s n w e same =
    let a = after_point f.here q d n in
    let b = bounded q d w in
    let all : pending f ≡ x.acts ∷ f.queue = ap (λ m. flying m ++ f.queue) e in
    let ran : run_all f.here.state (x.acts ∷ f.queue) ≡ Some s.shown = subst (λ z. run_all f.here.state z ≡ Some s.shown) all s.is_shown in
    let few : inserted_all (x.acts ∷ f.queue) ≤ max_inserted = subst (λ z. inserted_all z ≤ max_inserted) all s.held in
    let u = and_then_some (run f.here.state x.acts) (λ t. run_all t f.queue) s.shown ran in
    let state : q.state ≡ u.0 = a.same ∙ same_Some (sym a.goes ∙ ap (run f.here.state) same ∙ u.1) in
    let shows : run_all q.state f.queue ≡ Some s.shown = subst (λ t. run_all t f.queue ≡ Some s.shown) (sym state) u.2 in
    record {
      is = advance_by f d q (Some ((None, f.queue), [])) n w;
      sound = record { place = place_after f.here q d s.place n b.held; shown = s.shown; is_shown = shows; held = omega (arith, few) };
      shows = shows ∙ sym s.is_shown;
    }

own_moves : (f : FollowerOf) (d : DeltaOf) (q : Point) (x : Flight) → IsSound f → next_point f.here d ≡ Some q → is_within q d ≡ true → AreNormal d.ops → f.flight ≡ Some x → d.id ≡ x.sent.id → acts_of d ≡ x.acts → IsAdvance f d q (receive_own f d x (is_own d x.acts))
own_moves f d q x s n w normal e i same =
    let o = landing_is f d q x s n w e same in
    record {
      after = moved f q None f.queue;
      is = ap (receive_own f d x) (own_is d x.acts normal same) ∙ o.is;
      here = refl;
      client = refl;
      next = refl;
      sound = o.sound;
      moves = record { own = λ y j p. o.shows; other = λ z. absurd (z x e i) };
      landed = λ y j p. refl;
      waits = λ y j p. refl;
      flown = λ y j p. absurd (p (i ∙ ap (λ (z : Flight). z.sent.id) (same_Some (sym e ∙ j))));
      none = λ j. no_value (sym j ∙ e);
    }

pub advance_is : (f : FollowerOf) (d : DeltaOf) (q : Point) → IsSound f → d.from ≡ f.here.at → next_point f.here d ≡ Some q → is_within q d ≡ true → AreNormal d.ops → AreOwn f d → IsAdvance f d q (receive f d)
advance_is f d q s v n w normal own = subst (IsAdvance f d q) (sym found) (go f.flight refl)
  where
    version : d.from.version ≡ f.here.at.version
    version = ap (λ (z : VersionAt). z.version) v

    found : receive f d ≡ receive_flight f d f.flight
    found =
        ap (receive_old f d) (not_below d.from.version f.here.at.version version)
        ∙ ap (receive_gap f d) (not_below f.here.at.version d.from.version (sym version))
        ∙ ap (receive_hash f d) ((bytes_decides d.from.hash f.here.at.hash).1 (ap (λ (z : VersionAt). z.hash) v))

    by_id : (x : Flight) → f.flight ≡ Some x → (b : Bool) → same_id d.id x.sent.id ≡ b → IsAdvance f d q (receive_id f d x b)
    by_id x e true h =
        let i = same_id-is d.id x.sent.id h in
        own_moves f d q x s n w normal e i (own x e i)
    by_id x e false h = other_is f d q s n w (λ y j p. both (subst (λ (z : Flight). same_id d.id z.sent.id ≡ true) (same_Some (sym j ∙ e)) (subst (λ z. same_id d.id z ≡ true) p (same_id-refl d.id))) h)

    go : (m : Option Flight) → f.flight ≡ m → IsAdvance f d q (receive_flight f d m)
    go None e = other_is f d q s n w (λ x j p. no_value (sym e ∙ j))
    go (Some x) e = by_id x e (same_id d.id x.sent.id) refl

pub advances : Advances
advances f d q s v n w normal own =
    let a = advance_is f d q s v n w normal own in
    record { after = a.after; is = a.is; here = a.here; sound = a.sound; moved = a.moves }
