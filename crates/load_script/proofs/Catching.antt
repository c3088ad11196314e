-- A follower that receives all that it lacks is at the head. What waits is as much as before, and no flight is a new one.
--     IsCaughtUp h f g       g is f at the head of h
--     lacking_is             what it lacks is what is after it
--     catches_up
use Rattle.std.proofs.Common.{◌≡◌, inl, inr, ℕ, suc, ◌<◌, ◌≤◌, Bool, true, false, cond, nat_lt, List, [], ◌∷◌, ◌++◌, length, drop, Option, None, Some, refl, sym, ap, subst, ◌∙◌, arith, append_assoc, append-nil}
use Rattle.std.specs.Option.{option_map}
use Rattle.std.proofs.lemmas.Bool.Decides.{nat_tests}
use Rattle.doc_items.specs.Maps.{Key}
use Rattle.doc_op.proofs.Applying.{no_value, same_Some, mapped}
use Rattle.wave_base.specs.Versions.{VersionAt, same_id}
use Rattle.wave_base.proofs.Same.{same_id-is, same_id-refl}
use Rattle.wavelet_op.specs.Acts.{Act}
use Rattle.wavelet_op.specs.Deltas.{DeltaOf}
use Rattle.wavelet_op.specs.declared.delta.Submission.{Submission}
use Rattle.wavelet_op.proofs.Partial.{and_then_some, both}
use Rattle.delta_history.specs.Legal.{IsLegalFrom, IsLegal}
use Rattle.delta_history.specs.Places.{started_below}
use Rattle.delta_history.specs.Points.{Point, start, acts_of, replay, IsAt}
use Rattle.delta_history.proofs.Chains.{legal_front, legal_after, starts_at}
use Rattle.delta_history.proofs.Points.{replay_more}
use Rattle.follower_rules.specs.Followers.{ClientOf, Flight, FollowerOf, flying, pending}
use Rattle.follower_rules.specs.Receiving.{past, rebase, receive}
use Rattle.follower_rules.proofs.Advances.{IsAdvance}
use Rattle.wave_world.specs.Texts.{AreTextActs}
use Rattle.wave_world.specs.Worlds.{Mem}
use Rattle.wave_world.proofs.Clients.{IsFollower, meets, receive_follower}
use Rattle.wave_world.proofs.Members.{mem_right}
use Rattle.wave_world.proofs.Places.{below, above}
use Rattle.load_script.specs.Exchanges.{lacking, received, caught_up}

-- ---- one delta

rebase_length : (es : List (List Act)) (acts : List Act) (p : List (List Act) × List Act) → rebase es acts ≡ Some p → length p.0 ≡ length es
rebase_length [] acts p e = ap (λ (z : List (List Act) × List Act). length z.0) (sym (same_Some e))
rebase_length (entry ∷ rest) acts p e =
    let m = and_then_some (past entry acts) (λ p. option_map (λ r. (p.0 ∷ r.0, r.1)) (rebase rest p.1)) p e in
    let r = mapped (λ (r : List (List Act) × List Act). (m.0.0 ∷ r.0, r.1)) (rebase rest m.0.1) p m.2 in
    ap (λ (z : List (List Act) × List Act). length z.0) (sym r.gives) ∙ ap suc (rebase_length rest m.0.1 r.value r.had)

-- no flight is a new one
abbrev pub IsOldFlight : FollowerOf → FollowerOf → Type 0
IsOldFlight f g = (y : Flight) → g.flight ≡ Some y → (x : Flight) × (f.flight ≡ Some x) × (y.sent ≡ x.sent)

pub record IsWaiting (f g : FollowerOf) : Type 0 where
  pub queue : length g.queue ≡ length f.queue
  pub flight : IsOldFlight f g

pending_none : (f : FollowerOf) → f.flight ≡ None → pending f ≡ f.queue
pending_none f e = ap (λ m. flying m ++ f.queue) e

pending_some : (f : FollowerOf) (x : Flight) → f.flight ≡ Some x → pending f ≡ x.acts ∷ f.queue
pending_some f x e = ap (λ m. flying m ++ f.queue) e

waits_on : (f : FollowerOf) (d : DeltaOf) (q : Point) → (a : IsAdvance f d q (receive f d)) → IsWaiting f a.after
waits_on f d q a = by_flight f.flight refl
  where
    moved : ((x : Flight) → f.flight ≡ Some x → d.id ≡ x.sent.id → ⊥) → length (pending a.after) ≡ length (pending f)
    moved o = (let z = a.moves.other o in rebase_length (pending f) (acts_of d) (pending a.after, z.0) z.1)

    own : (x : Flight) → f.flight ≡ Some x → d.id ≡ x.sent.id → IsWaiting f a.after
    own x e i =
        let gone = a.landed x e i in
        record { queue = ap length (sym (pending_none a.after gone) ∙ a.waits x e i); flight = λ y r. no_value (sym gone ∙ r) }

    other : (x : Flight) → f.flight ≡ Some x → (d.id ≡ x.sent.id → ⊥) → IsWaiting f a.after
    other x e n =
        let w = a.flown x e n in
        let m = moved (λ y r i. n (i ∙ ap (λ (z : Flight). z.sent.id) (same_Some (sym r ∙ e)))) in
        let now = ap length (pending_some a.after _ w.is) in
        let then = ap length (pending_some f x e) in
        record { queue = omega (arith, m, now, then); flight = λ y r. (x, e, ap (λ (z : Flight). z.sent) (same_Some (sym r ∙ w.is))) }

    by_id : (x : Flight) → f.flight ≡ Some x → (b : Bool) → same_id d.id x.sent.id ≡ b → IsWaiting f a.after
    by_id x e true i = own x e (same_id-is d.id x.sent.id i)
    by_id x e false i = other x e (λ p. both (subst (λ z. same_id d.id z ≡ true) p (same_id-refl d.id)) i)

    by_flight : (m : Option Flight) → f.flight ≡ m → IsWaiting f a.after
    by_flight None e =
        let gone = a.none e in
        record {
          queue = ap length (sym (pending_none a.after gone)) ∙ moved (λ y r i. no_value (sym e ∙ r)) ∙ ap length (pending_none f e);
          flight = λ y r. no_value (sym gone ∙ r);
        }
    by_flight (Some x) e = by_id x e (same_id d.id x.sent.id) refl

-- ---- all deltas

pub record IsCaughtUp (name : Key) (h : List DeltaOf) (f g : FollowerOf) : Type 0 where
  pub here : replay (start name) h ≡ Some g.here
  pub waiting : IsWaiting f g

old_flight : (f m g : FollowerOf) → IsOldFlight f m → IsOldFlight m g → IsOldFlight f g
old_flight f m g a b y e =
    let x = b y e in
    let z = a x.0 x.1 in
    (z.0, z.1, x.2 ∙ z.2)

catches : (name : Key) (h : List DeltaOf) (subs : List Submission) (k : ClientOf) (before behind : List DeltaOf) (f : FollowerOf) → IsLegal name h → ((d : DeltaOf) → Mem d h → AreTextActs (acts_of d)) → before ++ behind ≡ h → replay (start name) before ≡ Some f.here → IsFollower name h subs k f → IsCaughtUp name h f (received f behind)
catches name h subs k before [] f l t w r c = record { here = ap (replay (start name)) (sym w ∙ append-nil before) ∙ r; waiting = record { queue = refl; flight = λ y e. (y, e, refl) } }
catches name h subs k before (d ∷ ds) f l t w r c =
    let l' = legal_after name [] before (d ∷ ds) (subst (λ z. IsLegalFrom name [] z) (sym w) l) in
    let m : Mem d h = subst (λ z. Mem d z) w (mem_right d before (d ∷ ds) (inl refl)) in
    let at : d.from.version ≡ f.here.at.version = ap (λ (z : VersionAt). z.version) (starts_at name before d f.here r l'.0) in
    let x = meets name h subs k f d l m c at in
    let one : (receive f d).1 ≡ x.advance.after = ap (λ z. z.1) x.advance.is in
    let c' : IsFollower name h subs k x.advance.after = subst (IsFollower name h subs k) one (receive_follower name h subs k f d l m (t d m) c) in
    let r' : replay (start name) (before ++ d ∷ []) ≡ Some x.advance.after.here = replay_more (start name) f.here x.at.next.after before d r x.goes ∙ ap Some (sym x.advance.here) in
    let rest = catches name h subs k (before ++ d ∷ []) ds x.advance.after l t (append_assoc before (d ∷ []) ds ∙ w) r' c' in
    let first = waits_on f d x.at.next.after x.advance in
    subst (λ z. IsCaughtUp name h f (received z ds)) (sym one) (record { here = rest.here; waiting = record { queue = rest.waiting.queue ∙ first.queue; flight = old_flight f x.advance.after (received x.advance.after ds) first.flight rest.waiting.flight } })

-- ---- what is lacking

lt_true : (a b : ℕ) → a < b → nat_lt a b ≡ true
lt_true a b h = grind (arith, nat_tests)

lt_false : (a b : ℕ) → b ≤ a → nat_lt a b ≡ false
lt_false a b h = grind (arith, nat_tests)

none_below : (v : ℕ) (ds : List DeltaOf) → ((d : DeltaOf) → Mem d ds → v ≤ d.from.version) → started_below v ds ≡ 0
none_below v [] h = refl
none_below v (d ∷ ds) h = ap (λ b. cond b (suc (started_below v ds)) 0) (lt_false d.from.version v (h d (inl refl)))

all_below : (v : ℕ) (xs ys : List DeltaOf) → ((d : DeltaOf) → Mem d xs → d.from.version < v) → ((d : DeltaOf) → Mem d ys → v ≤ d.from.version) → drop (started_below v (xs ++ ys)) (xs ++ ys) ≡ ys
all_below v [] ys h k = ap (λ n. drop n ys) (none_below v ys k)
all_below v (x ∷ xs) ys h k = ap (λ b. drop (cond b (suc (started_below v (xs ++ ys))) 0) (x ∷ (xs ++ ys))) (lt_true x.from.version v (h x (inl refl))) ∙ all_below v xs ys (λ d m. h d (inr m)) k

lacking_is : (name : Key) (h : List DeltaOf) (p : Point) → IsLegal name h → (a : IsAt name h p) → lacking h p.at.version ≡ a.behind
lacking_is name h p l a =
    let l' : IsLegalFrom name [] (a.before ++ a.behind) = subst (λ z. IsLegalFrom name [] z) (sym a.whole) l in
    let low = below name [] a.before (start name) p (legal_front name [] a.before a.behind l') refl a.leads in
    let high = above name a.before a.behind p (legal_after name [] a.before a.behind l') a.leads in
    subst (λ z. drop (started_below p.at.version z) z ≡ a.behind) a.whole (all_below p.at.version a.before a.behind low high)

pub catches_up : (name : Key) (h : List DeltaOf) (subs : List Submission) (k : ClientOf) (f : FollowerOf) → IsLegal name h → ((d : DeltaOf) → Mem d h → AreTextActs (acts_of d)) → IsFollower name h subs k f → IsCaughtUp name h f (caught_up h f)
unfolding caught_up
catches_up name h subs k f l t c = subst (λ z. IsCaughtUp name h f (received f z)) (sym (lacking_is name h f.here l c.here)) (catches name h subs k c.here.before c.here.behind f l t c.here.whole c.here.leads c)
