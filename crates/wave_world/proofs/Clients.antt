-- Each event keeps what holds of a follower.
--     IsFollower            what holds of it
--     place_at              a point of a legal history has no more items than were inserted
--     starts_follower .. receive_follower     a start, an edit, a drop, an answer, a snapshot, a submission, a delta
--     other_follower, grow_follower     another's submission is pooled; the host's history grows
use Rattle.std.proofs.Common.{◌≡◌, inl, inr, ℕ, suc, ◌<◌, ◌≤◌, Bool, true, false, cond, ◌==◌, nat_le, nat_lt, List, [], ◌∷◌, ◌++◌, Option, Some, None, Ok, refl, sym, ap, subst, ◌∙◌, arith, append_assoc}
use Rattle.std.specs.Cmp.Lexicographic.{bytes_decides}
use Rattle.std.proofs.lemmas.Bool.{and_parts, and_from}
use Rattle.std.proofs.lemmas.Bool.Decides.{nat_tests, Decides-eqb}
use Rattle.doc_items.specs.Maps.{Key, same_text}
use Rattle.doc_op.proofs.Applying.{no_value, same_Some}
use Rattle.wave_base.specs.Versions.{IdOf, VersionAt, same_id}
use Rattle.wave_base.proofs.Same.{same_id-is, same_id-refl}
use Rattle.wavelet_op.specs.Acts.{Act, meanings}
use Rattle.wavelet_op.specs.Deltas.{DeltaOf}
use Rattle.wavelet_op.specs.States.{State, run}
use Rattle.wavelet_op.specs.declared.delta.Submission.{Submission}
use Rattle.wavelet_op.proofs.Partial.{and_then_some, both}
use Rattle.delta_history.specs.Laws.{IsSpelled}
use Rattle.delta_history.specs.Legal.{IsNext, IsLegalFrom, IsLegal}
use Rattle.delta_history.specs.Passing.{IsPassed}
use Rattle.delta_history.specs.Points.{Point, start, acts_of, next_point, replay, IsAt}
use Rattle.delta_history.proofs.Chains.{legal_front, starts_at, goes_from}
use Rattle.delta_history.proofs.Points.{and_then_is, replay_append, replay_more, rises}
use Rattle.delta_history.proofs.Versions.{pass_is}
use Rattle.follower_rules.specs.Followers.{ClientOf, client_of, same_client, Flight, FollowerOf, new_follower, run_all, flying, pending, dropped, refuse_if, refuse_flight, refuse, take_newer, take_settled, take_snapshot}
use Rattle.follower_rules.specs.Laws.{IsPlace, IsSound, AreOwn}
use Rattle.follower_rules.specs.Receiving.{is_within, receive_gap, receive_old, receive}
use Rattle.follower_rules.specs.Submitting.{queued, edit, sent_by, submitting}
use Rattle.follower_rules.proofs.Advances.{IsAdvance, advance_is, place_after}
use Rattle.follower_rules.proofs.Gathers.{IsGathered, gathered, IsSubmitting, submitting_is_sound}
use Rattle.follower_rules.proofs.Sounds.{new_is_sound, edit_is_sound, edited_is, dropped_is_sound}
use Rattle.wave_world.specs.Texts.{AreTextActs, AreTextEntries}
use Rattle.wave_world.specs.Worlds.{Mem, Answer, is_refusal, take_answer}
use Rattle.wave_world.proofs.Members.{mem_more, mem_last}
use Rattle.wave_world.proofs.Passages.{text_spelled, entries_append, rebase_text, gather_text}
use Rattle.wave_world.proofs.Places.{IsHere, find_here, next_at, at_more, IsBased, IsFrom, IsFlying, passed_more, based_more, from_more, from_sent, passed_on, fresh_on}

-- ---- clients

pub client_same : (a b : ClientOf) → same_client a b ≡ true → a ≡ b
client_same a b h =
    let x = and_parts (same_text a.author b.author) (a.client == b.client) h in
    let p = (bytes_decides a.author b.author).0 x.0 in
    let q = (Decides-eqb a.client b.client).0 x.1 in
    λ i. record { author = p i; client = q i }

pub same_client_is : (a b : ClientOf) → a ≡ b → same_client a b ≡ true
same_client_is a b e = and_from _ _ ((bytes_decides a.author b.author).1 (ap (λ (x : ClientOf). x.author) e)) ((Decides-eqb a.client b.client).1 (ap (λ (x : ClientOf). x.client) e))

pub record IsFollower (name : Key) (h : List DeltaOf) (subs : List Submission) (k : ClientOf) (f : FollowerOf) : Type 0 where
  pub once : (s t : Submission) → Mem s subs → Mem t subs → client_of s.id ≡ k → client_of t.id ≡ k → s.id.number ≡ t.id.number → s ≡ t
  pub numbers : (s : Submission) → Mem s subs → client_of s.id ≡ k → s.id.number < f.next
  pub based : (s : Submission) → Mem s subs → client_of s.id ≡ k → IsBased name h s
  pub own : (d : DeltaOf) → Mem d h → client_of d.id ≡ k → IsFrom name h subs d
  pub here : IsAt name h f.here
  pub flight : (g : Flight) → f.flight ≡ Some g → IsFlying name h subs k f.here g
  pub sound : IsSound f
  pub client : f.client ≡ k
  pub text : AreTextEntries (pending f)

-- ---- points

place_from : (name : Key) (b xs : List DeltaOf) (p q : Point) → IsLegalFrom name b xs → replay (start name) b ≡ Some p → IsPlace p → replay p xs ≡ Some q → IsPlace q
place_from name b [] p q l e h r = subst IsPlace (same_Some r) h
place_from name b (x ∷ xs) p q l e h r =
    let n = l.0 in
    let z = goes_from name b x p e n in
    let rest : replay n.after xs ≡ Some q = sym (and_then_is (next_point p x) (λ y. replay y xs) n.after z) ∙ r in
    place_from name (b ++ x ∷ []) xs n.after q l.1 (replay_more (start name) p n.after b x e z) (place_after p n.after x h z n.held) rest

pub place_at : (name : Key) (h : List DeltaOf) (p : Point) → IsLegal name h → IsAt name h p → IsPlace p
place_at name h p l a =
    let l' = legal_front name [] a.before a.behind (subst (λ z. IsLegalFrom name [] z) (sym a.whole) l) in
    let k : ClientOf = record { author = []; client = 0 } in
    place_from name [] a.before (start name) p l' refl (new_is_sound name k).place a.leads

-- ---- a start, an edit, a drop

pub starts_follower : (name : Key) (h : List DeltaOf) (subs : List Submission) (k : ClientOf) → ((s : Submission) → Mem s subs → client_of s.id ≡ k → ⊥) → ((d : DeltaOf) → Mem d h → (s : Submission) × Mem s subs × (s.id ≡ d.id)) → IsFollower name h subs k (new_follower name k)
starts_follower name h subs k none sources = record {
  once = λ s t m n p q e. absurd (none s m p);
  numbers = λ s m p. absurd (none s m p);
  based = λ s m p. absurd (none s m p);
  own = λ d m p. (let s = sources d m in absurd (none s.0 s.1 (ap client_of s.2 ∙ p)));
  here = record { before = []; behind = h; whole = refl; leads = refl };
  flight = λ g e. no_value e;
  sound = new_is_sound name k;
  client = refl;
  text = tt;
}

pub edit_follower : (name : Key) (h : List DeltaOf) (subs : List Submission) (k : ClientOf) (f g : FollowerOf) (acts : List Act) → AreTextActs acts → IsFollower name h subs k f → edit f acts ≡ Ok g → IsFollower name h subs k g
edit_follower name h subs k f g acts t c e =
    let is : queued f acts ≡ g = edited_is f g acts e in
    let sound : IsSound (queued f acts) = subst IsSound (sym is) (edit_is_sound f g acts c.sound e).0 in
    let text : AreTextEntries (pending (queued f acts)) = subst AreTextEntries (append_assoc (flying f.flight) f.queue (acts ∷ [])) (entries_append (pending f) (acts ∷ []) c.text (t, tt)) in
    subst (IsFollower name h subs k) is (record { once = c.once; numbers = c.numbers; based = c.based; own = c.own; here = c.here; flight = c.flight; sound = sound; client = c.client; text = text })

pub drop_follower : (name : Key) (h : List DeltaOf) (subs : List Submission) (k : ClientOf) (f : FollowerOf) → IsFollower name h subs k f → IsFollower name h subs k (dropped f)
drop_follower name h subs k f c = record {
  once = c.once;
  numbers = c.numbers;
  based = c.based;
  own = c.own;
  here = c.here;
  flight = λ g e. no_value e;
  sound = dropped_is_sound f c.sound;
  client = c.client;
  text = tt;
}

-- ---- an answer

pub answer_follower : (name : Key) (h : List DeltaOf) (subs : List Submission) (k : ClientOf) (f : FollowerOf) (a : Answer) → IsFollower name h subs k f → IsFollower name h subs k (take_answer f a)
answer_follower name h subs k f a c = go (is_refusal a.verdict)
  where
    dropping : (b : Bool) → IsFollower name h subs k (refuse_if f b).1
    dropping false = c
    dropping true = drop_follower name h subs k f c

    flies : (m : Option Flight) → IsFollower name h subs k (refuse_flight f a.id m).1
    flies None = c
    flies (Some g) = dropping (same_id a.id g.sent.id)

    go : (b : Bool) → IsFollower name h subs k (cond b (refuse f a.id).1 f)
    go false = c
    go true = flies f.flight

-- ---- a snapshot

pub snapshot_follower : (name : Key) (h : List DeltaOf) (subs : List Submission) (k : ClientOf) (f : FollowerOf) (p : Point) → IsLegal name h → IsAt name h p → IsFollower name h subs k f → IsFollower name h subs k (take_snapshot f p).1
snapshot_follower name h subs k f p l at c = go (pending f) refl
  where
    none : pending f ≡ [] → (g : Flight) → f.flight ≡ Some g → ⊥
    none e g q = (let z : (g.acts ∷ f.queue) ≡ [] = sym (ap (λ m. flying m ++ f.queue) q) ∙ e in absurd (cc))

    newer : pending f ≡ [] → (b : Bool) → IsFollower name h subs k (take_newer f p b).1
    newer e false = c
    newer e true = record {
      once = c.once;
      numbers = c.numbers;
      based = c.based;
      own = c.own;
      here = at;
      flight = λ g q. absurd (none e g q);
      sound = record { place = place_at name h p l at; shown = p.state; is_shown = ap (run_all p.state) e; held = c.sound.held };
      client = c.client;
      text = c.text;
    }

    go : (es : List (List Act)) → pending f ≡ es → IsFollower name h subs k (take_settled f p es).1
    go (x ∷ xs) e = c
    go [] e = newer e (nat_lt f.here.at.version p.at.version)

-- ---- a submission

-- one of another client is pooled
pub other_follower : (name : Key) (h : List DeltaOf) (subs : List Submission) (k : ClientOf) (f : FollowerOf) (s : Submission) → (client_of s.id ≡ k → ⊥) → IsFollower name h subs k f → IsFollower name h (s ∷ subs) k f
other_follower name h subs k f s other c = record {
  once = λ x y m n p q e. c.once x y (mine x m p) (mine y n q) p q e;
  numbers = λ x m p. c.numbers x (mine x m p) p;
  based = λ x m p. c.based x (mine x m p) p;
  own = λ d m p. from_sent name h s subs d (c.own d m p);
  here = c.here;
  flight = λ g e. (let z = c.flight g e in record { is_sent = inr z.is_sent; own = z.own; fresh = z.fresh; passed = z.passed });
  sound = c.sound;
  client = c.client;
  text = c.text;
}
  where
    mine : (x : Submission) → Mem x (s ∷ subs) → client_of x.id ≡ k → Mem x subs
    mine x (inl e) p = absurd (other (ap (λ (z : Submission). client_of z.id) (sym e) ∙ p))
    mine x (inr m) p = m

pub submit_follower : (name : Key) (h : List DeltaOf) (subs : List Submission) (k : ClientOf) (f g : FollowerOf) (o : Option Submission) → IsFollower name h subs k f → (x : IsSubmitting f o g) → IsFollower name h (sent_by f x.taken.0 ∷ subs) k g
submit_follower name h subs k f g o c x = subst (IsFollower name h (s ∷ subs) k) (sym x.is_after) (record {
  once = once;
  numbers = numbers;
  based = λ y m p. mem_more (λ z. client_of z.id ≡ k → IsBased name h z) s subs (λ p'. based) (λ z n p'. c.based z n p') y m p;
  own = λ d m p. from_sent name h s subs d (c.own d m p);
  here = c.here;
  flight = λ y e. subst (IsFlying name h (s ∷ subs) k f.here) (same_Some e) flies;
  sound = (submitting_is_sound f (submitting f x.taken) o c.sound again).sound;
  client = c.client;
  text = text;
})
  where
    s : Submission
    s = sent_by f x.taken.0

    mine : client_of s.id ≡ k
    mine = c.client

    again : IsSubmitting f o (submitting f x.taken)
    again = record { entry = x.entry; rest = x.rest; taken = x.taken; none = x.none; is_queue = x.is_queue; is_taken = x.is_taken; numbered = x.numbered; is_sent = x.is_sent; is_after = refl }

    all : pending f ≡ x.entry ∷ x.rest
    all = ap (λ m. flying m ++ f.queue) x.none ∙ x.is_queue

    before : AreTextEntries (x.entry ∷ x.rest)
    before = subst AreTextEntries all c.text

    text : AreTextActs x.taken.0 × AreTextEntries x.taken.1
    text = gather_text x.entry x.rest x.taken before.0 before.1 x.is_taken

    spelled : IsSpelled x.taken.0
    spelled = text_spelled x.taken.0 text.0

    ran : run_all f.here.state (x.entry ∷ x.rest) ≡ Some c.sound.shown
    ran = subst (λ z. run_all f.here.state z ≡ Some c.sound.shown) all c.sound.is_shown

    joined : IsGathered f.here.state c.sound.shown x.entry x.rest x.taken
    joined = gathered f.here.state c.sound.shown x.entry x.rest x.taken ran x.is_taken

    goes : (z : State) × (run f.here.state x.taken.0 ≡ Some z) × (run_all z x.taken.1 ≡ Some c.sound.shown)
    goes = and_then_some (run f.here.state x.taken.0) (λ z. run_all z x.taken.1) c.sound.shown joined.goes

    based : IsBased name h s
    based = record { base = f.here; end = goes.0; is_base = c.here; at_base = refl; valid = ap (run f.here.state) spelled.same ∙ goes.1 }

    numbers : (y : Submission) → Mem y (s ∷ subs) → client_of y.id ≡ k → y.id.number < suc f.next
    numbers y (inl e) p = (let n : y.id.number ≡ f.next = ap (λ (z : Submission). z.id.number) e in omega (arith, n))
    numbers y (inr m) p = omega (arith, c.numbers y m p)

    once : (y z : Submission) → Mem y (s ∷ subs) → Mem z (s ∷ subs) → client_of y.id ≡ k → client_of z.id ≡ k → y.id.number ≡ z.id.number → y ≡ z
    once y z (inl a) (inl b) p q e = a ∙ sym b
    once y z (inl a) (inr n) p q e = (let u : y.id.number ≡ f.next = ap (λ (v : Submission). v.id.number) a in absurd (omega (arith, u, c.numbers z n q, e)))
    once y z (inr m) (inl b) p q e = (let u : z.id.number ≡ f.next = ap (λ (v : Submission). v.id.number) b in absurd (omega (arith, u, c.numbers y m p, e)))
    once y z (inr m) (inr n) p q e = c.once y z m n p q e

    fresh : (d : DeltaOf) → Mem d h → d.from.version < f.here.at.version → d.id ≡ s.id → ⊥
    fresh d m v e =
        let z = c.own d m (ap client_of e ∙ mine) in
        let n : z.sent.id.number < f.next = c.numbers z.sent z.is_sent (ap client_of (z.same ∙ e) ∙ mine) in
        let u : z.sent.id.number ≡ f.next = ap (λ (i : IdOf). i.number) (z.same ∙ e) in
        absurd (omega (arith, u, n))

    flies : IsFlying name h (s ∷ subs) k f.here (record { sent = s; acts = x.taken.0 })
    flies = record {
      is_sent = inl refl;
      own = mine;
      fresh = fresh;
      passed = record { before = c.here.before; between = []; behind = c.here.behind; base = f.here; end = f.here; whole = c.here.whole; is_base = c.here.leads; at_base = refl; is_end = refl; at_end = refl; passed = ap Some spelled.same };
    }

-- ---- a delta

true_le : (a b : ℕ) → a ≤ b → nat_le a b ≡ true
true_le a b h = grind (arith, nat_tests)

same_if_neither : (a b : ℕ) → nat_lt a b ≡ false → nat_lt b a ≡ false → a ≡ b
same_if_neither a b p q = grind (arith, nat_tests)

pub within_next : (name : Key) (b : List DeltaOf) (d : DeltaOf) (n : IsNext name b d) → is_within n.after d ≡ true
within_next name b d n = and_from _ _ (and_from _ _ (true_le _ _ n.counted) (true_le _ _ n.held)) (true_le _ _ n.short)

-- two passes of one submission give the same
pub one_passed : (name : Key) (h : List DeltaOf) (b e : VersionAt) (acts x y : List Act) → IsLegal name h → IsPassed name h b e acts x → IsPassed name h b e acts y → x ≡ y
one_passed name h b e acts x y l p q = same_Some (sym (pass_is name h b e acts x l p) ∙ pass_is name h b e acts y l q)

-- the flight's own delta has the flight's acts
pub own_acts : (name : Key) (h : List DeltaOf) (subs : List Submission) (k : ClientOf) (f : FollowerOf) (d : DeltaOf) → IsLegal name h → Mem d h → IsFollower name h subs k f → d.from ≡ f.here.at → AreOwn f d
own_acts name h subs k f d l m c v x e i =
    let y = c.flight x e in
    let z = c.own d m (ap client_of i ∙ y.own) in
    let same : z.sent ≡ x.sent = c.once z.sent x.sent z.is_sent y.is_sent (ap client_of (z.same ∙ i) ∙ y.own) y.own (ap (λ (a : IdOf). a.number) (z.same ∙ i)) in
    one_passed name h x.sent.at f.here.at (meanings x.sent.ops) (acts_of d) x.acts l (subst (λ t. IsPassed name h x.sent.at t (meanings x.sent.ops) (acts_of d)) v (subst (λ (t : Submission). IsPassed name h t.at d.from (meanings t.ops) (acts_of d)) same z.passed)) y.passed

-- what is known where a delta of the history starts at the follower's version
pub record IsMet (name : Key) (h : List DeltaOf) (f : FollowerOf) (d : DeltaOf) : Type 0 where
  pub at : IsHere name h f.here d
  pub starts : d.from ≡ f.here.at
  pub goes : next_point f.here d ≡ Some at.next.after
  pub advance : IsAdvance f d at.next.after (receive f d)

pub meets : (name : Key) (h : List DeltaOf) (subs : List Submission) (k : ClientOf) (f : FollowerOf) (d : DeltaOf) → IsLegal name h → Mem d h → IsFollower name h subs k f → d.from.version ≡ f.here.at.version → IsMet name h f d
meets name h subs k f d l m c e =
    let at = find_here name h f.here d l c.here m e in
    let v = starts_at name at.before d f.here at.leads at.next in
    let n = goes_from name at.before d f.here at.leads at.next in
    record { at = at; starts = v; goes = n; advance = advance_is f d at.next.after c.sound v n (within_next name at.before d at.next) at.next.normal (own_acts name h subs k f d l m c v) }

advanced : (name : Key) (h : List DeltaOf) (subs : List Submission) (k : ClientOf) (f : FollowerOf) (d : DeltaOf) → IsLegal name h → Mem d h → AreTextActs (acts_of d) → IsFollower name h subs k f → (x : IsMet name h f d) → IsFollower name h subs k x.advance.after
advanced name h subs k f d l m t c x = record {
  once = c.once;
  numbers = λ s n p. subst (λ z. s.id.number < z) (sym a.next) (c.numbers s n p);
  based = c.based;
  own = c.own;
  here = subst (IsAt name h) (sym a.here) (next_at name h f.here q d x.at x.goes);
  flight = λ g e. subst (λ z. IsFlying name h subs k z g) (sym a.here) (flies f.flight refl g e);
  sound = a.sound;
  client = a.client ∙ c.client;
  text = text f.flight refl;
}
  where
    q : Point
    q = x.at.next.after

    a : IsAdvance f d q (receive f d)
    a = x.advance

    passing : (y : Flight) → f.flight ≡ Some y → (d.id ≡ y.sent.id → ⊥) → (g : Flight) → a.after.flight ≡ Some g → IsFlying name h subs k q g
    passing y e other g r =
        let old = c.flight y e in
        let w = a.flown y e other in
        let now : Flight = record { sent = y.sent; acts = w.passed.0 } in
        let new : IsFlying name h subs k q now = record {
          is_sent = old.is_sent;
          own = old.own;
          fresh = fresh_on name h f.here q d y.sent.id l x.at x.goes other old.fresh;
          passed = passed_on name h y.sent.at f.here q d (meanings y.sent.ops) y.acts w.passed l m x.starts x.goes old.passed w.exactly;
        } in
        subst (IsFlying name h subs k q) (same_Some (sym w.is ∙ r)) new

    by_id : (y : Flight) → f.flight ≡ Some y → (b : Bool) → same_id d.id y.sent.id ≡ b → (g : Flight) → a.after.flight ≡ Some g → IsFlying name h subs k q g
    by_id y e true i g r = no_value (sym (a.landed y e (same_id-is d.id y.sent.id i)) ∙ r)
    by_id y e false i g r = passing y e (λ p. both (subst (λ z. same_id d.id z ≡ true) p (same_id-refl d.id)) i) g r

    flies : (o : Option Flight) → f.flight ≡ o → (g : Flight) → a.after.flight ≡ Some g → IsFlying name h subs k q g
    flies None e g r = no_value (sym (a.none e) ∙ r)
    flies (Some y) e g r = by_id y e (same_id d.id y.sent.id) refl g r

    others : ((y : Flight) → f.flight ≡ Some y → d.id ≡ y.sent.id → ⊥) → AreTextEntries (pending a.after)
    others o = (let z = a.moves.other o in rebase_text (pending f) (acts_of d) (pending a.after, z.0) c.text t z.1)

    waiting : (y : Flight) → f.flight ≡ Some y → AreTextEntries f.queue
    waiting y e = (subst (λ m. AreTextEntries (flying m ++ f.queue)) e c.text).1

    text_by_id : (y : Flight) → f.flight ≡ Some y → (b : Bool) → same_id d.id y.sent.id ≡ b → AreTextEntries (pending a.after)
    text_by_id y e true i = subst AreTextEntries (sym (a.waits y e (same_id-is d.id y.sent.id i))) (waiting y e)
    text_by_id y e false i = others (λ z j p. both (subst (λ (u : Flight). same_id d.id u.sent.id ≡ true) (same_Some (sym j ∙ e)) (subst (λ u. same_id d.id u ≡ true) p (same_id-refl d.id))) i)

    text : (o : Option Flight) → f.flight ≡ o → AreTextEntries (pending a.after)
    text None e = others (λ y j p. no_value (sym e ∙ j))
    text (Some y) e = text_by_id y e (same_id d.id y.sent.id) refl

pub receive_follower : (name : Key) (h : List DeltaOf) (subs : List Submission) (k : ClientOf) (f : FollowerOf) (d : DeltaOf) → IsLegal name h → Mem d h → AreTextActs (acts_of d) → IsFollower name h subs k f → IsFollower name h subs k (receive f d).1
receive_follower name h subs k f d l m t c = go (nat_lt d.from.version f.here.at.version) refl (nat_lt f.here.at.version d.from.version) refl
  where
    go : (a : Bool) → nat_lt d.from.version f.here.at.version ≡ a → (b : Bool) → nat_lt f.here.at.version d.from.version ≡ b → IsFollower name h subs k (receive f d).1
    go true p b q = subst (λ z. IsFollower name h subs k (receive_old f d z).1) (sym p) c
    go false p true q = subst (λ z. IsFollower name h subs k (receive_old f d z).1) (sym p) (subst (λ z. IsFollower name h subs k (receive_gap f d z).1) (sym q) c)
    go false p false q =
        let x = meets name h subs k f d l m c (same_if_neither _ _ p q) in
        subst (λ z. IsFollower name h subs k z.1) (sym x.advance.is) (advanced name h subs k f d l m t c x)

-- ---- the host's history grows

pub grow_follower : (name : Key) (h : List DeltaOf) (subs : List Submission) (k : ClientOf) (f : FollowerOf) (d : DeltaOf) → IsNext name h d → IsFrom name (h ++ d ∷ []) subs d → IsFollower name h subs k f → IsFollower name (h ++ d ∷ []) subs k f
grow_follower name h subs k f d n from c = record {
  once = c.once;
  numbers = c.numbers;
  based = λ s m p. based_more name h d s (c.based s m p);
  own = mem_last (λ e. client_of e.id ≡ k → IsFrom name (h ++ d ∷ []) subs e) d h (λ p. from) (λ e m p. from_more name h subs d e (c.own e m p));
  here = at_more name h d f.here c.here;
  flight = λ g e. flies g (c.flight g e);
  sound = c.sound;
  client = c.client;
  text = c.text;
}
  where
    high : f.here.at.version ≤ d.from.version
    high =
        let e : replay (start name) (c.here.before ++ c.here.behind) ≡ Some n.here = subst (λ z. replay (start name) z ≡ Some n.here) (sym c.here.whole) n.is_head in
        let r : replay f.here c.here.behind ≡ Some n.here = sym (replay_append (start name) c.here.before c.here.behind ∙ and_then_is (replay (start name) c.here.before) (λ z. replay z c.here.behind) f.here c.here.leads) ∙ e in
        let v : d.from.version ≡ n.here.at.version = ap (λ (z : VersionAt). z.version) n.starts in
        omega (arith, rises f.here n.here c.here.behind r, v)

    flies : (g : Flight) → IsFlying name h subs k f.here g → IsFlying name (h ++ d ∷ []) subs k f.here g
    flies g y = record {
      is_sent = y.is_sent;
      own = y.own;
      fresh = mem_last (λ e. e.from.version < f.here.at.version → e.id ≡ g.sent.id → ⊥) d h (λ v i. absurd (omega (arith, high, v))) y.fresh;
      passed = passed_more name h d g.sent.at f.here.at (meanings g.sent.ops) g.acts y.passed;
    }
