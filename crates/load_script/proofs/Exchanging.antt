-- An exchange takes a follower to the head, with less that waits; so many of them settle it.
--     IsIdle n f             nothing is in flight, and at most n entries wait
--     IsExchanged w k n c    what holds after an exchange
--     level_leads, exchange_leads
--     IsSettling, settling_leads
use Rattle.std.proofs.Common.{◌≡◌, inl, inr, ℕ, zero, suc, ◌-◌, ◌≤◌, Bool, true, false, cond, nat_le, List, [], ◌∷◌, ◌++◌, length, take, drop, Option, None, Some, Ok, Err, refl, sym, ap, subst, ◌∙◌, arith}
use Rattle.std.specs.Option.{option_map_or}
use Rattle.std.proofs.lemmas.List.{take-append-drop}
use Rattle.doc_items.specs.Limits.{max_count}
use Rattle.doc_op.proofs.Applying.{no_value, same_Some, mapped}
use Rattle.wave_base.specs.Versions.{VersionAt, same_id}
use Rattle.wave_base.proofs.Same.{same_id-refl}
use Rattle.wavelet_op.specs.Acts.{Act}
use Rattle.wavelet_op.specs.Deltas.{DeltaOf}
use Rattle.wavelet_op.specs.declared.delta.Submission.{Submission}
use Rattle.wavelet_op.specs.declared.verdict.Verdict.{Verdict}
use Rattle.wavelet_op.specs.declared.verdict.Verdict.TheVariants.{Ack, NotParticipant, ReadOnly, UnknownVersion, WrongHash, Invalid, Full}
use Rattle.delta_history.specs.Laws.{IsJudged}
use Rattle.delta_history.specs.Legal.{IsLegal}
use Rattle.delta_history.specs.Places.{started_below}
use Rattle.delta_history.specs.Points.{start, replay}
use Rattle.delta_history.specs.Verdicts.{judge}
use Rattle.follower_rules.specs.declared.fault.FollowerFault.TheVariants.{TooBig, NumbersSpent}
use Rattle.follower_rules.specs.Followers.{ClientOf, Flight, FollowerOf, flying, pending, dropped, refuse_if}
use Rattle.follower_rules.specs.Submitting.{Gathered, fitting, gather_on, gather, sent_by, submitting, take_numbered, take_gathered, take_queued, take_unless, Submitted, submit}
use Rattle.client_control.specs.Parts.{settled}
use Rattle.wave_world.specs.Worlds.{Mem, World, grown, take_answer}
use Rattle.wave_world.proofs.Events.{IsGood}
use Rattle.wave_world.proofs.Members.{mem_right}
use Rattle.wave_world.proofs.Places.{below}
use Rattle.load_script.specs.Exchanges.{Meeting, meeting, lacking, caught_up, submitted, level, exchanged, settling}
use Rattle.load_script.specs.Names.{the_wavelet}
use Rattle.load_script.proofs.Catching.{IsCaughtUp, catches_up}
use Rattle.load_script.proofs.Events.{IsPooled, Leads, stays, on_to, drop_leads, receive_leads, answer_to, submit_leads}

pub record IsIdle (n : ℕ) (f : FollowerOf) : Type 0 where
  pub none : f.flight ≡ None
  pub few : length f.queue ≤ n

-- ---- what a follower lacks

mem_drop : {A : Type 0} (n : ℕ) (xs : List A) (x : A) → Mem x (drop n xs) → Mem x xs
mem_drop n xs x m = subst (λ z. Mem x z) (take-append-drop n xs) (mem_right x (take n xs) (drop n xs) m)

pub level_leads : (w : World) (k : ClientOf) (f : FollowerOf) → IsGood the_wavelet w → IsPooled w → w.followers k ≡ Some f → Leads the_wavelet w k w.host (caught_up w.host f)
unfolding caught_up
level_leads w k f i p e = receive_leads the_wavelet w k f (lacking w.host f.here.at.version) i p e (λ d m. mem_drop (started_below f.here.at.version w.host) w.host d m)

pub caught : (w : World) (k : ClientOf) (f : FollowerOf) → IsGood the_wavelet w → w.followers k ≡ Some f → IsCaughtUp the_wavelet w.host f (caught_up w.host f)
caught w k f i e = catches_up the_wavelet w.host w.submissions k f i.legal i.text (i.followers k f e)

-- ---- a submission

-- no more than n entries wait, and the history has the flight, if there is one
record IsHanded (n : ℕ) (h : List DeltaOf) (f : FollowerOf) : Type 0 where
  few : length f.queue ≤ n
  landed : (y : Flight) → f.flight ≡ Some y → (d : DeltaOf) × Mem d h × (d.id ≡ y.sent.id)

record IsSubmitted (w : World) (k : ClientOf) (n : ℕ) (c : Meeting) : Type 0 where
  leads : Leads the_wavelet w k c.host c.follower
  handed : IsHanded n c.host c.follower

gather_on_length : (raw acts : List Act) (rest : List (List Act)) → length (gather_on raw acts rest).1 ≤ length rest
gather_on_length raw acts [] = omega arith
gather_on_length raw acts (entry ∷ rest) = go (fitting (raw ++ entry)) (λ more. gather_on_length (raw ++ entry) more rest)
  where
    go : (o : Option (List Act)) → ((more : List Act) → length (gather_on (raw ++ entry) more rest).1 ≤ length rest) → length (option_map_or (λ more. gather_on (raw ++ entry) more rest) o (acts, entry ∷ rest)).1 ≤ length (entry ∷ rest)
    go None h = omega arith
    go (Some more) h = omega (arith, h more)

gather_length : (entry : List Act) (rest : List (List Act)) (g : Gathered) → gather entry rest ≡ Some g → length g.1 ≤ length rest
gather_length entry rest g e =
    let m = mapped (λ acts. gather_on entry acts rest) (fitting entry) g e in
    subst (λ (z : Gathered). length z.1 ≤ length rest) m.gives (gather_on_length entry m.value rest)

dropped_handed : (n : ℕ) (h : List DeltaOf) (f : FollowerOf) → IsHanded n h (dropped f)
dropped_handed n h f = record { few = omega arith; landed = λ y e. no_value e }

-- the history has a submission that was acknowledged
acked_there : (h : List DeltaOf) (s : Submission) (v : Verdict) (m : Option DeltaOf) (at : ℕ) (to : VersionAt) → v ≡ Ack at to → IsJudged the_wavelet h s (v, m) → (d : DeltaOf) × Mem d (grown h m) × (d.id ≡ s.id)
acked_there h s v None at to e (inl x) = (let k = x.1 at to e in (k.delta, subst (λ z. Mem k.delta z) k.whole (mem_right k.delta k.before (k.delta ∷ k.behind) (inl refl)), k.is_id))
acked_there h s v None at to e (inr x) = no_value x.1
acked_there h s v (Some d) at to e (inl x) = no_value (sym x.0)
acked_there h s v (Some d) at to e (inr x) = (d, mem_right d h (d ∷ []) (inl refl), ap (λ (z : DeltaOf). z.id) (same_Some x.1) ∙ x.2.same)

-- a refusal drops what is pending, and what is acknowledged is there
answer_handed : (n : ℕ) (h : List DeltaOf) (f : FollowerOf) (g : Gathered) (v : Verdict) (m : Option DeltaOf) → length g.1 ≤ n → IsJudged the_wavelet h (sent_by f g.0) (v, m)
    → IsHanded n (grown h m) (take_answer (submitting f g) (answer_to (sent_by f g.0) (v, m)))
answer_handed n h f g v m l j = by_verdict v refl
  where
    s : Submission
    s = sent_by f g.0

    refused : IsHanded n (grown h m) (refuse_if (submitting f g) (same_id s.id s.id)).1
    refused = subst (λ b. IsHanded n (grown h m) (refuse_if (submitting f g) b).1) (sym (same_id-refl s.id)) (dropped_handed n (grown h m) (submitting f g))

    acked : (at : ℕ) (to : VersionAt) → v ≡ Ack at to → IsHanded n (grown h m) (submitting f g)
    acked at to e = record { few = l; landed = λ y q. (let d = acked_there h s v m at to e j in (d.0, d.1, d.2 ∙ ap (λ (z : Flight). z.sent.id) (same_Some q))) }

    by_verdict : (u : Verdict) → v ≡ u → IsHanded n (grown h m) (take_answer (submitting f g) (answer_to s (u, m)))
    by_verdict (Ack at to) e = acked at to e
    by_verdict NotParticipant e = refused
    by_verdict ReadOnly e = refused
    by_verdict (UnknownVersion head) e = refused
    by_verdict (WrongHash host) e = refused
    by_verdict (Invalid index) e = refused
    by_verdict (Full head) e = refused

submitted_leads : (w : World) (k : ClientOf) (f : FollowerOf) (n t : ℕ) → IsGood the_wavelet w → IsPooled w → w.followers k ≡ Some f → IsIdle n f → IsSubmitted w k (n - 1) (submitted t (meeting w.host f) (submit f))
submitted_leads w k f n t i p e idle = by_queue f.queue refl
  where
    is : (r : Submitted) → submit f ≡ r → IsSubmitted w k (n - 1) (submitted t (meeting w.host f) r) → IsSubmitted w k (n - 1) (submitted t (meeting w.host f) (submit f))
    is r q h = subst (λ z. IsSubmitted w k (n - 1) (submitted t (meeting w.host f) z)) (sym q) h

    gone : IsSubmitted w k (n - 1) (meeting w.host (dropped f))
    gone = record { leads = drop_leads the_wavelet w k f i p e; handed = dropped_handed (n - 1) w.host f }

    by_number : (entry : List Act) (rest : List (List Act)) (g : Gathered) → f.queue ≡ entry ∷ rest → gather entry rest ≡ Some g → (b : Bool) → submit f ≡ take_numbered f g b → IsSubmitted w k (n - 1) (submitted t (meeting w.host f) (submit f))
    by_number entry rest g q y false r = is (Err NumbersSpent) r gone
    by_number entry rest g q y true r =
        let s = sent_by f g.0 in
        let a = submit_leads the_wavelet w k f (submitting f g) s t i p e r in
        let many : length f.queue ≡ length (entry ∷ rest) = ap length q in
        let few : length g.1 ≤ n - 1 = omega (arith, gather_length entry rest g y, many, idle.few) in
        is (Ok (Some s, submitting f g)) r (record { leads = a.0; handed = answer_handed (n - 1) w.host f g (judge the_wavelet w.host s t).0 (judge the_wavelet w.host s t).1 few a.1 })

    by_gather : (entry : List Act) (rest : List (List Act)) → f.queue ≡ entry ∷ rest → (m : Option Gathered) → gather entry rest ≡ m → submit f ≡ take_gathered f m → IsSubmitted w k (n - 1) (submitted t (meeting w.host f) (submit f))
    by_gather entry rest q None y r = is (Err TooBig) r gone
    by_gather entry rest q (Some g) y r = by_number entry rest g q y (nat_le f.next max_count) r

    by_queue : (q : List (List Act)) → f.queue ≡ q → IsSubmitted w k (n - 1) (submitted t (meeting w.host f) (submit f))
    by_queue [] q =
        let none : length f.queue ≡ 0 = ap length q in
        is (Ok (None, f)) (ap (take_unless f) idle.none ∙ ap (take_queued f) q) (record { leads = stays the_wavelet w k f i p e; handed = record { few = omega (arith, none); landed = λ y r. no_value (sym idle.none ∙ r) } })
    by_queue (entry ∷ rest) q = by_gather entry rest q (gather entry rest) refl (ap (take_unless f) idle.none ∙ ap (take_queued f) q)

-- ---- an exchange

pub record IsExchanged (w : World) (k : ClientOf) (n : ℕ) (c : Meeting) : Type 0 where
  pub leads : Leads the_wavelet w k c.host c.follower
  pub head : replay (start the_wavelet) c.host ≡ Some c.follower.here
  pub idle : IsIdle n c.follower

-- what the history has isn't in flight at the head
landed : (w : World) (k : ClientOf) (n : ℕ) (h : List DeltaOf) (f g : FollowerOf) → IsGood the_wavelet w → w.host ≡ h → w.followers k ≡ Some g → IsHanded n h f → IsCaughtUp the_wavelet h f g → IsIdle n g
landed w k n h f g i v e a c = record { none = none g.flight refl; few = (let q = c.waiting.queue in omega (arith, q, a.few)) }
  where
    none : (m : Option Flight) → g.flight ≡ m → m ≡ None
    none None r = refl
    none (Some y) r =
        let x = c.waiting.flight y r in
        let d = a.landed x.0 x.1 in
        let z = (i.followers k g e).flight y r in
        let l : IsLegal the_wavelet h = subst (IsLegal the_wavelet) v i.legal in
        let low = below the_wavelet [] h (start the_wavelet) g.here l refl c.here d.0 d.1 in
        absurd (z.fresh d.0 (subst (λ u. Mem d.0 u) (sym v) d.1) low (d.2 ∙ ap (λ (u : Submission). u.id) (sym x.2)))

pub exchange_leads : (w : World) (k : ClientOf) (f : FollowerOf) (n t : ℕ) → IsGood the_wavelet w → IsPooled w → w.followers k ≡ Some f → IsIdle n f → IsExchanged w k (n - 1) (exchanged t (meeting w.host f))
unfolding exchanged
exchange_leads w k f n t i p e idle = go (submitted t (meeting w.host f) (submit f)) (submitted_leads w k f n t i p e idle)
  where
    go : (c : Meeting) → IsSubmitted w k (n - 1) c → IsExchanged w k (n - 1) (level c)
    go c s =
        let a = s.leads in
        let b : Leads the_wavelet a.after k c.host (caught_up c.host c.follower) = subst (λ h. Leads the_wavelet a.after k h (caught_up h c.follower)) a.host (level_leads a.after k c.follower a.good a.pooled a.is) in
        let up : IsCaughtUp the_wavelet c.host c.follower (caught_up c.host c.follower) = subst (λ h. IsCaughtUp the_wavelet h c.follower (caught_up h c.follower)) a.host (caught a.after k c.follower a.good a.is) in
        record {
          leads = on_to the_wavelet w k c.host c.host c.follower (caught_up c.host c.follower) a b;
          head = up.here;
          idle = landed b.after k (n - 1) c.host c.follower (caught_up c.host c.follower) b.good b.host b.is s.handed up;
        }

-- ---- exchanges until nothing is pending

pub record IsSettled (w : World) (k : ClientOf) (c : Meeting) : Type 0 where
  pub leads : Leads the_wavelet w k c.host c.follower
  pub none : pending c.follower ≡ []

settled_is : {A : Type 0} (xs : List A) → settled xs ≡ true → xs ≡ []
settled_is [] e = refl
settled_is (x ∷ xs) e = absurd (cc)

pub none_pending : (f : FollowerOf) → IsIdle 0 f → pending f ≡ []
none_pending f idle = ap (λ m. flying m ++ f.queue) idle.none ∙ go f.queue idle.few
  where
    go : (q : List (List Act)) → length q ≤ 0 → q ≡ []
    go [] h = refl
    go (x ∷ q) h = absurd (omega (arith, h))

-- so many exchanges settle each follower that is so idle
abbrev Settles : ClientOf → ℕ → ℕ → ℕ → Type 0
Settles k m n t = (w : World) (f : FollowerOf) → IsGood the_wavelet w → IsPooled w → w.followers k ≡ Some f → IsIdle m f → IsSettled w k (settling t n (meeting w.host f))

pub settling_leads : (w : World) (k : ClientOf) (f : FollowerOf) (m n t : ℕ) → IsGood the_wavelet w → IsPooled w → w.followers k ≡ Some f → IsIdle m f → m ≤ n → IsSettled w k (settling t n (meeting w.host f))
unfolding settling
settling_leads w k f m zero t i p e idle l = record { leads = stays the_wavelet w k f i p e; none = none_pending f (record { none = idle.none; few = omega (arith, idle.few, l) }) }
settling_leads w k f m (suc n) t i p e idle l = go (settled (pending f)) refl (λ v g j r q s. settling_leads v k g (m - 1) n t j r q s (omega (arith, l)))
  where
    x : IsExchanged w k (m - 1) (exchanged t (meeting w.host f))
    x = exchange_leads w k f m t i p e idle

    c : Meeting
    c = exchanged t (meeting w.host f)

    again : Settles k (m - 1) n t → IsSettled w k (settling t n c)
    again rest =
        let a = x.leads in
        let s : IsSettled a.after k (settling t n c) = subst (λ h. IsSettled a.after k (settling t n (meeting h c.follower))) a.host (rest a.after c.follower a.good a.pooled a.is x.idle) in
        record { leads = on_to the_wavelet w k c.host (settling t n c).host c.follower (settling t n c).follower a s.leads; none = s.none }

    go : (b : Bool) → settled (pending f) ≡ b → Settles k (m - 1) n t → IsSettled w k (cond b (meeting w.host f) (settling t n c))
    go true q rest = record { leads = stays the_wavelet w k f i p e; none = settled_is (pending f) q }
    go false q rest = again rest
