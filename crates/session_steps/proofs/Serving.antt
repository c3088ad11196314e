-- Calls of a session's loop, by what they leave.
--     loads_same, added_same, added_one     the counts of passes, where those to one shard alone changed
--     since_same, since_more                what holds since the start, after a call that took no reading and added nothing, and after one that did
--     goes_later            passes saw more
--     news_goes, news_breaks, turn_breaks   news was sent; it was sent in part; it couldn't be had
--     idle_goes             nothing came
--     reply_goes, reply_breaks, halt_breaks a message was answered; the answer was not sent; there was none
--     close_ends, fail_ends, break_ends     the close came; the poll failed; the session broke off
--     looked_turn           looks at lengths and polls over one turn
--     ended_of, ended_unbegun               at the end of the loop, and where it never began
--     no_events             a list that is empty
--     session_new, sent_new                 a new session, and one to which all is due
--     looked_next, loads_next, all_next     one shard more was looked at
use Rattle.std.proofs.Common.{sym, ap, refl, subst, ◌∙◌, ◌≡◌, ◌≢◌, ◌⊎◌, inl, inr, ◌+◌, ◌<◌, ◌≤◌, ℕ, Bool, arith, List, [], ◌∷◌, ◌++◌, length, append-nil, get_or, Option, Some}
use mathlib.Core.List.{IsPrefix}
use Rattle.doc_items.specs.Maps.{Key}
use Rattle.message_json.specs.declared.message.Message.{Message}
use Rattle.session_core.specs.declared.session.Session.{Session}
use Rattle.session_core.specs.Deliveries.{delivered, after_delivery}
use Rattle.session_core.specs.Rules.{fresh, taken_bytes}
use Rattle.turn_cells.specs.declared.cells.Passes.{Passes}
use Rattle.turn_cells.specs.Cells.{AreOthersSame, added_at, loads_at, added_of, loads_of, seen_of}
use Rattle.wave_outside.specs.Links.{received, sent}
use Rattle.wave_outside.specs.declared.link.LinkEvent.{LinkEvent}
use Rattle.wave_outside.specs.declared.link.LinkEvent.TheVariants.{Received, Idle, Ended}
use Rattle.shard_marks.specs.declared.look.Look.{Look}
use Rattle.shard_marks.specs.declared.mark.Mark.{Mark}
use Rattle.shard_marks.specs.Frames.{frames_of}
use Rattle.shard_marks.specs.Passes.{HaveTurned, marks_of}
use Rattle.shard_marks.specs.Looks.{IsLook}
use Rattle.shard_marks.specs.Marks.{shown_at}
use Rattle.shard_marks.specs.Servers.{ServerOf}
use Rattle.session_steps.specs.declared.end.EndCause.{EndCause}
use Rattle.session_steps.specs.declared.end.EndCause.TheVariants.{Closed}
use Rattle.session_steps.specs.Clients.{IsSessionOf, AreSentTo, AreSentAll}
use Rattle.session_steps.specs.Going.{Origin, Grow, IsReaching, HasWorked, IsUnasked, Since, reply_frames}
use Rattle.session_steps.specs.Jobs.{IsEnded}
use Rattle.session_steps.specs.Served.{IsBroken, IsOver, HaveNothingLeft, total, poll_count}
use Rattle.session_steps.proofs.Counting.{total_same, total_one, taken_none, taken_more}
use Rattle.session_steps.proofs.Events.{after_received, after_idle, after_ended, after_nothing}
use Rattle.session_steps.proofs.Growing.{turned_grow}
use Rattle.session_steps.proofs.Walking.{reaching_later, reaching_idle, reaching_sent, broken_sent, reaching_replied, broken_untold, broken_unread, broken_now, whole_closed, over_broken, reaching_start}

same_or_not : (j k : ℕ) → (j ≡ k) ⊎ (j ≢ k)
same_or_not j k = grind arith

none_more : (a b : ℕ) → b ≡ 0 → a ≡ a + b
none_more a b e = omega (arith, e)

-- ---- counts

module _ {T : Type 0} (ps qs : Passes T Mark) (k : ℕ) (others : AreOthersSame k ps qs) where
  pub loads_same : loads_at qs k ≡ loads_at ps k → (j : ℕ) → loads_at qs j ≡ loads_at ps j
  loads_same here j = go (same_or_not j k)
    where
      go : (j ≡ k) ⊎ (j ≢ k) → loads_at qs j ≡ loads_at ps j
      go (inl e) = subst (λ i. loads_at qs i ≡ loads_at ps i) (sym e) here
      go (inr n) = ap loads_of (others j n)

  pub added_same : added_at qs k ≡ added_at ps k → total 16 (λ j. added_at qs j) ≡ total 16 (λ j. added_at ps j)
  added_same here = total_same 16 (λ j. added_at ps j) (λ j. added_at qs j) (λ j. go j (same_or_not j k))
    where
      go : (j : ℕ) → (j ≡ k) ⊎ (j ≢ k) → added_at qs j ≡ added_at ps j
      go j (inl e) = subst (λ i. added_at qs i ≡ added_at ps i) (sym e) here
      go j (inr n) = ap added_of (others j n)

  pub added_one : (gained : ℕ) → k < 16 → added_at qs k ≡ added_at ps k + gained → total 16 (λ j. added_at qs j) ≡ total 16 (λ j. added_at ps j) + gained
  added_one gained below here = total_one 16 k gained (λ j. added_at ps j) (λ j. added_at qs j) below here (λ j n. ap added_of (others j n))

-- ---- since the start

module _ (o : Origin) (is_told : Bool) (r : ℕ → ℕ) where
  pub since_same : (a b : ℕ) (P Q : List ℕ → ℕ → Type 0) → b ≡ a → ((read : List ℕ) (gained : ℕ) → P read gained → Q read gained) → Since o is_told r a P → Since o is_told r b Q
  since_same a b P Q same f s = record { read = s.read; gained = s.gained; timed = s.timed; counted = same ∙ s.counted; is = f s.read s.gained s.is }

  -- by a call that began with these readings and this count
  pub since_more : (begun : ℕ → ℕ) (a b : ℕ) (q : ℕ → ℕ) (P W Q : List ℕ → ℕ → Type 0)
      → ((read : List ℕ) (gained : ℕ) (more : List ℕ) (gain : ℕ) → P read gained → W more gain → Q (read ++ more) (gained + gain))
      → Since o is_told r a P → Since (record { begun = begun; readings = r; added = a }) is_told q b W → Since o is_told q b Q
  since_more begun a b q P W Q f s w = record {
    read = s.read ++ w.read;
    gained = s.gained + w.gained;
    timed = λ t. taken_more o.readings r q s.read w.read (s.timed t) (w.timed t);
    counted = omega (arith, s.counted, w.counted);
    is = f s.read s.gained w.read w.gained s.is w.is;
  }

-- ---- calls

module _ {T : Type 0} (v : ServerOf) (o : Origin) (is_told : Bool) (r : ℕ → ℕ) (ps qs : Passes T Mark) where
  abbrev count : Passes T Mark → ℕ
  count xs = total 16 (λ k. added_at xs k)

  abbrev IsOn : Passes T Mark → List LinkEvent → Session → Type 0
  IsOn xs es s = Since o is_told r (count xs) (λ read gained. IsReaching v (marks_of xs) o.begun es s read gained)

  abbrev IsOff : Passes T Mark → List LinkEvent → Type 0
  IsOff xs es = Since o is_told r (count xs) (λ read gained. IsBroken v (marks_of xs) o.begun es read gained)

  module _ (es fs : List LinkEvent) (s : Session) where
    -- passes saw more, and nothing else was done
    pub goes_later : Grow (marks_of ps) (marks_of qs) → count qs ≡ count ps → IsOn ps es s → IsOn qs es s
    goes_later grown same on = since_same o is_told r (count ps) (count qs) _ _ same (λ read gained x. reaching_later v (marks_of ps) (marks_of qs) grown o.begun es s read gained x) on

    pub turn_breaks : Grow (marks_of ps) (marks_of qs) → count qs ≡ count ps → IsOn ps es s → IsOff qs es
    turn_breaks grown same on = since_same o is_told r (count ps) (count qs) _ _ same
        (λ read gained x. broken_now v (marks_of qs) o.begun es es s read gained (reaching_later v (marks_of ps) (marks_of qs) grown o.begun es s read gained x) refl refl) on

    module _ (k : ℕ) (l : Look) (turned : HaveTurned k ps qs) (unadded : added_at qs k ≡ added_at ps k) (at : IsLook k (marks_of qs k) l) (came : received fs ≡ received es) where
      pub news_goes : (x : Session) → x ≡ after_delivery (shown_at v.domain k (marks_of qs k)) s → (texts : List (List ℕ)) → texts ≡ frames_of (delivered (shown_at v.domain k (marks_of qs k)) s)
          → sent fs ≡ sent es ++ texts → IsOn ps es s → IsOn qs fs x
      news_goes x is texts are went on = subst (λ y. IsOn qs fs y) (sym is)
          (since_same o is_told r (count ps) (count qs) _ _ (added_same ps qs k turned.others unadded)
          (λ read gained y. reaching_sent v (marks_of qs) o.begun es fs s read gained (reaching_later v (marks_of ps) (marks_of qs) (turned_grow ps qs k turned) o.begun es s read gained y) k l at
          came (went ∙ ap (λ t. sent es ++ t) are)) on)

      pub news_breaks : (texts : List (List ℕ)) → texts ≡ frames_of (delivered (shown_at v.domain k (marks_of qs k)) s)
          → IsPrefix (sent es) (sent fs) × IsPrefix (sent fs) (sent es ++ texts) → IsOn ps es s → IsOff qs fs
      news_breaks texts are part on =
          since_same o is_told r (count ps) (count qs) _ _ (added_same ps qs k turned.others unadded)
          (λ read gained y. broken_sent v (marks_of qs) o.begun es fs s read gained (reaching_later v (marks_of ps) (marks_of qs) (turned_grow ps qs k turned) o.begun es s read gained y) k l at
          came part.0 (subst (λ t. IsPrefix (sent fs) (sent es ++ t)) are part.1)) on

    -- polls that gave no message
    pub idle_goes : fs ≡ es ++ Idle ∷ [] → IsOn ps es s → IsOn ps fs s
    idle_goes is on = let a = after_idle es fs is in
        since_same o is_told r (count ps) (count ps) _ _ refl (λ read gained x. reaching_idle v (marks_of ps) o.begun es fs s read gained x (a.received ∙ append-nil (received es)) (a.sent ∙ append-nil (sent es))) on

    abbrev IsDone : Passes T Mark → EndCause → Type 0
    IsDone xs c = Since o is_told r (count xs) (λ read gained. IsOver v (marks_of xs) o.begun fs read gained c)

    pub close_ends : fs ≡ es ++ Ended ∷ [] → HaveNothingLeft v.domain (marks_of ps) s → IsOn ps es s → IsDone ps Closed
    close_ends is left on = let a = after_ended es fs is in
        since_same o is_told r (count ps) (count ps) _ _ refl
        (λ read gained x. whole_closed v (marks_of ps) o.begun es fs s read gained x (a.received ∙ append-nil (received es)) (a.sent ∙ append-nil (sent es)) (es, is) left) on

    pub fail_ends : (c : EndCause) → c ≢ Closed → fs ≡ es ++ [] → IsOn ps es s → IsDone ps c
    fail_ends c other is on = let a = after_nothing es fs is in
        since_same o is_told r (count ps) (count ps) _ _ refl
        (λ read gained x. over_broken v (marks_of ps) o.begun fs read gained c other
        (broken_now v (marks_of ps) o.begun es fs s read gained x (a.received ∙ append-nil (received es)) (a.sent ∙ append-nil (sent es)))) on

  pub break_ends : (fs : List LinkEvent) (c : EndCause) → c ≢ Closed → IsOff ps fs → Since o is_told r (count ps) (λ read gained. IsOver v (marks_of ps) o.begun fs read gained c)
  break_ends fs c other off = since_same o is_told r (count ps) (count ps) _ _ refl (λ read gained x. over_broken v (marks_of ps) o.begun fs read gained c other x) off

-- ---- answers

module _ {T : Type 0} (v : ServerOf) (o : Origin) (is_told : Bool) (r q : ℕ → ℕ) (ps qs : Passes T Mark) (grown : Grow (marks_of ps) (marks_of qs)) (es fs gs : List LinkEvent) (s : Session) (bytes : List ℕ)
    (came : fs ≡ es ++ Received bytes ∷ []) (kept : received gs ≡ received fs) where
  abbrev counted : Passes T Mark → ℕ
  counted xs = total 16 (λ k. added_at xs k)

  abbrev began : Origin
  began = record { begun = λ k. length (marks_of ps k); readings = r; added = counted ps }

  abbrev IsThere : Type 0
  IsThere = Since o is_told r (counted ps) (λ read gained. IsReaching v (marks_of ps) o.begun es s read gained)

  came_all : received gs ≡ received es ++ bytes ∷ []
  came_all = kept ∙ (after_received es fs bytes came).received

  went_none : sent fs ≡ sent es
  went_none = (after_received es fs bytes came).sent ∙ append-nil (sent es)

  pub reply_goes : (x : Session) (message : Option Message) → Since began is_told q (counted qs) (λ more gain. HasWorked v (marks_of ps) (marks_of qs) (taken_bytes s bytes) more gain x message)
      → sent gs ≡ sent fs ++ reply_frames message → IsThere → Since o is_told q (counted qs) (λ read gained. IsReaching v (marks_of qs) o.begun gs x read gained)
  reply_goes x message worked went there = since_more o is_told r began.begun (counted ps) (counted qs) q _ _ _
      (λ read gained more gain y w. reaching_replied v (marks_of ps) (marks_of qs) grown o.begun es s read gained y gs bytes more gain x message w came_all
      (went ∙ ap (λ l. l ++ reply_frames message) went_none)) there worked

  pub reply_breaks : (c : EndCause) → c ≢ Closed → (x : Session) (message : Option Message) → Since began is_told q (counted qs) (λ more gain. HasWorked v (marks_of ps) (marks_of qs) (taken_bytes s bytes) more gain x message)
      → sent gs ≡ sent fs → IsThere → Since o is_told q (counted qs) (λ read gained. IsOver v (marks_of qs) o.begun gs read gained c)
  reply_breaks c other x message worked went there = since_more o is_told r began.begun (counted ps) (counted qs) q _ _ _
      (λ read gained more gain y w. over_broken v (marks_of qs) o.begun gs (read ++ more) (gained + gain) c other
      (broken_untold v (marks_of ps) (marks_of qs) grown o.begun es s read gained y gs bytes more gain x message w came_all (went ∙ went_none))) there worked

  pub halt_breaks : (c : EndCause) → c ≢ Closed
      → Since began is_told q (counted qs) (λ more gain. IsUnasked more gain ⊎ ((x : Session) × ((message : Option Message) × HasWorked v (marks_of ps) (marks_of qs) (taken_bytes s bytes) more gain x message)))
      → sent gs ≡ sent fs → IsThere → Since o is_told q (counted qs) (λ read gained. IsOver v (marks_of qs) o.begun gs read gained c)
  halt_breaks c other halted went there = since_more o is_told r began.begun (counted ps) (counted qs) q _ _ _ go there halted
    where
      go : (read : List ℕ) (gained : ℕ) (more : List ℕ) (gain : ℕ) → IsReaching v (marks_of ps) o.begun es s read gained
          → IsUnasked more gain ⊎ ((x : Session) × ((message : Option Message) × HasWorked v (marks_of ps) (marks_of qs) (taken_bytes s bytes) more gain x message))
          → IsOver v (marks_of qs) o.begun gs (read ++ more) (gained + gain) c
      go read gained more gain y (inl u) = subst (λ n. IsOver v (marks_of qs) o.begun gs (read ++ more) n c) (none_more gained gain u.1)
          (over_broken v (marks_of qs) o.begun gs (read ++ more) gained c other
          (broken_unread v (marks_of qs) o.begun es gs s read gained (reaching_later v (marks_of ps) (marks_of qs) grown o.begun es s read gained y) (read ++ more) more (bytes ∷ []) (omega arith) u.0 came_all (went ∙ went_none) refl))
      go read gained more gain y (inr w) = over_broken v (marks_of qs) o.begun gs (read ++ more) (gained + gain) c other
          (broken_untold v (marks_of ps) (marks_of qs) grown o.begun es s read gained y gs bytes more gain w.0 w.1.0 w.1.1 came_all (went ∙ went_none))

-- ---- the loop

pub looked_turn : (before middle after : ℕ → ℕ) (es fs gs : List LinkEvent) → ((k : ℕ) → k < 16 → before k + 1 ≤ middle k) → poll_count fs ≡ poll_count es
    → ((k : ℕ) → after k ≡ middle k) → poll_count gs ≤ poll_count fs + 1 → (k : ℕ) → k < 16 → before k + poll_count gs ≤ after k + poll_count es
looked_turn before middle after es fs gs one same stay more k below = let a = one k below in let b = stay k in omega (arith, a, b, same, more)

pub looked_more : (before middle after : ℕ → ℕ) (es fs gs : List LinkEvent) → ((k : ℕ) → k < 16 → before k + poll_count fs ≤ middle k + poll_count es)
    → ((k : ℕ) → k < 16 → middle k + poll_count gs ≤ after k + poll_count fs) → (k : ℕ) → k < 16 → before k + poll_count gs ≤ after k + poll_count es
looked_more before middle after es fs gs one two k below = let a = one k below in let b = two k below in omega (arith, a, b)

pub no_events : (es : List LinkEvent) → length es ≡ 0 → es ≡ []
no_events [] e = refl
no_events (x ∷ es) e = absurd (omega (arith, e))

module _ {T : Type 0} (v : ServerOf) (is_told : Bool) (ps qs : Passes T Mark) (r q : ℕ → ℕ) (es fs : List LinkEvent) (c : EndCause) (none : es ≡ []) where
  abbrev start_of : Origin
  start_of = record { begun = λ k. length (marks_of ps k); readings = r; added = total 16 (λ k. added_at ps k) }

  pub ended_of : ((k : ℕ) → k < 16 → loads_at ps k + poll_count fs ≤ loads_at qs k + poll_count es)
      → Since start_of is_told q (total 16 (λ k. added_at qs k)) (λ read gained. IsOver v (marks_of qs) start_of.begun fs read gained c) → IsEnded v ps qs is_told r q fs c
  ended_of looked s = record {
    readings = s.read;
    added = s.gained;
    over = s.is;
    gained = s.counted;
    looked = λ k below. let a = looked k below in let b : poll_count es ≡ 0 = ap poll_count none in omega (arith, a, b);
    read = s.timed;
  }

-- a session that has nothing received and sent
pub going_unbegun : {T : Type 0} (v : ServerOf) (is_told : Bool) (ps : Passes T Mark) (r : ℕ → ℕ) (es : List LinkEvent) (s : Session) → es ≡ [] → s ≡ fresh (Some v.domain) v.peers
    → Since (record { begun = λ k. length (marks_of ps k); readings = r; added = total 16 (λ k. added_at ps k) }) is_told r (total 16 (λ k. added_at ps k))
    (λ read gained. IsReaching v (marks_of ps) (λ k. length (marks_of ps k)) es s read gained)
going_unbegun v is_told ps r es s none new = record {
  read = [];
  gained = 0;
  timed = λ t. taken_none r;
  counted = omega arith;
  is = reaching_start v (marks_of ps) es s none new;
}

pub ended_unbegun : {T : Type 0} (v : ServerOf) (is_told : Bool) (ps : Passes T Mark) (r : ℕ → ℕ) (es : List LinkEvent) (c : EndCause) → c ≢ Closed → es ≡ [] → IsEnded v ps ps is_told r r es c
ended_unbegun v is_told ps r es c other none =
    let going = going_unbegun v is_told ps r es (fresh (Some v.domain) v.peers) none refl in
    ended_of v is_told ps ps r r es es c none (λ k below. omega arith)
    (since_same (record { begun = λ k. length (marks_of ps k); readings = r; added = total 16 (λ k. added_at ps k) }) is_told r (total 16 (λ k. added_at ps k)) (total 16 (λ k. added_at ps k)) _ _ refl
    (λ read gained x. over_broken v (marks_of ps) (λ k. length (marks_of ps k)) es read gained c other
    (broken_now v (marks_of ps) (λ k. length (marks_of ps k)) es es (fresh (Some v.domain) v.peers) read gained x refl refl)) going)

pub session_new : (v : ServerOf) (s : Session) → s ≡ fresh (Some v.domain) v.peers → IsSessionOf v s
session_new v s is = subst (IsSessionOf v) (sym is) (record { domain = refl; peers = refl; unopened = λ e. refl; unqueued = λ e. refl })

pub sent_new : (d : Key) (m : ℕ → List Mark) (s : Session) (lengths : List ℕ) → ((k : ℕ) → get_or lengths k 0 ≡ 0) → AreSentTo d m s lengths
sent_new d m s lengths due k below =
    let z = due k in record {
      told = record { within = omega (arith, z); told = λ cut begins whole some. absurd (some z) };
      quiet = λ cut begins whole some. absurd (some z);
    }

-- ---- one shard more

module _ (before middle after : ℕ → ℕ) (i : ℕ) (here : after i ≡ middle i + 1) (others : (k : ℕ) → k ≢ i → after k ≡ middle k) (loads : (k : ℕ) → before k ≤ middle k) where
  pub looked_next : ((k : ℕ) → k < i → before k + 1 ≤ middle k) → (k : ℕ) → k < i + 1 → before k + 1 ≤ after k
  looked_next looked k below = go (same_or_not k i)
    where
      go : (k ≡ i) ⊎ (k ≢ i) → before k + 1 ≤ after k
      go (inl e) = let a : after k ≡ middle k + 1 = subst (λ j. after j ≡ middle j + 1) (sym e) here in let b = loads k in omega (arith, a, b)
      go (inr n) = let a = others k n in let b = looked k (omega (arith, below, n)) in omega (arith, a, b)

  pub loads_next : (k : ℕ) → before k ≤ after k
  loads_next k = go (same_or_not k i)
    where
      go : (k ≡ i) ⊎ (k ≢ i) → before k ≤ after k
      go (inl e) = let a : after k ≡ middle k + 1 = subst (λ j. after j ≡ middle j + 1) (sym e) here in let b = loads k in omega (arith, a, b)
      go (inr n) = let a = others k n in let b = loads k in omega (arith, a, b)

pub all_next : (m n : ℕ → List Mark) (i : ℕ) (lengths now : List ℕ) → AreSentAll m i lengths → get_or now i 0 ≡ length (n i) → ((k : ℕ) → k ≢ i → get_or now k 0 ≡ get_or lengths k 0)
    → ((k : ℕ) → k ≢ i → n k ≡ m k) → AreSentAll n (i + 1) now
all_next m n i lengths now all here there same k below = go (same_or_not k i)
  where
    go : (k ≡ i) ⊎ (k ≢ i) → get_or now k 0 ≡ length (n k)
    go (inl e) = subst (λ j. get_or now j 0 ≡ length (n j)) (sym e) here
    go (inr x) = there k x ∙ all k (omega (arith, below, x)) ∙ ap length (sym (same k x))

pub others_marks : {T : Type 0} (ps qs : Passes T Mark) (i : ℕ) → AreOthersSame i ps qs → (k : ℕ) → k ≢ i → marks_of qs k ≡ marks_of ps k
others_marks ps qs i others k n = ap seen_of (others k n)

pub others_loads : {T : Type 0} (ps qs : Passes T Mark) (i : ℕ) → AreOthersSame i ps qs → (k : ℕ) → k ≢ i → loads_at qs k ≡ loads_at ps k
others_loads ps qs i others k n = ap loads_of (others k n)
