-- A session's walk, one step on.
--     reaching_start        nothing was done yet
--     reaching_later        the marks grew
--     reaching_idle         nothing came
--     reaching_sent, broken_sent        what is new was sent, and only a part of it
--     reaching_replied, broken_untold   a message was answered, and its reply was not sent
--     broken_unread         a message came, and was not answered
--     broken_now            a session that goes on could be broken off
--     whole_closed          the close came, and nothing is left
--     over_broken           a session that broke off is over, unless it was closed
use Rattle.std.proofs.Common.{sym, ap, refl, subst, ◌∙◌, ◌≡◌, ◌≢◌, ◌+◌, ◌≤◌, ℕ, Bool, true, false, arith, List, [], ◌∷◌, ◌++◌, length, append_assoc, append-nil, nat_eq, cond, Option, Some, None}
use Rattle.std.proofs.lemmas.Bool.Decides.{nat_tests}
use mathlib.Core.List.{IsPrefix}
use Rattle.message_json.specs.declared.message.Message.{Message}
use Rattle.session_core.specs.declared.session.Session.{Session}
use Rattle.session_core.specs.Deliveries.{delivered, after_delivery}
use Rattle.session_core.specs.Rules.{fresh, taken_bytes}
use Rattle.wave_outside.specs.Links.{received, sent}
use Rattle.wave_outside.specs.declared.link.LinkEvent.{LinkEvent}
use Rattle.shard_marks.specs.declared.look.Look.{Look}
use Rattle.shard_marks.specs.declared.mark.Mark.{Mark}
use Rattle.shard_marks.specs.Frames.{frames_of}
use Rattle.shard_marks.specs.Looks.{IsLook}
use Rattle.shard_marks.specs.Marks.{shown_at}
use Rattle.shard_marks.specs.Servers.{ServerOf}
use Rattle.session_steps.specs.declared.end.EndCause.{EndCause}
use Rattle.session_steps.specs.declared.end.EndCause.TheVariants.{Closed, Failed, Spent, Memory}
use Rattle.session_steps.specs.declared.step.LinkStep.{LinkStep}
use Rattle.session_steps.specs.declared.step.LinkStep.TheVariants.{Read, Delivered}
use Rattle.session_steps.specs.Going.{Grow, IsReaching, HasWorked, reading_list, reply_frames}
use Rattle.session_steps.specs.Served.{IsWalk, IsBroken, IsWhole, IsOver, HaveNothingLeft, EndsClosed}
use Rattle.session_steps.specs.Steps.{Progress, start, Work, length_at, last_length, IsAsked, IsStep, reading_of}
use Rattle.shard_marks.proofs.Prefixes.{prefix_self, prefix_length}
use Rattle.session_steps.proofs.Growing.{walk_later}

same_number : (a b : ℕ) → nat_eq a b ≡ true → a ≡ b
same_number a b e = grind (arith, nat_tests)

module _ {X : Type 0} where
  head_is : (x y : X) (xs ys : List X) → x ∷ xs ≡ y ∷ ys → xs ≡ ys
  head_is x y xs ys e = cc

  none_is : (y : X) (ys : List X) → [] ≡ y ∷ ys → ⊥
  none_is y ys e = absurd (omega (arith, ap length e))

module _ (v : ServerOf) (m : ℕ → List Mark) (begun : ℕ → ℕ) where
  -- ---- steps

  -- what was sent before a step stays sent
  step_sent : (ss : List LinkStep) (st : LinkStep) (a b : Progress) → IsStep v m begun ss st a b → IsPrefix a.sent b.sent
  step_sent ss (Read look reading) a b s = (s.work.frames, sym s.sent)
  step_sent ss (Delivered look) a b s = (s.work.frames, sym s.sent)

  -- the progress before the last step, of which a part of what was sent then is sent
  last_sent : (steps : List LinkStep) (p : Progress) (texts : List (List ℕ)) → IsWalk v m begun steps p → IsPrefix p.sent texts
      → (st : LinkStep) (ss : List LinkStep) → steps ≡ st ∷ ss → (before : Progress) × IsWalk v m begun ss before × IsPrefix before.sent texts
  last_sent [] p texts w q st ss e = absurd (none_is st ss e)
  last_sent (x ∷ xs) p texts w q st ss e =
      (w.0, subst (λ l. IsWalk v m begun l w.0) (head_is x st xs ss e) w.1, (let f = step_sent xs x w.0 p w.2 in (f.0 ++ q.0, sym (append_assoc w.0.sent f.0 q.0) ∙ ap (λ l. l ++ q.0) f.1 ∙ q.1)))

  -- ---- without a step

  module _ (es fs : List LinkEvent) (s : Session) (read : List ℕ) (gained : ℕ) (r : IsReaching v m begun es s read gained) where
    pub reaching_idle : received fs ≡ received es → sent fs ≡ sent es → IsReaching v m begun fs s read gained
    reaching_idle came went = record {
      serving = record {
        steps = r.serving.steps;
        progress = r.serving.progress;
        walk = r.serving.walk;
        received = r.serving.received ∙ sym came;
        sent = r.serving.sent ∙ sym went;
        session = r.serving.session;
        readings_are = r.serving.readings_are;
        added_is = r.serving.added_is;
      };
      reached = r.reached;
    }

    -- at most one message came and at most one reading was taken, and nothing more was done
    pub broken_unread : (more untold : List ℕ) (unread : List (List ℕ)) → length unread ≤ 1 → length untold ≤ 1
        → received fs ≡ received es ++ unread → sent fs ≡ sent es → more ≡ read ++ untold → IsBroken v m begun fs more gained
    broken_unread more untold unread one few came went told = record {
      steps = r.serving.steps;
      progress = r.serving.progress;
      walk = r.serving.walk;
      unread = unread;
      received = ap (λ l. l ++ unread) r.serving.received ∙ sym came;
      one_message = one;
      sent = subst (λ l. IsPrefix l r.serving.progress.sent) (r.serving.sent ∙ sym went) (prefix_self r.serving.progress.sent);
      sent_before = last_sent r.serving.steps r.serving.progress (sent fs) r.serving.walk
          (subst (λ l. IsPrefix r.serving.progress.sent l) (r.serving.sent ∙ sym went) (prefix_self r.serving.progress.sent));
      untold = untold;
      readings_are = told ∙ ap (λ l. l ++ untold) (sym r.serving.readings_are);
      one_reading = few;
      added_is = r.serving.added_is;
    }

    pub broken_now : received fs ≡ received es → sent fs ≡ sent es → IsBroken v m begun fs read gained
    broken_now came went = broken_unread read [] [] (omega arith) (omega arith) (came ∙ sym (append-nil (received es))) went (sym (append-nil read))

    pub whole_closed : received fs ≡ received es → sent fs ≡ sent es → EndsClosed fs → HaveNothingLeft v.domain m s → IsWhole v m begun fs read gained
    whole_closed came went closed left = record { session = s; serving = (reaching_idle came went).serving; closed = closed; nothing_left = left }

  -- ---- news

  module _ (es fs : List LinkEvent) (s : Session) (read : List ℕ) (gained : ℕ) (r : IsReaching v m begun es s read gained) (k : ℕ) (l : Look) (at : IsLook k (m k) l) where
    abbrev frames : List (List ℕ)
    frames = frames_of (delivered (shown_at v.domain k (m k)) s)

    abbrev was : Progress
    was = r.serving.progress

    abbrev news_session : Session
    news_session = after_delivery (shown_at v.domain k (m k)) s

    abbrev news_progress : Progress
    news_progress = record { session = news_session; received = was.received; sent = was.sent ++ frames; readings = was.readings; added = was.added }

    abbrev news_work : Work
    news_work = record { session = news_session; frames = frames; added = 0 }

    news_step : IsStep v m begun r.serving.steps (Delivered l) was news_progress
    news_step = record {
      work = news_work;
      news = record {
        cut = m k;
        moment = record {
          shard = refl;
          cut_is = record { begins = subst (λ j. IsPrefix (m k) (m j)) (sym at.shard) (prefix_self (m k)); whole = at.length };
          later = subst (λ j. last_length begun j r.serving.steps ≤ l.length) (sym at.shard) (subst (λ n. last_length begun k r.serving.steps ≤ n) (sym at.length) (r.reached k));
        };
        session = ap (λ j. after_delivery (shown_at v.domain j (m k)) s) (sym at.shard) ∙ ap (λ x. after_delivery (shown_at v.domain l.shard (m k)) x) (sym r.serving.session);
        frames = ap (λ j. frames_of (delivered (shown_at v.domain j (m k)) s)) (sym at.shard) ∙ ap (λ x. frames_of (delivered (shown_at v.domain l.shard (m k)) x)) (sym r.serving.session);
        added = refl;
      };
      session = refl;
      received = refl;
      sent = refl;
      readings = refl;
      added = refl;
    }

    length_up : (j n : ℕ) → n ≤ length (m j) → length_at j (Some l) n ≤ length (m j)
    length_up j n up = go (nat_eq l.shard j) refl
      where
        go : (t : Bool) → nat_eq l.shard j ≡ t → cond t l.length n ≤ length (m j)
        go true e = let same : l.shard ≡ j = same_number l.shard j e in subst (λ i. l.length ≤ length (m i)) (sym at.shard ∙ same) (omega (arith, at.length))
        go false e = up

    pub reaching_sent : received fs ≡ received es → sent fs ≡ sent es ++ frames → IsReaching v m begun fs news_session read gained
    reaching_sent came went = record {
      serving = record {
        steps = Delivered l ∷ r.serving.steps;
        progress = news_progress;
        walk = (was, r.serving.walk, news_step);
        received = r.serving.received ∙ sym came;
        sent = ap (λ t. t ++ frames) r.serving.sent ∙ sym went;
        session = refl;
        readings_are = r.serving.readings_are;
        added_is = r.serving.added_is;
      };
      reached = λ j. length_up j (last_length begun j r.serving.steps) (r.reached j);
    }

    pub broken_sent : received fs ≡ received es → IsPrefix (sent es) (sent fs) → IsPrefix (sent fs) (sent es ++ frames) → IsBroken v m begun fs read gained
    broken_sent came more part = record {
      steps = Delivered l ∷ r.serving.steps;
      progress = news_progress;
      walk = (was, r.serving.walk, news_step);
      unread = [];
      received = append-nil was.received ∙ r.serving.received ∙ sym came;
      one_message = omega arith;
      sent = subst (λ t. IsPrefix (sent fs) (t ++ frames)) (sym r.serving.sent) part;
      sent_before = λ st ss e. (was, subst (λ x. IsWalk v m begun x was) (head_is (Delivered l) st r.serving.steps ss e) r.serving.walk, subst (λ t. IsPrefix t (sent fs)) (sym r.serving.sent) more);
      untold = [];
      readings_are = sym (append-nil was.readings ∙ r.serving.readings_are);
      one_reading = omega arith;
      added_is = r.serving.added_is;
    }

-- ---- answers

module _ (v : ServerOf) (m n : ℕ → List Mark) (grown : Grow m n) (begun : ℕ → ℕ) (es : List LinkEvent) (s : Session) (read : List ℕ) (gained : ℕ) (r : IsReaching v m begun es s read gained) where
  pub reaching_later : IsReaching v n begun es s read gained
  reaching_later = record {
    serving = record {
      steps = r.serving.steps;
      progress = r.serving.progress;
      walk = walk_later v m n grown begun r.serving.steps r.serving.progress r.serving.walk;
      received = r.serving.received;
      sent = r.serving.sent;
      session = r.serving.session;
      readings_are = r.serving.readings_are;
      added_is = r.serving.added_is;
    };
    reached = λ k. let up = prefix_length (m k) (n k) (grown k) in omega (arith, r.reached k, up);
  }

  module _ (fs : List LinkEvent) (bytes : List ℕ) (more : List ℕ) (gain : ℕ) (x : Session) (message : Option Message) (w : HasWorked v m n (taken_bytes s bytes) more gain x message)
      (came : received fs ≡ received es ++ bytes ∷ []) where
    abbrev before : Progress
    before = r.serving.progress

    abbrev answer_progress : Progress
    answer_progress = record {
      session = w.work.session;
      received = before.received ++ bytes ∷ [];
      sent = before.sent ++ w.work.frames;
      readings = before.readings ++ reading_of v n begun r.serving.steps w.reading;
      added = before.added + w.work.added;
    }

    abbrev answer_step : LinkStep
    answer_step = Read w.look w.reading

    answered_step : IsStep v n begun r.serving.steps answer_step before answer_progress
    answered_step = record {
      bytes = bytes;
      work = w.work;
      asked = subst (λ y. IsAsked v n begun r.serving.steps (taken_bytes y bytes) w.look w.reading w.work) (sym r.serving.session) (w.done begun r.serving.steps r.reached);
      session = refl;
      received = refl;
      sent = refl;
      readings = refl;
      added = refl;
    }

    answered_walk : IsWalk v n begun (answer_step ∷ r.serving.steps) answer_progress
    answered_walk = (before, walk_later v m n grown begun r.serving.steps before r.serving.walk, answered_step)

    readings_same : (o : Option ℕ) → reading_of v n begun r.serving.steps o ≡ reading_list o
    readings_same None = refl
    readings_same (Some t) = refl

    answer_readings : answer_progress.readings ≡ read ++ more
    answer_readings = ap (λ l. l ++ reading_of v n begun r.serving.steps w.reading) r.serving.readings_are ∙ ap (λ l. read ++ l) (readings_same w.reading ∙ sym w.reading_is)

    answer_added : answer_progress.added ≡ gained + gain
    answer_added = (λ i. r.serving.added_is i + w.added i)

    answer_received : answer_progress.received ≡ received fs
    answer_received = ap (λ l. l ++ bytes ∷ []) r.serving.received ∙ sym came

    looked_up : (j : ℕ) (o : Option Look) → w.look ≡ o → last_length begun j r.serving.steps ≤ length (m j) → length_at j o (last_length begun j r.serving.steps) ≤ length (n j)
    looked_up j None e up = let g = prefix_length (m j) (n j) (grown j) in omega (arith, up, g)
    looked_up j (Some l) e up = go (nat_eq l.shard j) refl
      where
        go : (t : Bool) → nat_eq l.shard j ≡ t → cond t l.length (last_length begun j r.serving.steps) ≤ length (n j)
        go true f = subst (λ i. l.length ≤ length (n i)) (same_number l.shard j f) (w.within l e)
        go false f = let g = prefix_length (m j) (n j) (grown j) in omega (arith, up, g)

    pub reaching_replied : sent fs ≡ sent es ++ reply_frames message → IsReaching v n begun fs x (read ++ more) (gained + gain)
    reaching_replied went = record {
      serving = record {
        steps = answer_step ∷ r.serving.steps;
        progress = answer_progress;
        walk = answered_walk;
        received = answer_received;
        sent = (λ i. r.serving.sent i ++ w.frames i) ∙ sym went;
        session = w.session;
        readings_are = answer_readings;
        added_is = answer_added;
      };
      reached = λ j. looked_up j w.look refl (r.reached j);
    }

    pub broken_untold : sent fs ≡ sent es → IsBroken v n begun fs (read ++ more) (gained + gain)
    broken_untold went = record {
      steps = answer_step ∷ r.serving.steps;
      progress = answer_progress;
      walk = answered_walk;
      unread = [];
      received = append-nil answer_progress.received ∙ answer_received;
      one_message = omega arith;
      sent = (w.work.frames, ap (λ l. l ++ w.work.frames) (went ∙ sym r.serving.sent));
      sent_before = λ st ss e. (
        before,
        subst (λ l. IsWalk v n begun l before) (head_is answer_step st r.serving.steps ss e) (walk_later v m n grown begun r.serving.steps before r.serving.walk),
        subst (λ l. IsPrefix before.sent l) (r.serving.sent ∙ sym went) (prefix_self before.sent),
      );
      untold = [];
      readings_are = sym (append-nil answer_progress.readings ∙ answer_readings);
      one_reading = omega arith;
      added_is = answer_added;
    }

-- ---- ends

pub over_broken : (v : ServerOf) (m : ℕ → List Mark) (begun : ℕ → ℕ) (es : List LinkEvent) (read : List ℕ) (gained : ℕ) (c : EndCause) → c ≢ Closed → IsBroken v m begun es read gained → IsOver v m begun es read gained c
over_broken v m begun es read gained Closed other b = absurd (other refl)
over_broken v m begun es read gained Failed other b = b
over_broken v m begun es read gained (Spent s) other b = b
over_broken v m begun es read gained Memory other b = b

pub reaching_start : (v : ServerOf) (m : ℕ → List Mark) (es : List LinkEvent) (s : Session) → es ≡ [] → s ≡ fresh (Some v.domain) v.peers → IsReaching v m (λ k. length (m k)) es s [] 0
reaching_start v m es s none new = record {
  serving = record {
    steps = [];
    progress = start v;
    walk = refl;
    received = sym (ap received none);
    sent = sym (ap sent none);
    session = sym new;
    readings_are = refl;
    added_is = refl;
  };
  reached = λ k. omega arith;
}
