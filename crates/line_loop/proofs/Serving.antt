-- A run, step by step.
use Rattle.std.proofs.Common.{◌≡◌, ℕ, ◌+◌, ◌<◌, ◌≤◌, ◌⊎◌, inl, inr, length, arith, List, [], ◌∷◌, ◌++◌, take, drop, Option, refl, sym, ap, ◌∙◌, append_assoc, append-nil, length-append, true, false}
use Rattle.std.proofs.lemmas.List.{take-append-drop, length-take}
use Rattle.std.specs.Io.KnownBytes.{Keeps, Appends, Consumes}
use Rattle.wave_outside.specs.declared.clock.Clock as clock_of
use Rattle.line_loop.specs.declared.line_machine.LineMachine as machine_of
use Rattle.line_loop.specs.declared.run.Stop.{Stop}
use Rattle.line_loop.specs.declared.run.Stop.TheVariants.{Source, Sink, Store, Memory, Limit}
use Rattle.line_loop.specs.Feeding.{IsFedInPart}
use Rattle.line_loop.specs.declared.feed.FeedFault.{FeedFault}
use Rattle.line_loop.specs.declared.feed.FeedFault.TheVariants.{Sink as FedSink}
use Rattle.line_loop.specs.Lines.{turned, IsPrefix, IsCutInto, has_line_feed}
use Rattle.line_loop.specs.Run.{IsServed, IsUnderWay, IsPumped, IsCut, stop_status, byte_limit}
use Rattle.line_loop.specs.Turns.{lines_in}
use Rattle.line_loop.proofs.Answering.{answered_none, answered_then, answered_after, answered_all, lines_in-append}
use Rattle.line_loop.proofs.Cutting.{turned-open}
use Rattle.line_loop.proofs.Telling.{Keeps-consumes, Consumes-none, Consumes-then, Appends-none, Appends-then}

pub length-zero : (s : List ℕ) → length s ≡ 0 → s ≡ []
length-zero [] e = refl
length-zero (x ∷ s) e = absurd (omega (arith, e))

-- ---- statuses

status_zero : (e : Stop) → stop_status e ≡ 0 → ⊥
status_zero Source h = omega (arith, h)
status_zero Sink h = omega (arith, h)
status_zero Store h = omega (arith, h)
status_zero Memory h = omega (arith, h)
status_zero Limit h = omega (arith, h)

status_three : (e : Stop) → stop_status e ≡ 3 → e ≡ Source
status_three Source h = refl
status_three Sink h = absurd (omega (arith, h))
status_three Store h = absurd (omega (arith, h))
status_three Memory h = absurd (omega (arith, h))
status_three Limit h = absurd (omega (arith, h))

status_four : (e : Stop) → stop_status e ≡ 4 → e ≡ Sink
status_four Sink h = refl
status_four Source h = absurd (omega (arith, h))
status_four Store h = absurd (omega (arith, h))
status_four Memory h = absurd (omega (arith, h))
status_four Limit h = absurd (omega (arith, h))

status_ten : (e : Stop) → (e ≡ Limit → ⊥) → stop_status e ≡ 10 → ⊥
status_ten Source n h = omega (arith, h)
status_ten Sink n h = omega (arith, h)
status_ten Store n h = omega (arith, h)
status_ten Memory n h = omega (arith, h)
status_ten Limit n h = n refl

-- a step that failed after it read something
late : (e : Stop) → (e ≡ Source → ⊥) → (stop_status e ≡ 10) ⊎ ((stop_status e ≡ 4) ⊎ ((stop_status e ≡ 5) ⊎ (stop_status e ≡ 8)))
late Source s = absurd (s refl)
late Sink s = inr (inl refl)
late Store s = inr (inr (inl refl))
late Memory s = inr (inr (inr refl))
late Limit s = inl refl

module _ {M K : Type 0} (machine : machine_of.Ghosts M) (clock : clock_of.Ghosts K) where
  -- a step whose source failed
  pub cut_unread : (room : ℕ) (m : M) (k : K) (a b h : Option (List ℕ)) (begun : List ℕ) → Keeps a b → IsCut machine clock room m m k a b h h begun Source
  cut_unread room m k a b h begun kept = record {
    read = [];
    written = [];
    turns = [];
    tried = [];
    consumed = Keeps-consumes a b kept;
    appended = Appends-none h;
    small = omega arith;
    front = (turned true (begun ++ []), refl);
    stopped = record { mid = m; now = k; after = []; answered = answered_none machine clock m k []; since = λ start us h. rw (append-nil us) h; left = refl };
    prefix = ([], refl);
    unread = λ q. (refl, refl, refl);
    all = λ q. (refl, refl);
    short = λ q. absurd (cc);
  }

  -- a step that read these bytes, and whose machine or sink failed
  pub cut_fed : (f : FeedFault) (e : Stop) → (e ≡ Source → ⊥) → (e ≡ Sink → f ≡ FedSink) → (room : ℕ) (old new : M) (was : K) (a b h i : Option (List ℕ)) (begun bytes : List ℕ) → length bytes ≤ room → Consumes a b bytes
      → IsFedInPart machine clock old new was h i (λ ls. IsPrefix ls (turned true (begun ++ bytes))) f → IsCut machine clock room old new was a b h i begun e
  cut_fed f e source sink room old new was a b h i begun bytes small consumed p = record {
    read = bytes;
    written = p.written;
    turns = p.turns;
    tried = p.tried;
    consumed = consumed;
    appended = p.appended;
    small = small;
    front = p.front;
    stopped = p.stopped;
    prefix = p.prefix;
    unread = λ q. absurd (source q);
    all = λ q. elim q [ inl x ↦ absurd (source x) | inr x ↦ p.all (sink x) ];
    short = λ q. p.short (sink q);
  }

  -- nothing was read yet
  pub under_way_start : (m : M) (k : K) (a h : Option (List ℕ)) (begun : List ℕ) → begun ≡ [] → IsUnderWay machine clock m m k k a a h h begun 0
  under_way_start m k a h begun e = record {
    read = [];
    written = [];
    turns = [];
    consumed = Consumes-none a;
    appended = Appends-none h;
    len = refl;
    cut = λ all rest. rw (e) refl;
    answered = answered_none machine clock m k [];
  }

  -- a step that read bytes
  pub under_way : (start old new : M) (was k l : K) (a b c h i j : Option (List ℕ)) (begun next : List ℕ) (taken got : ℕ) → (got ≡ 0 → ⊥)
      → IsUnderWay machine clock start old was k a b h i begun taken → IsPumped machine clock old new k l b c i j begun next got
      → IsUnderWay machine clock start new was l a c h j next (taken + got)
  under_way start old new was k l a b c h i j begun next taken got some p q = record {
    read = p.read ++ q.read;
    written = p.written ++ q.written;
    turns = p.turns ++ q.turns;
    consumed = Consumes-then a b c p.read q.read p.consumed q.consumed;
    appended = Appends-then h i j p.written q.written p.appended q.appended;
    len = omega (arith, length-append p.read q.read, p.len, q.len);
    cut = λ all rest.
        ap (turned all) (append_assoc p.read q.read rest) ∙ p.cut all (q.read ++ rest) ∙ ap (λ t. lines_in p.turns ++ t) (q.cut (omega arith) all rest)
        ∙ sym (append_assoc (lines_in p.turns) (lines_in q.turns) (turned all (next ++ rest))) ∙ ap (λ t. t ++ turned all (next ++ rest)) (sym (lines_in-append p.turns q.turns));
    answered = answered_then machine clock start old new was k l [] p.written (p.written ++ q.written) p.turns q.turns p.answered (answered_after machine clock old new k l p.written q.written q.turns q.answered);
  }

  module _ (silent : (m : M) → machine.answers m [] ≡ []) (at_start : (m : M) → machine.reached m [] m) (unmoved : (m : M) → machine.since m [] m) where
    -- the last step
    pub served_whole : (start old new : M) (was k l : K) (a b c h i j : Option (List ℕ)) (begun next : List ℕ) (taken got : ℕ) → taken < byte_limit → got ≡ 0
        → IsUnderWay machine clock start old was k a b h i begun taken → IsPumped machine clock old new k l b c i j begun next got → IsServed machine clock start new was a c h j 0
    served_whole start old new was k l a b c h i j begun next taken got low none p q =
        let all = answered_then machine clock start old new was k l [] p.written (p.written ++ q.written) p.turns q.turns p.answered (answered_after machine clock old new k l p.written q.written q.turns q.answered) in
        let out : p.written ++ q.written ≡ machine.answers start (p.turns ++ q.turns) = answered_all machine clock silent start new was l (p.written ++ q.written) (p.turns ++ q.turns) all in
        let empty : q.read ≡ [] = length-zero q.read (q.len ∙ none) in
        let len : length (p.read ++ q.read) ≡ taken = omega (arith, length-append p.read q.read, p.len, q.len, none) in
        let lines : lines_in (p.turns ++ q.turns) ≡ turned true (p.read ++ q.read) =
        lines_in-append p.turns q.turns ∙ ap (λ t. lines_in p.turns ++ t) (q.last none ∙ ap (turned true) (sym (append-nil begun))) ∙ sym (p.cut true []) ∙ ap (λ t. turned true (p.read ++ t)) (sym empty) in
        record {
          read = p.read ++ q.read;
          written = p.written ++ q.written;
          consumed = Consumes-then a b c p.read q.read p.consumed q.consumed;
          appended = Appends-then h i j p.written q.written p.appended q.appended;
          bound = omega (arith, len, low);
          turns = p.turns ++ q.turns;
          tried = [];
          mid = new;
          reached = all.reached start [] (at_start start);
          since = unmoved new;
          left = refl;
          moved = rw (append-nil (p.turns ++ q.turns)) (all.since start [] (unmoved start));
          calm = all.calm;
          timed = all.timed;
          lines = ([], append-nil (lines_in (p.turns ++ q.turns) ++ []) ∙ append-nil (lines_in (p.turns ++ q.turns)) ∙ lines);
          answers = ([], append-nil (p.written ++ q.written) ∙ out);
          done = λ e. (q.end none, lines);
          ended = λ e. absurd (elim e [ inl x ↦ omega (arith, x) | inr x ↦ omega (arith, x) ]);
          whole = λ e. (out, refl, refl);
          short = λ e. absurd (omega (arith, e));
          limit = λ e. absurd (omega (arith, e));
          at_limit = λ e. absurd (omega (arith, len, e, low));
        }

    -- a step that failed, where there was still something to read
    pub served_part : (start old new : M) (was k : K) (a b c h i j : Option (List ℕ)) (begun : List ℕ) (taken room : ℕ) (e : Stop) → has_line_feed begun ≡ false → taken < byte_limit → taken + room ≤ byte_limit → (e ≡ Limit → ⊥)
        → IsUnderWay machine clock start old was k a b h i begun taken → IsCut machine clock room old new k b c i j begun e → IsServed machine clock start new was a c h j (stop_status e)
    served_part start old new was k a b c h i j begun taken room e shut low fits ten p q =
        let s = q.stopped in
        let all = answered_then machine clock start old s.mid was k s.now [] p.written (p.written ++ s.after) p.turns q.turns p.answered (answered_after machine clock old s.mid k s.now p.written s.after q.turns s.answered) in
        let out : p.written ++ s.after ≡ machine.answers start (p.turns ++ q.turns) = answered_all machine clock silent start s.mid was s.now (p.written ++ s.after) (p.turns ++ q.turns) all in
        let len : length (p.read ++ q.read) ≡ taken + length q.read = omega (arith, length-append p.read q.read, p.len) in
        record {
          read = p.read ++ q.read;
          written = p.written ++ q.written;
          consumed = Consumes-then a b c p.read q.read p.consumed q.consumed;
          appended = Appends-then h i j p.written q.written p.appended q.appended;
          bound = omega (arith, len, q.small, fits);
          turns = p.turns ++ q.turns;
          tried = q.tried;
          mid = s.mid;
          reached = all.reached start [] (at_start start);
          since = s.since s.mid [] (unmoved s.mid);
          left = s.left;
          moved = s.since start (p.turns ++ q.turns) (all.since start [] (unmoved start));
          calm = all.calm;
          timed = all.timed;
          lines = (
            q.front.0,
            ap (λ t. (t ++ lines_in q.tried) ++ q.front.0) (lines_in-append p.turns q.turns)
                ∙ ap (λ t. t ++ q.front.0) (append_assoc (lines_in p.turns) (lines_in q.turns) (lines_in q.tried))
                ∙ append_assoc (lines_in p.turns) (lines_in q.turns ++ lines_in q.tried) q.front.0
                ∙ ap (λ t. lines_in p.turns ++ t) q.front.1 ∙ sym (p.cut true q.read),
          );
          answers = (q.prefix.0, append_assoc p.written q.written q.prefix.0 ∙ ap (λ t. p.written ++ t) q.prefix.1 ∙ out);
          done = λ h. absurd (status_zero e h);
          ended = λ h.
              let n = q.unread (elim h [ inl x ↦ status_three e x | inr x ↦ absurd (status_ten e ten x) ]) in
              ap (λ t. lines_in (p.turns ++ t)) n.1 ∙ ap lines_in (append-nil p.turns) ∙ sym (append-nil (lines_in p.turns))
              ∙ ap (λ t. lines_in p.turns ++ t) (sym (turned-open begun shut) ∙ ap (turned false) (sym (append-nil begun))) ∙ sym (p.cut false []) ∙ ap (λ t. turned false (p.read ++ t)) (sym n.0);
          whole = λ h.
              let is : e ≡ Source = elim h [ inl x ↦ absurd (status_zero e x) | inr y ↦ elim y [ inl x ↦ status_three e x | inr x ↦ absurd (status_ten e ten x) ] ] in
              let m = q.all (inl is) in (ap (λ t. p.written ++ t) (q.unread is).2 ∙ out, m.0, m.1);
          short = λ h.
              let n = status_four e h in
              let m = q.all (inr n) in (
                omega (arith, q.short n, length-append p.written q.written, length-append p.written s.after, ap length out),
                m.0,
                m.1,
              );
          limit = λ h. absurd (status_ten e ten h);
          at_limit = λ h. late e (λ is. absurd (omega (arith, h, len, low, ap length (q.unread is).0)));
        }

    -- the byte limit
    pub served_limit : (start now : M) (was is : K) (a b h i : Option (List ℕ)) (begun : List ℕ) (taken : ℕ) → has_line_feed begun ≡ false → taken ≡ byte_limit
        → IsUnderWay machine clock start now was is a b h i begun taken → IsServed machine clock start now was a b h i 10
    served_limit start now was is a b h i begun taken shut full p =
        let out : p.written ≡ machine.answers start p.turns = answered_all machine clock silent start now was is p.written p.turns p.answered in
        let front : lines_in p.turns ++ turned true begun ≡ turned true p.read =
        ap (λ t. lines_in p.turns ++ turned true t) (sym (append-nil begun)) ∙ sym (p.cut true []) ∙ ap (turned true) (append-nil p.read) in
        record {
          read = p.read;
          written = p.written;
          consumed = p.consumed;
          appended = p.appended;
          bound = omega (arith, p.len, full);
          turns = p.turns;
          tried = [];
          mid = now;
          reached = p.answered.reached start [] (at_start start);
          since = unmoved now;
          left = refl;
          moved = rw (append-nil p.turns) (p.answered.since start [] (unmoved start));
          calm = p.answered.calm;
          timed = p.answered.timed;
          lines = (turned true begun, ap (λ t. t ++ turned true begun) (append-nil (lines_in p.turns)) ∙ front);
          answers = ([], append-nil p.written ∙ out);
          done = λ e. absurd (omega (arith, e));
          ended = λ e.
              sym (append-nil (lines_in p.turns)) ∙ ap (λ t. lines_in p.turns ++ t) (sym (turned-open begun shut) ∙ ap (turned false) (sym (append-nil begun)))
              ∙ sym (p.cut false []) ∙ ap (turned false) (append-nil p.read);
          whole = λ e. (out, refl, refl);
          short = λ e. absurd (omega (arith, e));
          limit = λ e. p.len ∙ full;
          at_limit = λ e. inl refl;
        }
