-- A run of commands, read by read.
--     status_is                    the status of a run that stopped
--     text_more, after_more, whole_more     what is printed for bytes in a row
--     cut_unread, cut_fed          a read at which the run ended
--     IsUnderWay                   what holds between two reads
--     last_read                    a read of a run that no line had ended
--     started, gone_on             at first, and after one read more
--     at_the_end, at_quit, at_cut, at_limit  what is known where the run ends
use Rattle.std.proofs.Common.{◌≡◌, ℕ, ◌+◌, ◌<◌, ◌≤◌, ◌⊎◌, inl, inr, true, false, cond, List, [], ◌∷◌, ◌++◌, length, Option, Result, Ok, Err, refl, sym, ap, subst, ◌∙◌, arith, append_assoc, append-nil, length-append}
use Rattle.std.specs.Prelude.{⊤}
use Rattle.std.specs.Result.{IsErrAnd}
use Rattle.std.specs.Io.KnownBytes.{Keeps, Appends, Consumes}
use Rattle.line_loop.specs.Run.{byte_limit}
use Rattle.line_loop.proofs.Telling.{Keeps-consumes, Consumes-none, Consumes-then, Appends-none, Appends-then}
use Rattle.wave_terminal.specs.Machines.{Machine, Course, begun, said, step, after, text, last_text, open_text, whole_text}
use Rattle.wave_terminal.specs.Runs.{stop_status, status_of, max_read, IsCommandStatus, IsAwake, IsObeyed, IsPumped, IsCut, IsFedInPart}
use Rattle.wave_terminal.specs.declared.stop.Stop.{Stop}
use Rattle.wave_terminal.specs.declared.stop.Stop.TheVariants.{Source, Sink, Memory, Limit}

pub status_is : (r : Result ⊤ Stop) (e : Stop) → IsErrAnd r (λ x. x ≡ e) → status_of r ≡ stop_status e
status_is (Ok done) e p = absurd p
status_is (Err x) e p = ap stop_status p

module _ {S : Type 0} (m : Machine S) where
  -- ---- bytes in a row

  pub text_more : (p : Course S) (xs ys : List ℕ) → text m p (xs ++ ys) ≡ text m p xs ++ text m (after m p xs) ys
  text_more p [] ys = refl
  text_more p (x ∷ xs) ys = ap (λ z. said m p x ++ z) (text_more (step m p x) xs ys) ∙ sym (append_assoc (said m p x) (text m (step m p x) xs) (text m (after m (step m p x) xs) ys))

  pub after_more : (p : Course S) (xs ys : List ℕ) → after m p (xs ++ ys) ≡ after m (after m p xs) ys
  after_more p [] ys = refl
  after_more p (x ∷ xs) ys = after_more (step m p x) xs ys

  whole_more : (p : Course S) (xs ys : List ℕ) → whole_text m p (xs ++ ys) ≡ text m p xs ++ whole_text m (after m p xs) ys
  whole_more p xs ys =
      ap (λ z. z ++ last_text m (after m p (xs ++ ys))) (text_more p xs ys)
      ∙ ap (λ (q : Course S). (text m p xs ++ text m (after m p xs) ys) ++ last_text m q) (after_more p xs ys)
      ∙ append_assoc (text m p xs) (text m (after m p xs) ys) (last_text m (after m (after m p xs) ys))

  quit_last : (q : Course S) → q.quit ≡ true → last_text m q ≡ []
  quit_last q e = ap (λ b. cond b [] (open_text m q q.line)) e

  -- ---- one read

  pub cut_unread : (p : Course S) (room : ℕ) (a b i : Option (List ℕ)) → Keeps a b → IsCut m p room a b i i Source
  cut_unread p room a b i kept = record {
    read = [];
    written = [];
    consumed = Keeps-consumes a b kept;
    appended = Appends-none i;
    small = omega arith;
    front = (whole_text m p [], refl);
    unread = λ q. (refl, refl);
    short = λ q. absurd (cc);
    never = λ q. absurd (cc);
  }

  -- what was fed of the bytes that were read
  pub cut_fed : (p : Course S) (room : ℕ) (a b i j : Option (List ℕ)) (bytes : List ℕ) (e : Stop) → length bytes ≤ room → Consumes a b bytes → IsFedInPart m p i j bytes e → IsCut m p room a b i j e
  cut_fed p room a b i j bytes e small consumed f = record {
    read = bytes;
    written = f.written;
    consumed = consumed;
    appended = f.appended;
    small = small;
    front = f.front;
    unread = λ q. absurd (never f.cause (inl q));
    short = f.short;
    never = λ q. never f.cause (inr q);
  }
    where
      never : (e ≡ Sink) ⊎ (e ≡ Memory) → (e ≡ Source) ⊎ (e ≡ Limit) → ⊥
      never (inl x) (inl y) = absurd (let w : Sink ≡ Source = sym x ∙ y in cc)
      never (inl x) (inr y) = absurd (let w : Sink ≡ Limit = sym x ∙ y in cc)
      never (inr x) (inl y) = absurd (let w : Memory ≡ Source = sym x ∙ y in cc)
      never (inr x) (inr y) = absurd (let w : Memory ≡ Limit = sym x ∙ y in cc)

  -- ---- the whole run

  -- so many bytes were read from version v on, and what the lines print that ended in them was written
  pub record IsUnderWay (v : S) (q : Course S) (a b i j : Option (List ℕ)) (taken : ℕ) : Type 0 where
    pub read : List ℕ
    pub written : List ℕ
    pub consumed : Consumes a b read
    pub appended : Appends i j written
    pub len : length read ≡ taken
    pub goes : q ≡ after m (begun v) read
    pub told : written ≡ text m (begun v) read

  pub started : (v : S) (q : Course S) (a i : Option (List ℕ)) → q ≡ begun v → IsUnderWay v q a a i i 0
  started v q a i e = record { read = []; written = []; consumed = Consumes-none a; appended = Appends-none i; len = refl; goes = e; told = refl }

  module _ (v : S) (q : Course S) (a b i j : Option (List ℕ)) (taken : ℕ) (u : IsUnderWay v q a b i j taken) where
    told_more : (ys : List ℕ) → u.written ++ text m q ys ≡ text m (begun v) (u.read ++ ys)
    told_more ys = ap (λ z. z ++ text m q ys) u.told ∙ ap (λ (p : Course S). text m (begun v) u.read ++ text m p ys) u.goes ∙ sym (text_more (begun v) u.read ys)

    whole_is : (ys : List ℕ) → u.written ++ whole_text m q ys ≡ whole_text m (begun v) (u.read ++ ys)
    whole_is ys = ap (λ z. z ++ whole_text m q ys) u.told ∙ ap (λ (p : Course S). text m (begun v) u.read ++ whole_text m p ys) u.goes ∙ sym (whole_more (begun v) u.read ys)

    after_is : (ys : List ℕ) → after m q ys ≡ after m (begun v) (u.read ++ ys)
    after_is ys = ap (λ (p : Course S). after m p ys) u.goes ∙ sym (after_more (begun v) u.read ys)

    pub last_read : q.quit ≡ false → (ys : List ℕ) → length ys ≤ max_read → IsAwake m v (u.read ++ ys)
    last_read awake ys small = record { before = u.read; last = ys; parts = refl; awake = ap (λ (p : Course S). p.quit) (sym u.goes) ∙ awake; small = small }

    pub gone_on : (r : Course S) (c k : Option (List ℕ)) (got : ℕ) → 0 < got → IsPumped m q r b c j k got → IsUnderWay v r a c i k (taken + got)
    gone_on r c k got some p = record {
      read = u.read ++ p.read;
      written = u.written ++ p.written;
      consumed = Consumes-then a b c u.read p.read u.consumed p.consumed;
      appended = Appends-then i j k u.written p.written u.appended p.appended;
      len = omega (arith, length-append u.read p.read, u.len, p.len);
      goes = p.goes some ∙ after_is p.read;
      told = ap (λ z. u.written ++ z) (p.told some) ∙ told_more p.read;
    }

    pub at_the_end : (r : Course S) (c k : Option (List ℕ)) (got : ℕ) → got ≡ 0 → taken < byte_limit → q.quit ≡ false → IsPumped m q r b c j k got → IsObeyed m v a c i k 0
    at_the_end r c k got none low awake p =
        let nothing : p.read ≡ [] = empty p.read (p.len ∙ none) in
        let all : u.written ++ p.written ≡ whole_text m (begun v) (u.read ++ p.read) =
        ap (λ z. u.written ++ z) (p.last none) ∙ ap (λ z. u.written ++ whole_text m q z) (sym nothing) ∙ whole_is p.read in
        record {
          read = u.read ++ p.read;
          written = u.written ++ p.written;
          consumed = Consumes-then a b c u.read p.read u.consumed p.consumed;
          appended = Appends-then i j k u.written p.written u.appended p.appended;
          bound = omega (arith, length-append u.read p.read, u.len, p.len, none, low);
          awake = last_read awake p.read (omega (arith, p.len, none));
          front = ([], append-nil (u.written ++ p.written) ∙ all);
          known = inl refl;
          done = λ e. (inl (p.end none), all);
          ended = λ e. absurd (elim e [ inl x ↦ omega (arith, x) | inr x ↦ omega (arith, x) ]);
          short = λ e. absurd (omega (arith, e));
          limit = λ e. absurd (omega (arith, e));
          at_limit = λ e. absurd (omega (arith, length-append u.read p.read, u.len, p.len, none, low, e));
        }
      where
        empty : (xs : List ℕ) → length xs ≡ 0 → xs ≡ []
        empty [] e = refl
        empty (x ∷ xs) e = absurd (omega (arith, e))

    quit_here : taken ≤ byte_limit → IsAwake m v u.read → q.quit ≡ true → IsObeyed m v a b i j 0
    quit_here low awake quit =
        let ended : (after m (begun v) u.read).quit ≡ true = ap (λ (p : Course S). p.quit) (sym u.goes) ∙ quit in
        let all : u.written ≡ whole_text m (begun v) u.read = u.told ∙ sym (ap (λ z. text m (begun v) u.read ++ z) (quit_last (after m (begun v) u.read) ended) ∙ append-nil (text m (begun v) u.read)) in
        record {
          read = u.read;
          written = u.written;
          consumed = u.consumed;
          appended = u.appended;
          bound = omega (arith, u.len, low);
          awake = awake;
          front = ([], append-nil u.written ∙ all);
          known = inl refl;
          done = λ e. (inr ended, all);
          ended = λ e. absurd (elim e [ inl x ↦ omega (arith, x) | inr x ↦ omega (arith, x) ]);
          short = λ e. absurd (omega (arith, e));
          limit = λ e. absurd (omega (arith, e));
          at_limit = λ e. inl ended;
        }

    pub at_the_limit : taken ≡ byte_limit → q.quit ≡ false → IsObeyed m v a b i j 10
    at_the_limit full awake = record {
      read = u.read;
      written = u.written;
      consumed = u.consumed;
      appended = u.appended;
      bound = omega (arith, u.len, full);
      awake = subst (IsAwake m v) (append-nil u.read) (last_read awake [] (omega arith));
      front = (last_text m (after m (begun v) u.read), ap (λ z. z ++ last_text m (after m (begun v) u.read)) u.told);
      known = inr (inr (inr (inr refl)));
      done = λ e. absurd (omega (arith, e));
      ended = λ e. u.told;
      short = λ e. absurd (omega (arith, e));
      limit = λ e. u.len ∙ full;
      at_limit = λ e. inr (inl refl);
    }

    status_known : (e : Stop) → IsCommandStatus (stop_status e)
    status_known Source = inr (inl refl)
    status_known Sink = inr (inr (inl refl))
    status_known Memory = inr (inr (inr (inl refl)))
    status_known Limit = inr (inr (inr (inr refl)))

    pub at_cut : (c k : Option (List ℕ)) (room : ℕ) (e : Stop) → taken < byte_limit → taken + room ≤ byte_limit → room ≤ max_read → q.quit ≡ false → IsCut m q room b c j k e → IsObeyed m v a c i k (stop_status e)
    at_cut c k room e low fits chunk awake p =
        let whole = whole_is p.read in
        record {
          read = u.read ++ p.read;
          written = u.written ++ p.written;
          consumed = Consumes-then a b c u.read p.read u.consumed p.consumed;
          appended = Appends-then i j k u.written p.written u.appended p.appended;
          bound = (let small = p.small in omega (arith, length-append u.read p.read, u.len, small, fits));
          awake = last_read awake p.read (let small = p.small in omega (arith, small, chunk));
          front = (p.front.0, append_assoc u.written p.written p.front.0 ∙ ap (λ z. u.written ++ z) p.front.1 ∙ whole);
          known = status_known e;
          done = never_done _ e;
          ended = source e p;
          short = sink e p whole;
          limit = never_ten _ e p.never;
          at_limit = late e p;
        }
      where
        never_done : (A : Type 0) (e : Stop) → stop_status e ≡ 0 → A
        never_done A Source x = absurd (omega (arith, x))
        never_done A Sink x = absurd (omega (arith, x))
        never_done A Memory x = absurd (omega (arith, x))
        never_done A Limit x = absurd (omega (arith, x))

        source : (e : Stop) (p : IsCut m q room b c j k e) → (stop_status e ≡ 3) ⊎ (stop_status e ≡ 10) → u.written ++ p.written ≡ text m (begun v) (u.read ++ p.read)
        source Source p x =
            let none = p.unread refl in
            ap (λ z. u.written ++ z) none.1 ∙ append-nil u.written ∙ u.told ∙ ap (text m (begun v)) (sym (append-nil u.read) ∙ ap (λ z. u.read ++ z) (sym none.0))
        source Sink p x = absurd (elim x [ inl y ↦ omega (arith, y) | inr y ↦ omega (arith, y) ])
        source Memory p x = absurd (elim x [ inl y ↦ omega (arith, y) | inr y ↦ omega (arith, y) ])
        source Limit p x = absurd (p.never refl)

        sink : (e : Stop) (p : IsCut m q room b c j k e) → u.written ++ whole_text m q p.read ≡ whole_text m (begun v) (u.read ++ p.read) → stop_status e ≡ 4 → length (u.written ++ p.written) < length (whole_text m (begun v) (u.read ++ p.read))
        sink Sink p w x =
            let less = p.short refl in
            let long = ap length (sym w) ∙ length-append u.written (whole_text m q p.read) in
            omega (arith, less, long, length-append u.written p.written)
        sink Source p w x = absurd (omega (arith, x))
        sink Memory p w x = absurd (omega (arith, x))
        sink Limit p w x = absurd (omega (arith, x))

        never_ten : (A : Type 0) (e : Stop) → (e ≡ Limit → ⊥) → stop_status e ≡ 10 → A
        never_ten A Source n x = absurd (omega (arith, x))
        never_ten A Sink n x = absurd (omega (arith, x))
        never_ten A Memory n x = absurd (omega (arith, x))
        never_ten A Limit n x = absurd (n refl)

        late : (e : Stop) (p : IsCut m q room b c j k e) → length (u.read ++ p.read) ≡ byte_limit → ((after m (begun v) (u.read ++ p.read)).quit ≡ true) ⊎ ((stop_status e ≡ 10) ⊎ ((stop_status e ≡ 4) ⊎ (stop_status e ≡ 8)))
        late Source p x = absurd (let none = ap length (p.unread refl).0 in omega (arith, length-append u.read p.read, u.len, none, low, x))
        late Sink p x = inr (inr (inl refl))
        late Memory p x = inr (inr (inr refl))
        late Limit p x = absurd (p.never refl)

  module _ (v : S) (q : Course S) (a b i j : Option (List ℕ)) (taken : ℕ) (u : IsUnderWay v q a b i j taken) where
    pub at_quit : (r : Course S) (c k : Option (List ℕ)) (got : ℕ) → 0 < got → got ≤ max_read → taken + got ≤ byte_limit → q.quit ≡ false → r.quit ≡ true → IsPumped m q r b c j k got → IsObeyed m v a c i k 0
    unfolding gone_on
    at_quit r c k got some chunk low awake quit p =
        quit_here v r a c i k (taken + got) (gone_on v q a b i j taken u r c k got some p) low (last_read v q a b i j taken u awake p.read (let len = p.len in omega (arith, len, chunk))) quit
