-- Turns that a machine answered, one after the other.
use Rattle.std.proofs.Common.{◌≡◌, ◌<◌, ℕ, ◌+◌, List, [], ◌∷◌, ◌++◌, length, refl, sym, ap, ◌∙◌, arith, append_assoc, append-nil, length-append, IsTrue, true, false, take, Result, Ok, Err, OnOk, OnErr}
use Rattle.std.proofs.lemmas.List.{map-append, length-map}
use Rattle.wave_outside.specs.declared.clock.Clock as clock_of
use Rattle.line_loop.specs.declared.line_machine.LineMachine as machine_of
use Rattle.line_loop.specs.Lines.{IsPrefix, IsCutInto, Begins, given, turned, has_line_feed}
use Rattle.line_loop.specs.Steps.{IsAnswered, IsTakenLine, IsTriedLine, IsTaken, IsTakenInPart}
use Rattle.line_loop.specs.Turns.{Turn, turn_at, lines_in, later, timed}
use Rattle.line_loop.proofs.Cutting.{begins_nothing, begins_cut, begins_longer, begins_then, cut_line, turned-last}

-- ---- readings

timed-same : (r s : ℕ → ℕ) (xs : List (List ℕ)) → ((k : ℕ) → s k ≡ r k) → timed r xs ≡ timed s xs
timed-same r s [] h = refl
timed-same r s (x ∷ xs) h = rw (h 0) (ap (λ t. turn_at (r 0) x ∷ t) (timed-same (later r) (later s) xs (λ k. h (k + 1))))

pub timed-append : (r s : ℕ → ℕ) (xs ys : List (List ℕ)) → ((k : ℕ) → s k ≡ r (k + length xs)) → timed r (xs ++ ys) ≡ timed r xs ++ timed s ys
timed-append r s [] ys h = timed-same r s ys (λ k. h k ∙ ap r (omega arith))
timed-append r s (x ∷ xs) ys h = ap (λ t. turn_at (r 0) x ∷ t) (timed-append (later r) s xs ys (λ k. h k ∙ ap r (omega arith)))

pub lines_in-append : (ts us : List Turn) → lines_in (ts ++ us) ≡ lines_in ts ++ lines_in us
lines_in-append ts us = map-append (λ t. t.line) ts us

pub length-lines_in : (ts : List Turn) → length (lines_in ts) ≡ length ts
length-lines_in ts = length-map ts (λ t. t.line)

-- ---- steps

module _ {M K : Type 0} (machine : machine_of.Ghosts M) (clock : clock_of.Ghosts K) where
  pub answered_none : (m : M) (k : K) (out : List ℕ) → IsAnswered machine clock m m k k out out []
  answered_none m k out = record {
    out = λ us. refl;
    reached = λ start us h. rw (append-nil us) h;
    since = λ start us h. rw (append-nil us) h;
    calm = λ h. h;
    timed = λ h. refl;
    readings = λ h i. ap (clock.readings k) (omega arith);
  }

  pub answered_then : (a b c : M) (k l m : K) (x y z : List ℕ) (ts us : List Turn) → IsAnswered machine clock a b k l x y ts → IsAnswered machine clock b c l m y z us
      → IsAnswered machine clock a c k m x z (ts ++ us)
  answered_then a b c k l m x y z ts us p q = record {
    out = λ vs. ap (λ t. x ++ machine.answers a t) (append_assoc ts us vs) ∙ p.out (us ++ vs) ∙ q.out vs;
    reached = λ start vs h. rw (← append_assoc vs ts us) (q.reached start (vs ++ ts) (p.reached start vs h));
    since = λ start vs h. rw (← append_assoc vs ts us) (q.since start (vs ++ ts) (p.since start vs h));
    calm = λ h. q.calm (p.calm h);
    timed = λ h.
        ap (λ t. t ++ us) (p.timed h) ∙ ap (λ t. timed (clock.readings k) (lines_in ts) ++ t) (q.timed h)
        ∙ sym (timed-append (clock.readings k) (clock.readings l) (lines_in ts) (lines_in us) (λ i. p.readings h i ∙ ap (λ n. clock.readings k (i + n)) (sym (length-lines_in ts))))
        ∙ ap (timed (clock.readings k)) (sym (lines_in-append ts us));
    readings = λ h i. q.readings h i ∙ p.readings h (i + length us) ∙ ap (clock.readings k) (omega (arith, length-append ts us));
  }

  -- with something written before
  pub answered_after : (a b : M) (k l : K) (before x : List ℕ) (ts : List Turn) → IsAnswered machine clock a b k l [] x ts → IsAnswered machine clock a b k l before (before ++ x) ts
  answered_after a b k l before x ts p = record {
    out = λ us. ap (λ t. before ++ t) (p.out us) ∙ sym (append_assoc before x (machine.answers b us));
    reached = p.reached;
    since = p.since;
    calm = p.calm;
    timed = p.timed;
    readings = p.readings;
  }

  -- what is written is the answers
  pub answered_all : ((m : M) → machine.answers m [] ≡ []) → (a b : M) (k l : K) (x : List ℕ) (ts : List Turn) → IsAnswered machine clock a b k l [] x ts → x ≡ machine.answers a ts
  answered_all silent a b k l x ts p = sym (ap (machine.answers a) (sym (append-nil ts)) ∙ p.out [] ∙ ap (λ t. x ++ t) (silent b) ∙ append-nil x)

  -- ---- a front of some lines

  pub nothing_in_part : (a : M) (k : K) (before bytes : List ℕ) → IsTakenInPart machine clock a a k before (Begins bytes)
  nothing_in_part a k before bytes = record {
    turns = [];
    tried = [];
    front = begins_nothing bytes;
    stopped = record { mid = a; now = k; after = before; answered = answered_none a k before; since = λ start us h. rw (append-nil us) h; left = refl };
  }

  pub line_in_part : (a b : M) (k : K) (before begun last line : List ℕ) → has_line_feed line ≡ false → IsCutInto begun last line [] → IsTriedLine machine a b line
      → IsTakenInPart machine clock a b k before (Begins (begun ++ (last ++ 10 ∷ [])))
  line_in_part a b k before begun last line shut keeps p = record {
    turns = [];
    tried = p.tried;
    front = begins_cut begun (last ++ 10 ∷ []) [] (lines_in p.tried) (cut_line begun last line (lines_in p.tried) shut keeps p.lines);
    stopped = record { mid = a; now = k; after = before; answered = answered_none a k before; since = p.since; left = p.left };
  }

  -- more bytes follow
  pub in_part_longer : (a b : M) (k : K) (before bytes more : List ℕ) → IsTakenInPart machine clock a b k before (Begins bytes) → IsTakenInPart machine clock a b k before (Begins (bytes ++ more))
  in_part_longer a b k before bytes more p = record {
    turns = p.turns;
    tried = p.tried;
    front = begins_longer bytes more (lines_in p.turns ++ lines_in p.tried) p.front;
    stopped = p.stopped;
  }

  -- more was taken before
  pub in_part_then : (a b c : M) (k l : K) (x y begun bytes left more whole : List ℕ) → bytes ++ more ≡ whole
      → IsTaken machine clock a b k l x y begun bytes left → IsTakenInPart machine clock b c l y (Begins (left ++ more)) → IsTakenInPart machine clock a c k x (Begins (begun ++ whole))
  in_part_then a b c k l x y begun bytes left more whole e p q = record {
    turns = p.turns ++ q.turns;
    tried = q.tried;
    front =
        let same : lines_in (p.turns ++ q.turns) ++ lines_in q.tried ≡ lines_in p.turns ++ (lines_in q.turns ++ lines_in q.tried) =
        ap (λ t. t ++ lines_in q.tried) (lines_in-append p.turns q.turns) ∙ append_assoc (lines_in p.turns) (lines_in q.turns) (lines_in q.tried) in
        rw (same, ← e) (begins_then begun bytes left more (lines_in p.turns) (lines_in q.turns ++ lines_in q.tried) p.cut q.front);
    stopped = record {
      mid = q.stopped.mid;
      now = q.stopped.now;
      after = q.stopped.after;
      answered = answered_then a b q.stopped.mid k l q.stopped.now x y q.stopped.after p.turns q.turns p.answered q.stopped.answered;
      since = q.stopped.since;
      left = q.stopped.left;
    };
  }

  pub taken_then : (a b c : M) (k l m : K) (x y z begun bytes left more last whole : List ℕ) → bytes ++ more ≡ whole
      → IsTaken machine clock a b k l x y begun bytes left → IsTaken machine clock b c l m y z left more last → IsTaken machine clock a c k m x z begun whole last
  taken_then a b c k l m x y z begun bytes left more last whole e p q = record {
    turns = p.turns ++ q.turns;
    cut = λ all rest.
        ap (λ t. turned all (begun ++ (t ++ rest))) (sym e) ∙ ap (λ t. turned all (begun ++ t)) (append_assoc bytes more rest) ∙ p.cut all (more ++ rest) ∙ ap (λ t. lines_in p.turns ++ t) (q.cut all rest)
        ∙ sym (append_assoc (lines_in p.turns) (lines_in q.turns) (turned all (last ++ rest))) ∙ ap (λ t. t ++ turned all (last ++ rest)) (sym (lines_in-append p.turns q.turns));
    answered = answered_then a b c k l m x y z p.turns q.turns p.answered q.answered;
  }

  -- what is kept of a line that hasn't ended
  pub taken_open : (a : M) (k : K) (out begun bytes left : List ℕ) → IsCutInto begun bytes left [] → IsTaken machine clock a a k k out out begun bytes left
  taken_open a k out begun bytes left h = record { turns = []; cut = h; answered = answered_none a k out }

  -- ---- one line

  one_answered : (a b : M) (k l : K) (before after : List ℕ) (time : ℕ) (line : List ℕ)
      → (IsTrue clock.tells → time ≡ clock.readings k 0) → (IsTrue clock.tells → (i : ℕ) → clock.readings l i ≡ clock.readings k (i + 1))
      → ((us : List Turn) → before ++ machine.answers a (turn_at time line ∷ us) ≡ after ++ machine.answers b us)
      → ((start : M) (us : List Turn) → machine.reached start us a → machine.reached start (us ++ turn_at time line ∷ []) b)
      → ((start : M) (us : List Turn) → machine.since start us a → machine.since start (us ++ turn_at time line ∷ []) b)
      → (machine.calm a → machine.calm b)
      → IsAnswered machine clock a b k l before after (turn_at time line ∷ [])
  one_answered a b k l before after time line now next out reached since calm = record {
    out = out;
    reached = reached;
    since = since;
    calm = calm;
    timed = λ h. ap (λ t. turn_at t line ∷ []) (now h);
    readings = next;
  }

  pub line_taken : {T E : Type 0} (r : Result T E) (a b : M) (k l : K) (before after : List ℕ) (time n : ℕ) (line : List ℕ)
      → (IsTrue clock.tells → time ≡ clock.readings k 0) → (IsTrue clock.tells → (i : ℕ) → clock.readings l i ≡ clock.readings k (i + 1))
      → take n line ∷ [] ≡ given (line ∷ [])
      → OnOk r ((us : List Turn) → before ++ machine.answers a (turn_at time (take n line) ∷ us) ≡ after ++ machine.answers b us)
      → OnOk r ((start : M) (us : List Turn) → machine.reached start us a → machine.reached start (us ++ turn_at time (take n line) ∷ []) b)
      → ((start : M) (us : List Turn) → machine.since start us a → machine.since start (us ++ turn_at time (take n line) ∷ []) b)
      → OnOk r (machine.calm a → machine.calm b)
      → OnOk r (IsTakenLine machine clock a b k l before after line)
  line_taken (Ok done) a b k l before after time n line now next same out reached since calm = record {
    turns = turn_at time (take n line) ∷ [];
    lines = same;
    answered = one_answered a b k l before after time (take n line) now next out reached since calm;
  }
  line_taken (Err e) a b k l before after time n line now next same out reached since calm = tt

  -- the line that is open ends
  pub line_ended : (a b : M) (k l : K) (x y begun last line left : List ℕ) → has_line_feed line ≡ false → IsCutInto begun last line [] → left ≡ [] → IsTakenLine machine clock a b k l x y line
      → IsTaken machine clock a b k l x y begun (last ++ 10 ∷ []) left
  line_ended a b k l x y begun last line left shut keeps none p = record {
    turns = p.turns;
    cut = rw (none) (cut_line begun last line (lines_in p.turns) shut keeps p.lines);
    answered = p.answered;
  }

pub line_tried : {M T E : Type 0} (machine : machine_of.Ghosts M) (r : Result T E) (a b : M) (time n : ℕ) (line : List ℕ) → take n line ∷ [] ≡ given (line ∷ [])
    → ((start : M) (us : List Turn) → machine.since start us a → machine.since start (us ++ turn_at time (take n line) ∷ []) b)
    → OnErr r (machine.tried a (turn_at time (take n line)) b)
    → OnErr r (IsTriedLine machine a b line)
line_tried machine (Ok done) a b time n line same since left = tt
line_tried machine (Err e) a b time n line same since left = record { tried = turn_at time (take n line) ∷ []; lines = same; since = since; left = left }

pub on_err : {T E P : Type 0} (r : Result T E) → P → OnErr r P
on_err (Ok done) p = tt
on_err (Err e) p = p
