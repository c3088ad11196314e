-- Bytes given to a machine, piece by piece, and its answers written.
--     fed_none          nothing yet
--     fed_then          one piece after another
--     fed, unfed        lines were taken, and their answers written, or only a front of them
--     stopped_in        the machine failed, and nothing was written
--     in_part_fed       some pieces were fed before the one that failed
--     chunk_fed, chunk_last         all of a chunk
--     chunk_part, chunk_unfed       not all of it
use Rattle.std.proofs.Common.{◌≡◌, ℕ, ◌+◌, ◌<◌, List, [], ◌∷◌, ◌++◌, length, take, drop, Option, Result, Ok, Err, OnOk, IfErr, refl, sym, ap, ◌∙◌, arith, append_assoc, append-nil, length-append, true, false}
use Rattle.std.proofs.lemmas.List.{take-append-drop, length-take}
use Rattle.std.specs.Io.KnownBytes.{Appends}
use Rattle.wave_outside.specs.declared.clock.Clock as clock_of
use Rattle.line_loop.specs.declared.feed.FeedFault.{FeedFault}
use Rattle.line_loop.specs.declared.feed.FeedFault.TheVariants.{Sink}
use Rattle.line_loop.specs.declared.line_machine.LineMachine as machine_of
use Rattle.line_loop.specs.Feeding.{IsFed, IsFedLine, IsFedChunk, IsFedInPart}
use Rattle.line_loop.specs.Lines.{given, turned, has_line_feed, Begins, IsPrefix, IsCutInto}
use Rattle.line_loop.specs.Steps.{IsTaken, IsTakenInPart, IsTakenLine, IsTriedLine}
use Rattle.line_loop.specs.Turns.{lines_in}
use Rattle.line_loop.proofs.Answering.{answered_none, answered_then, answered_after, lines_in-append}
use Rattle.line_loop.proofs.Cutting.{begins_cut, begins_longer, begins_then, turned-last}
use Rattle.line_loop.proofs.Telling.{Appends-none, Appends-then}

pub if_err_weaker : {T E : Type 0} (r : Result T E) (P Q : E → Type 0) → ((e : E) → P e → Q e) → IfErr r P → IfErr r Q
if_err_weaker (Ok x) P Q f p = tt
if_err_weaker (Err e) P Q f p = f e p

pub on_ok_both : {T E : Type 0} (r : Result T E) (P Q : Type 0) → (P → Q) → OnOk r P → OnOk r Q
on_ok_both (Ok x) P Q f p = f p
on_ok_both (Err e) P Q f p = tt

module _ {M K : Type 0} (machine : machine_of.Ghosts M) (clock : clock_of.Ghosts K) where
  pub fed_none : (m : M) (k : K) (h : Option (List ℕ)) (begun : List ℕ) → IsFed machine clock m m k k h h begun [] begun
  fed_none m k h begun = record { written = []; turns = []; appended = Appends-none h; cut = λ all rest. refl; answered = answered_none machine clock m k [] }

  pub fed_then : (a b c : M) (k l m : K) (h i j : Option (List ℕ)) (begun bytes left more last whole : List ℕ) → bytes ++ more ≡ whole
      → IsFed machine clock a b k l h i begun bytes left → IsFed machine clock b c l m i j left more last → IsFed machine clock a c k m h j begun whole last
  fed_then a b c k l m h i j begun bytes left more last whole e p q = record {
    written = p.written ++ q.written;
    turns = p.turns ++ q.turns;
    appended = Appends-then h i j p.written q.written p.appended q.appended;
    cut = λ all rest.
        ap (λ t. turned all (begun ++ (t ++ rest))) (sym e) ∙ ap (λ t. turned all (begun ++ t)) (append_assoc bytes more rest) ∙ p.cut all (more ++ rest) ∙ ap (λ t. lines_in p.turns ++ t) (q.cut all rest)
        ∙ sym (append_assoc (lines_in p.turns) (lines_in q.turns) (turned all (last ++ rest))) ∙ ap (λ t. t ++ turned all (last ++ rest)) (sym (lines_in-append p.turns q.turns));
    answered = answered_then machine clock a b c k l m [] p.written (p.written ++ q.written) p.turns q.turns p.answered (answered_after machine clock b c l m p.written q.written q.turns q.answered);
  }

  -- all answers were written
  pub fed : (a b : M) (k l : K) (h i : Option (List ℕ)) (out begun bytes left : List ℕ) → IsTaken machine clock a b k l [] out begun bytes left → Appends h i out → IsFed machine clock a b k l h i begun bytes left
  fed a b k l h i out begun bytes left p appended = record { written = out; turns = p.turns; appended = appended; cut = p.cut; answered = p.answered }

  pub fed_line : (a b : M) (k l : K) (h i : Option (List ℕ)) (out line : List ℕ) → IsTakenLine machine clock a b k l [] out line → Appends h i out → IsFedLine machine clock a b k l h i line
  fed_line a b k l h i out line p appended = record { written = out; turns = p.turns; appended = appended; lines = p.lines; answered = p.answered }

  -- a front of them was, and the sink failed
  pub unfed : (a b : M) (k l : K) (h i : Option (List ℕ)) (out begun bytes more whole left : List ℕ) (n : ℕ) → bytes ++ more ≡ whole → IsTaken machine clock a b k l [] out begun bytes left → n < length out → Appends h i (take n out)
      → IsFedInPart machine clock a b k h i (Begins (begun ++ whole)) Sink
  unfed a b k l h i out begun bytes more whole left n e p low appended = record {
    written = take n out;
    turns = p.turns;
    tried = [];
    appended = appended;
    front = rw (append-nil (lines_in p.turns), ← e, ← append_assoc begun bytes more) (begins_longer (begun ++ bytes) more (lines_in p.turns) (begins_cut begun bytes left (lines_in p.turns) p.cut));
    stopped = record { mid = b; now = l; after = out; answered = p.answered; since = λ start us h. rw (append-nil us) h; left = refl };
    prefix = (drop n out, take-append-drop n out);
    all = λ q. (refl, refl);
    short = λ q. omega (arith, length-take n out, low);
  }

  pub unfed_line : (a b : M) (k l : K) (h i : Option (List ℕ)) (out line : List ℕ) (n : ℕ) → IsTakenLine machine clock a b k l [] out line → n < length out → Appends h i (take n out)
      → IsFedInPart machine clock a b k h i (λ ls. IsPrefix ls (given (line ∷ []))) Sink
  unfed_line a b k l h i out line n p low appended = record {
    written = take n out;
    turns = p.turns;
    tried = [];
    appended = appended;
    front = ([], append-nil (lines_in p.turns ++ []) ∙ append-nil (lines_in p.turns) ∙ p.lines);
    stopped = record { mid = b; now = l; after = out; answered = p.answered; since = λ start us h. rw (append-nil us) h; left = refl };
    prefix = (drop n out, take-append-drop n out);
    all = λ q. (refl, refl);
    short = λ q. omega (arith, length-take n out, low);
  }

  -- the machine failed
  pub stopped_in : (e : FeedFault) → (e ≡ Sink → ⊥) → (a b : M) (k : K) (h : Option (List ℕ)) (P : List (List ℕ) → Type 0) → IsTakenInPart machine clock a b k [] P → IsFedInPart machine clock a b k h h P e
  stopped_in e other a b k h P p = record {
    written = [];
    turns = p.turns;
    tried = p.tried;
    appended = Appends-none h;
    front = p.front;
    stopped = p.stopped;
    prefix = (p.stopped.after, refl);
    all = λ q. absurd (other q);
    short = λ q. absurd (other q);
  }

  pub tried_in : (e : FeedFault) → (e ≡ Sink → ⊥) → (a b : M) (k : K) (h : Option (List ℕ)) (line : List ℕ) → IsTriedLine machine a b line → IsFedInPart machine clock a b k h h (λ ls. IsPrefix ls (given (line ∷ []))) e
  tried_in e other a b k h line p = record {
    written = [];
    turns = [];
    tried = p.tried;
    appended = Appends-none h;
    front = ([], append-nil (lines_in p.tried) ∙ p.lines);
    stopped = record { mid = a; now = k; after = []; answered = answered_none machine clock a k []; since = p.since; left = p.left };
    prefix = ([], refl);
    all = λ q. absurd (other q);
    short = λ q. absurd (other q);
  }

  pub in_part_fed : (e : FeedFault) (a b c : M) (k l : K) (h i j : Option (List ℕ)) (begun bytes left more whole : List ℕ) → bytes ++ more ≡ whole
      → IsFed machine clock a b k l h i begun bytes left → IsFedInPart machine clock b c l i j (Begins (left ++ more)) e → IsFedInPart machine clock a c k h j (Begins (begun ++ whole)) e
  in_part_fed e a b c k l h i j begun bytes left more whole is p q =
      let s = q.stopped in
      let after = p.written ++ s.after in
      let same : lines_in (p.turns ++ q.turns) ++ lines_in q.tried ≡ lines_in p.turns ++ (lines_in q.turns ++ lines_in q.tried) =
      ap (λ t. t ++ lines_in q.tried) (lines_in-append p.turns q.turns) ∙ append_assoc (lines_in p.turns) (lines_in q.turns) (lines_in q.tried) in
      record {
        written = p.written ++ q.written;
        turns = p.turns ++ q.turns;
        tried = q.tried;
        appended = Appends-then h i j p.written q.written p.appended q.appended;
        front = rw (same, ← is) (begins_then begun bytes left more (lines_in p.turns) (lines_in q.turns ++ lines_in q.tried) p.cut q.front);
        stopped = record {
          mid = s.mid;
          now = s.now;
          after = after;
          answered = answered_then machine clock a b s.mid k l s.now [] p.written after p.turns q.turns p.answered (answered_after machine clock b s.mid l s.now p.written s.after q.turns s.answered);
          since = s.since;
          left = s.left;
        };
        prefix = (q.prefix.0, append_assoc p.written q.written q.prefix.0 ∙ ap (λ t. p.written ++ t) q.prefix.1);
        all = q.all;
        short = λ z. let n = q.short z in omega (arith, n, length-append p.written q.written, length-append p.written s.after);
      }

  -- ---- a chunk

  pub chunk_fed : (a b : M) (k l : K) (h i : Option (List ℕ)) (begun bytes left : List ℕ) → 0 < length bytes → IsFed machine clock a b k l h i begun bytes left → IsFedChunk machine clock a b k l h i begun bytes left
  chunk_fed a b k l h i begun bytes left some p = record {
    written = p.written;
    turns = p.turns;
    appended = p.appended;
    cut = λ n. p.cut;
    last = λ n. absurd (omega (arith, n, some));
    answered = p.answered;
  }

  pub chunk_last : (a b : M) (k l : K) (h i : Option (List ℕ)) (begun bytes left : List ℕ) → length bytes ≡ 0 → has_line_feed begun ≡ false → IsFedLine machine clock a b k l h i begun → IsFedChunk machine clock a b k l h i begun bytes left
  chunk_last a b k l h i begun bytes left none shut p = record {
    written = p.written;
    turns = p.turns;
    appended = p.appended;
    cut = λ n. absurd (omega (arith, n, none));
    last = λ n. p.lines ∙ sym (turned-last begun shut);
    answered = p.answered;
  }

  part_of : (P Q : List (List ℕ) → Type 0) → ((ls : List (List ℕ)) → P ls → Q ls) → (e : FeedFault) (a b : M) (k : K) (h i : Option (List ℕ)) → IsFedInPart machine clock a b k h i P e → IsFedInPart machine clock a b k h i Q e
  part_of P Q f e a b k h i p = record {
    written = p.written;
    turns = p.turns;
    tried = p.tried;
    appended = p.appended;
    front = f (lines_in p.turns ++ lines_in p.tried) p.front;
    stopped = p.stopped;
    prefix = p.prefix;
    all = p.all;
    short = p.short;
  }

  pub chunk_part : (e : FeedFault) (a b : M) (k : K) (h i : Option (List ℕ)) (bytes : List ℕ) → IsFedInPart machine clock a b k h i (Begins bytes) e → IsFedInPart machine clock a b k h i (λ ls. IsPrefix ls (turned true bytes)) e
  chunk_part e a b k h i bytes p = part_of (Begins bytes) (λ ls. IsPrefix ls (turned true bytes)) (λ ls f. rw (append-nil bytes) at (f [])) e a b k h i p

  pub chunk_unfed : (e : FeedFault) (a b : M) (k : K) (h i : Option (List ℕ)) (begun bytes : List ℕ) → bytes ≡ [] → has_line_feed begun ≡ false → IsFedInPart machine clock a b k h i (λ ls. IsPrefix ls (given (begun ∷ []))) e
      → IsFedInPart machine clock a b k h i (λ ls. IsPrefix ls (turned true (begun ++ bytes))) e
  chunk_unfed e a b k h i begun bytes none shut p =
      let same : given (begun ∷ []) ≡ turned true (begun ++ bytes) = sym (turned-last begun shut) ∙ ap (turned true) (sym (append-nil begun)) ∙ ap (λ t. turned true (begun ++ t)) (sym none) in
      part_of (λ ls. IsPrefix ls (given (begun ∷ []))) (λ ls. IsPrefix ls (turned true (begun ++ bytes))) (λ ls f. rw (← same) f) e a b k h i p
