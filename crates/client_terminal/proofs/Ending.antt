-- Reads, and the end of a run.
--     pumped_fed, cut_fed         a read whose bytes were fed, and one at which the run stopped
--     pumped_end, cut_end         a read at the end of the input
--     cut_unread                  a read that failed
--     fed_room, end_room          how many bytes a read gave
--     err_same                    what holds of an error
--     IsUnderWay                  what holds between two reads
--     gone_on                     one read more
--     ran_limit                   the run, where as many bytes were read as it reads
--     ran_left, ran_closed        where a line, or the server, ended it
--     ran_end, ran_cut            at the end of the input, and where a read stopped it
--     greeted_reading, ungreeted  after the greeting, and where that failed
use Rattle.std.proofs.Common.{◌≡◌, refl, sym, ap, subst, ◌∙◌, ℕ, ◌≢◌, ◌+◌, ◌<◌, ◌≤◌, ◌⊎◌, inl, inr, Bool, IsTrue, List, [], ◌++◌, Option, length, append-nil, length-append, arith, Result, Ok, Err, IfErr}
use Rattle.std.specs.Result.{IsErrAnd}
use Rattle.std.specs.Io.KnownBytes.{Appends, Consumes, IsAtEnd}
use mathlib.Core.List.{IsPrefix}
use Rattle.doc_items.specs.Maps.{Key}
use Rattle.line_loop.specs.Run.{byte_limit}
use Rattle.line_loop.proofs.Telling.{Consumes-none, Consumes-then}
use Rattle.wave_outside.specs.declared.link.LinkEvent.{LinkEvent}
use Rattle.client_session.specs.Answers.{printed}
use Rattle.client_session.specs.Machine.{MachineOf, greeted, new_machine}
use Rattle.client_terminal.specs.Going.{Origin, IsOn, IsOff, IsFed, IsReading, IsFedAs, IsStopped, IsWrittenInPart}
use Rattle.client_terminal.specs.Inputs.{input_lines}
use Rattle.client_terminal.specs.Moods.{mood_run}
use Rattle.client_terminal.specs.Pumping.{pumped_as, ended_as, IsOfRoom, IsOver, IsMore, IsEnded, IsPumped, IsCut}
use Rattle.client_terminal.specs.Runs.{Phase, RunOf, Reading, Left, Closed, in_phase, lines_in, sends, begun}
use Rattle.client_terminal.specs.Whole.{stop_status, IsWholeStatus, IsStopStatus, IsRunAs, origin_of}
use Rattle.client_terminal.specs.declared.mood.Mood.{Mood}
use Rattle.client_terminal.specs.declared.mood.Mood.TheVariants as mood
use Rattle.client_terminal.specs.declared.mood.Pumped.{Pumped}
use Rattle.client_terminal.specs.declared.stop.Stop.{Stop}
use Rattle.client_terminal.specs.declared.stop.Stop.TheVariants.{Source, Sink, Link, Memory}
use Rattle.client_terminal.proofs.Reading.{read_none, read_front, read_ended}
use Rattle.client_terminal.proofs.Stepping.{prefix_all, prefix_then, prefix_to, phase_keeps, line_waits}

-- ---- one read

module _ (tells : Bool) (o : Origin) (room : ℕ) (m : MachineOf) (read line : List ℕ) (a b : Option (List ℕ)) (es : List LinkEvent) (held : Option (List ℕ)) where
  module _ (bytes : List ℕ) (n : ℕ) (taken : Consumes a b bytes) (len : length bytes ≡ n) (small : n ≤ room) where
    fed_over : (f : RunOf → RunOf) → IsFed tells o f m (read ++ bytes) es held → IsOver tells o room f m read a b es held
    fed_over f h = record {
      bytes = bytes;
      consumed = taken;
      small = omega (arith, len, small);
      lines = h.lines;
      on = h.on;
      front = prefix_to h.lines (input_lines ((read ++ bytes) ++ [])) (input_lines (read ++ bytes)) (h.front []) (ap input_lines (append-nil (read ++ bytes)));
    }

    pumped_by : (d : Mood) → IsFedAs tells o d m (read ++ bytes) line es held → IsPumped tells o room (pumped_as d n) m read line a b es held
    pumped_by mood.Reading h = record { bytes = bytes; consumed = taken; len = len; reading = h }
    pumped_by mood.Left h = fed_over (in_phase Left) h
    pumped_by mood.Closed h = fed_over (in_phase Closed) h

    pub pumped_fed : (d : Mood) (p : Pumped) → p ≡ pumped_as d n → IsFedAs tells o d m (read ++ bytes) line es held → IsPumped tells o room p m read line a b es held
    pumped_fed d p is h = subst (λ (z : Pumped). IsPumped tells o room z m read line a b es held) (sym is) (pumped_by d h)

    pub cut_fed : (e : Stop) → e ≢ Source → IsStopped tells o (read ++ bytes) es held → IsCut tells o room e m read line a b es held
    cut_fed e other h = record {
      bytes = bytes;
      consumed = taken;
      small = omega (arith, len, small);
      off = subst (λ (z : List ℕ). IsOff tells o (input_lines z) es held) (append-nil (read ++ bytes)) (h []);
      unread = λ x. absurd (other x);
    }

  module _ (taken : Consumes a b []) where
    last_over : (f : RunOf → RunOf) → IsOn tells o f m (input_lines read) es held → IsOver tells o room f m read a b es held
    last_over f h = record {
      bytes = [];
      consumed = taken;
      small = omega arith;
      lines = input_lines read;
      on = h;
      front = prefix_all (input_lines read) (input_lines (read ++ [])) (ap input_lines (sym (append-nil read)));
    }

    pumped_last : (d : Mood) → IsAtEnd b → IsOn tells o (mood_run d) m (input_lines read) es held → IsPumped tells o room (ended_as d) m read line a b es held
    pumped_last mood.Reading last h = record { consumed = taken; end = last; on = h }
    pumped_last mood.Left last h = last_over (in_phase Left) h
    pumped_last mood.Closed last h = last_over (in_phase Closed) h

    pub pumped_end : (d : Mood) (p : Pumped) → p ≡ ended_as d → IsAtEnd b → IsOn tells o (mood_run d) m (input_lines read) es held → IsPumped tells o room p m read line a b es held
    pumped_end d p is last h = subst (λ (z : Pumped). IsPumped tells o room z m read line a b es held) (sym is) (pumped_last d last h)

    pub cut_end : (e : Stop) → e ≢ Source → IsOff tells o (input_lines read) es held → IsCut tells o room e m read line a b es held
    cut_end e other h = record {
      bytes = [];
      consumed = taken;
      small = omega arith;
      off = subst (λ (z : List ℕ). IsOff tells o (input_lines z) es held) (sym (append-nil read)) h;
      unread = λ x. absurd (other x);
    }

    pub cut_unread : IsReading tells o m read line es held → IsCut tells o room Source m read line a b es held
    cut_unread h = record {
      bytes = [];
      consumed = taken;
      small = omega arith;
      off = line_waits tells o m h.lines (input_lines (read ++ [])) es held (in_phase Reading) (phase_keeps Reading) h.on (read_front read h.lines line h.reading []);
      unread = λ x. (refl, h);
    }

room_by : (room n : ℕ) → 0 < n → n ≤ room → (d : Mood) → IsOfRoom room (pumped_as d n)
room_by room n some small mood.Reading = (some, small)
room_by room n some small mood.Left = tt
room_by room n some small mood.Closed = tt

pub fed_room : (room n : ℕ) → 0 < n → n ≤ room → (d : Mood) (p : Pumped) → p ≡ pumped_as d n → IsOfRoom room p
fed_room room n some small d p is = subst (IsOfRoom room) (sym is) (room_by room n some small d)

room_at : (room : ℕ) (d : Mood) → IsOfRoom room (ended_as d)
room_at room mood.Reading = tt
room_at room mood.Left = tt
room_at room mood.Closed = tt

pub end_room : (room : ℕ) (d : Mood) (p : Pumped) → p ≡ ended_as d → IsOfRoom room p
end_room room d p is = subst (IsOfRoom room) (sym is) (room_at room d)

pub err_same : {T : Type 0} (r : Result T Stop) (e : Stop) (P : Stop → Type 0) → IsErrAnd r (λ x. x ≡ e) → P e → IfErr r P
err_same (Ok x) e P is h = tt
err_same (Err x) e P is h = subst P (sym is) h

-- ---- statuses

apart : (n : ℕ) → 3 < n → n < 10 → IsWholeStatus n → ⊥
apart n low high (inl x) = omega (arith, low, x)
apart n low high (inr (inl x)) = omega (arith, low, x)
apart n low high (inr (inr (inl x))) = omega (arith, high, x)
apart n low high (inr (inr (inr x))) = omega (arith, high, x)

never_whole : (e : Stop) → e ≢ Source → IsWholeStatus (stop_status e) → ⊥
never_whole Source other x = other refl
never_whole Sink other x = apart 4 (omega arith) (omega arith) x
never_whole Link other x = apart 7 (omega arith) (omega arith) x
never_whole Memory other x = apart 8 (omega arith) (omega arith) x

stop_known : (e : Stop) → e ≢ Source → IsStopStatus (stop_status e)
stop_known Source other = absurd (other refl)
stop_known Sink other = inl refl
stop_known Link other = inr (inl refl)
stop_known Memory other = inr (inr (inl refl))

-- ---- the end of a run

module _ (tells : Bool) (o : Origin) (read : List ℕ) (a c : Option (List ℕ)) (es : List LinkEvent) (held : Option (List ℕ)) (status : ℕ) (taken : Consumes a c read) (most : length read ≤ byte_limit) where
  -- of what it did a front was sent and printed
  ran_off : (IsWholeStatus status → ⊥) → IsStopStatus status → IsOff tells o (input_lines read) es held → IsRunAs tells o es a c held status
  ran_off never known h = record {
    steps = h.steps;
    run = h.run;
    walk = h.walk;
    read = read;
    consumed = taken;
    bound = most;
    lines = h.lines;
    text = h.printed.0;
    appended = h.printed.1;
    front = h.printed.2;
    sent = h.events;
    whole = λ e. absurd (never e);
    done = λ e. absurd (never (inl e));
    ended = λ e. absurd (elim e [ inl x ↦ never (inr (inl x)) | inr x ↦ never (inr (inr (inl x))) ]);
    closed = λ e. absurd (never (inr (inr (inr e))));
    limit = λ e. absurd (never (inr (inr (inl e))));
    at_limit = λ e. inr (inr known);
  }

  -- no line is under way
  ran_reading : (m : MachineOf) (line : List ℕ) → (status ≡ 3) ⊎ (status ≡ 10) → (status ≡ 10 → length read ≡ byte_limit) → (length read ≡ byte_limit → status ≡ 10) → IsReading tells o m read line es held → IsRunAs tells o es a c held status
  ran_reading m line is full there h = record {
    steps = h.on.steps;
    run = in_phase Reading h.on.run;
    walk = h.on.walk;
    read = read;
    consumed = taken;
    bound = most;
    lines = prefix_then (lines_in h.on.steps) h.lines (input_lines read) (prefix_all (lines_in h.on.steps) h.lines h.on.lines) (prefix_to h.lines (input_lines (read ++ [])) (input_lines read) (read_front read h.lines line h.reading []) (ap input_lines (append-nil read)));
    text = h.on.run.text;
    appended = h.on.printed;
    front = prefix_all h.on.run.text h.on.run.text refl;
    sent = λ t. prefix_all es (o.events ++ h.on.run.events) (h.on.events t);
    whole = λ e. (refl, h.on.events);
    done = λ e. absurd (elim is [ inl x ↦ omega (arith, x, e) | inr x ↦ omega (arith, x, e) ]);
    ended = λ e. (refl, h.on.lines ∙ sym (read_ended read h.lines line h.reading));
    closed = λ e. absurd (elim is [ inl x ↦ omega (arith, x, e) | inr x ↦ omega (arith, x, e) ]);
    limit = full;
    at_limit = λ e. inl (there e);
  }

-- ---- between two reads

pub record IsUnderWay (tells : Bool) (o : Origin) (m : MachineOf) (line : List ℕ) (a b : Option (List ℕ)) (es : List LinkEvent) (held : Option (List ℕ)) (taken : ℕ) : Type 0 where
  pub read : List ℕ
  pub consumed : Consumes a b read
  pub len : length read ≡ taken
  pub reading : IsReading tells o m read line es held

module _ (tells : Bool) (o : Origin) (m : MachineOf) (line : List ℕ) (a b : Option (List ℕ)) (es : List LinkEvent) (held : Option (List ℕ)) (taken : ℕ) (u : IsUnderWay tells o m line a b es held taken) where
  pub ran_limit : taken ≡ byte_limit → IsRunAs tells o es a b held 10
  ran_limit full = ran_reading tells o u.read a b es held 10 u.consumed (omega (arith, u.len, full)) m line (inr refl) (λ e. u.len ∙ full) (λ e. refl) u.reading

  module _ (n : MachineOf) (next : List ℕ) (c : Option (List ℕ)) (fs : List LinkEvent) (kept : Option (List ℕ)) (room : ℕ) where
    pub gone_on : (count : ℕ) → IsMore tells o count n u.read next b c fs kept → IsUnderWay tells o n next a c fs kept (taken + count)
    gone_on count p = record {
      read = u.read ++ p.bytes;
      consumed = Consumes-then a b c u.read p.bytes u.consumed p.consumed;
      len = omega (arith, length-append u.read p.bytes, u.len, p.len);
      reading = p.reading;
    }

    module _ (fits : taken + room ≤ byte_limit) (below : taken < byte_limit) where
      over_at : (at : Phase) (status : ℕ) → (status ≡ 0 → at ≡ Left) → (status ≡ 11 → at ≡ Closed) → ((status ≡ 3) ⊎ (status ≡ 10) → ⊥) → (at ≡ Left) ⊎ IsStopStatus status → IsOver tells o room (in_phase at) n u.read b c fs kept → IsRunAs tells o fs a c kept status
      over_at at status left shut never rest p = record {
        steps = p.on.steps;
        run = in_phase at p.on.run;
        walk = p.on.walk;
        read = u.read ++ p.bytes;
        consumed = Consumes-then a b c u.read p.bytes u.consumed p.consumed;
        bound = (let small = p.small in omega (arith, length-append u.read p.bytes, u.len, small, fits));
        lines = prefix_then (lines_in p.on.steps) p.lines (input_lines (u.read ++ p.bytes)) (prefix_all (lines_in p.on.steps) p.lines p.on.lines) p.front;
        text = p.on.run.text;
        appended = p.on.printed;
        front = prefix_all p.on.run.text p.on.run.text refl;
        sent = λ t. prefix_all fs (o.events ++ p.on.run.events) (p.on.events t);
        whole = λ e. (refl, p.on.events);
        done = λ e. inl (left e);
        ended = λ e. absurd (never e);
        closed = shut;
        limit = λ e. absurd (never (inr e));
        at_limit = λ e. inr rest;
      }

      pub ran_left : IsOver tells o room (in_phase Left) n u.read b c fs kept → IsRunAs tells o fs a c kept 0
      ran_left p = over_at Left 0 (λ e. refl) (λ e. absurd (omega (arith, e))) (λ e. elim e [ inl x ↦ omega (arith, x) | inr x ↦ omega (arith, x) ]) (inl refl) p

      pub ran_closed : IsOver tells o room (in_phase Closed) n u.read b c fs kept → IsRunAs tells o fs a c kept 11
      ran_closed p = over_at Closed 11 (λ e. absurd (omega (arith, e))) (λ e. refl) (λ e. elim e [ inl x ↦ omega (arith, x) | inr x ↦ omega (arith, x) ]) (inr (inr (inr (inr refl)))) p

      pub ran_end : IsEnded tells o n u.read b c fs kept → IsRunAs tells o fs a c kept 0
      ran_end p = record {
        steps = p.on.steps;
        run = in_phase Reading p.on.run;
        walk = p.on.walk;
        read = u.read;
        consumed = subst (Consumes a c) (append-nil u.read) (Consumes-then a b c u.read [] u.consumed p.consumed);
        bound = omega (arith, u.len, fits);
        lines = prefix_all (lines_in p.on.steps) (input_lines u.read) p.on.lines;
        text = p.on.run.text;
        appended = p.on.printed;
        front = prefix_all p.on.run.text p.on.run.text refl;
        sent = λ t. prefix_all fs (o.events ++ p.on.run.events) (p.on.events t);
        whole = λ e. (refl, p.on.events);
        done = λ e. inr (p.end, (refl, p.on.lines));
        ended = λ e. absurd (elim e [ inl x ↦ omega (arith, x) | inr x ↦ omega (arith, x) ]);
        closed = λ e. absurd (omega (arith, e));
        limit = λ e. absurd (omega (arith, e));
        at_limit = λ e. absurd (omega (arith, e, u.len, below));
      }

      cut_off : (e : Stop) → e ≢ Source → IsCut tells o room e n u.read next b c fs kept → IsRunAs tells o fs a c kept (stop_status e)
      cut_off e other p = ran_off tells o (u.read ++ p.bytes) a c fs kept (stop_status e) (Consumes-then a b c u.read p.bytes u.consumed p.consumed)
          (let small = p.small in omega (arith, length-append u.read p.bytes, u.len, small, fits)) (never_whole e other) (stop_known e other) p.off

      pub ran_cut : (e : Stop) → IsCut tells o room e n u.read next b c fs kept → IsRunAs tells o fs a c kept (stop_status e)
      ran_cut Source p =
          let w = p.unread refl in
          ran_reading tells o u.read a c fs kept 3 (subst (Consumes a c) (ap (λ v. u.read ++ v) w.0 ∙ append-nil u.read) (Consumes-then a b c u.read p.bytes u.consumed p.consumed))
          (omega (arith, u.len, fits)) n next (inl refl) (λ e. absurd (omega (arith, e))) (λ e. absurd (omega (arith, e, u.len, below))) w.1
      ran_cut Sink p = cut_off Sink (λ e. cc) p
      ran_cut Link p = cut_off Link (λ e. cc) p
      ran_cut Memory p = cut_off Memory (λ e. cc) p

-- ---- the greeting

module _ (tells : Bool) (user : Key) (key : ℕ) (es fs : List LinkEvent) (i j : Option (List ℕ)) (m : MachineOf) (anew : m ≡ new_machine user key) where
  pub greeted_reading : (n : MachineOf) → n ≡ (greeted m).0 → (IsTrue tells → fs ≡ es ++ sends (greeted m).1.send) → Appends i j (printed (greeted m).1) → IsReading tells (origin_of user key es i) n [] [] fs j
  greeted_reading n is sent said = record {
    lines = [];
    on = record {
      steps = [];
      run = begun user key;
      walk = refl;
      machine = sym (is ∙ ap (λ (z : MachineOf). (greeted z).0) anew);
      lines = refl;
      events = λ t. sent t ∙ ap (λ (z : MachineOf). es ++ sends (greeted z).1.send) anew;
      printed = subst (λ (z : MachineOf). Appends i j (printed (greeted z).1)) anew said;
    };
    reading = read_none;
  }

  pub ungreeted : (e : Stop) (a : Option (List ℕ)) → e ≢ Source → (IsTrue tells → IsPrefix fs (es ++ sends (greeted m).1.send)) → IsWrittenInPart i j (printed (greeted m).1) → IsRunAs tells (origin_of user key es i) fs a a j (stop_status e)
  ungreeted e a other sent said = ran_off tells (origin_of user key es i) [] a a fs j (stop_status e) (Consumes-none a) (omega arith) (never_whole e other) (stop_known e other) part
    where
      part : IsOff tells (origin_of user key es i) (input_lines []) fs j
      part = record {
        steps = [];
        run = begun user key;
        walk = refl;
        lines = ([], refl);
        events = λ t. subst (λ (z : MachineOf). IsPrefix fs (es ++ sends (greeted z).1.send)) anew (sent t);
        printed = subst (λ (z : MachineOf). IsWrittenInPart i j (printed (greeted z).1)) anew said;
      }
