-- One step more.
--     prefix_all, prefix_then, prefix_after, prefix_to     what begins a list
--     parts_all, parts_none, parts_then     what of a text was written
--     Keeps f, looked_keeps, synced_keeps, lined_keeps, phase_keeps     what sends nothing, and takes back nothing that was printed
--     off_at                 the run stopped on the way to what f makes of a run
--     line_goes, line_stops  a line was obeyed; the run stopped at it
--     heard_goes, moved_goes, heard_stops, unlooked_stops  a message was taken, nothing came or the link was closed; the run stopped at it
--     is_looking, is_syncing the phase of a run that looks at the link, and of one that waits
--     looked_out             as many messages came as one line gets
--     below, at_most         fewer, and as many
--     out_first, out_second, in_both, out_goes, out_stops    so of the two numbers of one that waits, and what was then printed
--     synced_done, synced_out, synced_stops    nothing is left to wait for; no more looks are left, which is printed; the run stopped then
use Rattle.std.proofs.Common.{◌≡◌, refl, sym, ap, subst, ◌∙◌, ℕ, ◌<◌, ◌≤◌, ◌==◌, ◌||◌, Bool, true, false, cond, IsTrue, ◌≢◌, Result, Ok, Err, IfOk, OnOk, OnErr, List, [], ◌∷◌, ◌++◌, Option, codes, append_assoc, append-nil, arith}
use Rattle.std.proofs.lemmas.Bool.{eqb-true, eq-eqb}
use Rattle.std.specs.Io.KnownBytes.{Appends}
use mathlib.Core.List.{IsPrefix}
use Rattle.line_loop.proofs.Telling.{Appends-none, Appends-then}
use Rattle.wave_outside.specs.declared.link.LinkEvent.{LinkEvent}
use Rattle.wave_outside.specs.declared.link.LinkEvent.TheVariants.{Received}
use Rattle.client_commands.specs.Lines.{command_of}
use Rattle.client_session.specs.Answers.{printed}
use Rattle.client_session.specs.Machine.{MachineOf, Acted, IsCommanded, is_waiting}
use Rattle.client_session.specs.declared.acts.Acts.{Acts}
use Rattle.client_terminal.specs.Moods.{went_on}
use Rattle.client_terminal.specs.declared.stop.Stop.{Stop}
use Rattle.client_terminal.specs.Going.{Origin, IsOn, IsOff, IsWrittenInPart, IsHeard, IsUnmoved, IsHalfHeard, IsUnlooked}
use Rattle.client_terminal.specs.Runs.{Step, Line, Look, Phase, RunOf, Reading, Looking, Syncing, Left, max_looks, sends, acted, in_phase, polled, says, looked, unsettled, synced, lined, reply_of, heard, IsStep, IsWalk, lines_in}

-- ---- fronts

module _ {X : Type 0} where
  pub prefix_all : (xs ys : List X) → xs ≡ ys → IsPrefix xs ys
  prefix_all xs ys e = ([], append-nil xs ∙ e)

  pub prefix_then : (xs ys zs : List X) → IsPrefix xs ys → IsPrefix ys zs → IsPrefix xs zs
  prefix_then xs ys zs p q = (p.0 ++ q.0, sym (append_assoc xs p.0 q.0) ∙ ap (λ v. v ++ q.0) p.1 ∙ q.1)

  pub prefix_after : (xs ys zs : List X) → IsPrefix ys zs → IsPrefix (xs ++ ys) (xs ++ zs)
  prefix_after xs ys zs p = (p.0, append_assoc xs ys p.0 ∙ ap (λ v. xs ++ v) p.1)

  pub prefix_to : (xs ys zs : List X) → IsPrefix xs ys → ys ≡ zs → IsPrefix xs zs
  prefix_to xs ys zs p e = (p.0, p.1 ∙ e)

  -- lists, after what was there at the start
  after_start : (a b c d e : List X) → c ≡ b ++ d → b ≡ a ++ e → c ≡ a ++ (e ++ d)
  after_start a b c d e is begun = is ∙ ap (λ v. v ++ d) begun ∙ append_assoc a e d

pub parts_all : (a b : Option (List ℕ)) (t : List ℕ) → Appends a b t → IsWrittenInPart a b t
parts_all a b t h = (t, h, prefix_all t t refl)

pub parts_none : (a b : Option (List ℕ)) (t : List ℕ) → b ≡ a → IsWrittenInPart a b t
parts_none a b t e = ([], subst (λ (z : Option (List ℕ)). Appends a z []) (sym e) (Appends-none a), (t, refl))

pub parts_then : (a b c : Option (List ℕ)) (s t : List ℕ) → Appends a b s → IsWrittenInPart b c t → IsWrittenInPart a c (s ++ t)
parts_then a b c s t h p = (s ++ p.0, Appends-then a b c s p.0 h p.1, prefix_after s p.0 t p.2)

-- ---- what changes no more than the phase, and what is printed

pub record Keeps (f : RunOf → RunOf) : Type 0 where
  pub events : (r : RunOf) → (f r).events ≡ r.events
  pub text : (r : RunOf) → IsPrefix r.text (f r).text

pub phase_keeps : (p : Phase) → Keeps (in_phase p)
phase_keeps p = record { events = λ r. refl; text = λ r. prefix_all r.text r.text refl }

pub looked_keeps : (j : ℕ) → Keeps (looked j)
looked_keeps j = record { events = λ r. refl; text = λ r. prefix_all r.text r.text refl }

synced_events : (b c : Bool) (i j : ℕ) (r : RunOf) → (cond b (cond c (unsettled r) (in_phase (Syncing i j) r)) (looked 0 r)).events ≡ r.events
synced_events true true i j r = refl
synced_events true false i j r = refl
synced_events false c i j r = refl

synced_text : (b c : Bool) (i j : ℕ) (r : RunOf) → IsPrefix r.text (cond b (cond c (unsettled r) (in_phase (Syncing i j) r)) (looked 0 r)).text
synced_text true true i j r = (codes "! not settled\n", refl)
synced_text true false i j r = prefix_all r.text r.text refl
synced_text false c i j r = prefix_all r.text r.text refl

pub synced_keeps : (i j : ℕ) → Keeps (synced i j)
synced_keeps i j = record {
  events = λ r. synced_events (is_waiting r.machine) (i == max_looks || j == max_looks) i j r;
  text = λ r. synced_text (is_waiting r.machine) (i == max_looks || j == max_looks) i j r;
}

lined_by : (ends waits : Bool) → Keeps (λ r. cond ends (in_phase Left r) (cond waits (synced 0 0 r) (looked 0 r)))
lined_by true waits = phase_keeps Left
lined_by false true = synced_keeps 0 0
lined_by false false = looked_keeps 0

pub lined_keeps : (a : Acts) → Keeps (lined a)
lined_keeps a = lined_by a.ends a.waits

module _ (tells : Bool) (o : Origin) where
  pub off_at : (f : RunOf → RunOf) (r : RunOf) (steps : List Step) (ls : List (List ℕ)) (es : List LinkEvent) (held : Option (List ℕ)) → Keeps f → IsWalk o.run steps (f r) → IsPrefix (lines_in steps) ls
      → (IsTrue tells → IsPrefix es (o.events ++ r.events)) → IsWrittenInPart o.held held r.text → IsOff tells o ls es held
  off_at f r steps ls es held keeps walk lines sent said = record {
    steps = steps;
    run = f r;
    walk = walk;
    lines = lines;
    events = λ t. prefix_to es (o.events ++ r.events) (o.events ++ (f r).events) (sent t) (ap (λ v. o.events ++ v) (sym (keeps.events r)));
    printed = (said.0, said.1, prefix_then said.0 r.text (f r).text said.2 (keeps.text r));
  }

  -- ---- lines

  module _ (m : MachineOf) (ls : List (List ℕ)) (es fs : List LinkEvent) (i j : Option (List ℕ)) (line : List ℕ) (a : Acted) (h : IsOn tells o (in_phase Reading) m ls es i) (done : IsCommanded m (command_of line) a) where
    abbrev here : RunOf
    here = in_phase Reading h.run

    walked : IsWalk o.run (Line line ∷ h.steps) (lined a.1 (acted here a))
    walked = (here, h.walk, (a, subst (λ (z : MachineOf). IsCommanded z (command_of line) a) (sym h.machine) done, refl))

    pub line_goes : (f : RunOf → RunOf) → ((r : RunOf) → lined a.1 r ≡ f r) → (n : MachineOf) → n ≡ a.0 → (IsTrue tells → fs ≡ es ++ sends a.1.send) → Appends i j (printed a.1) → IsOn tells o f n (ls ++ line ∷ []) fs j
    line_goes f is n same sent said = record {
      steps = Line line ∷ h.steps;
      run = acted here a;
      walk = subst (λ (z : RunOf). IsWalk o.run (Line line ∷ h.steps) z) (is (acted here a)) walked;
      machine = sym same;
      lines = ap (λ v. v ++ line ∷ []) h.lines;
      events = λ t. after_start o.events es fs (sends a.1.send) h.run.events (sent t) (h.events t);
      printed = Appends-then o.held i j h.run.text (printed a.1) h.printed said;
    }

    -- of what that sends and prints a front went out
    pub line_stops : (IsTrue tells → IsPrefix fs (es ++ sends a.1.send)) → IsWrittenInPart i j (printed a.1) → IsOff tells o (ls ++ line ∷ []) fs j
    line_stops sent said =
        off_at (lined a.1) (acted here a) (Line line ∷ h.steps) (ls ++ line ∷ []) fs j (lined_keeps a.1) walked (prefix_all (lines_in h.steps ++ line ∷ []) (ls ++ line ∷ []) (ap (λ v. v ++ line ∷ []) h.lines))
        (λ t. prefix_to fs (es ++ sends a.1.send) (o.events ++ (h.run.events ++ sends a.1.send)) (sent t) (after_start o.events es (es ++ sends a.1.send) (sends a.1.send) h.run.events refl (h.events t)))
        (parts_then o.held i j h.run.text (printed a.1) h.printed said)

  -- nothing of a line was done
  pub line_waits : (m : MachineOf) (ls ks : List (List ℕ)) (es : List LinkEvent) (held : Option (List ℕ)) (f : RunOf → RunOf) → Keeps f → IsOn tells o f m ls es held → IsPrefix ls ks → IsOff tells o ks es held
  line_waits m ls ks es held f keeps h more =
      off_at f h.run h.steps ks es held keeps h.walk (prefix_then (lines_in h.steps) ls ks (prefix_all (lines_in h.steps) ls h.lines) more)
      (λ t. prefix_all es (o.events ++ h.run.events) (h.events t))
      (parts_all o.held held h.run.text h.printed)

  -- ---- looks

  -- `p` is the phase, in which `f` makes what is looked with, and `g` what follows
  module _ (p : Phase) (f g : RunOf → RunOf) (m n : MachineOf) (ls : List (List ℕ)) (es fs : List LinkEvent) (i j : Option (List ℕ)) (h : IsOn tells o f m ls es i) (is : f h.run ≡ in_phase p h.run) where
    abbrev pub now : RunOf
    now = in_phase p h.run

    walk_now : IsWalk o.run h.steps now
    walk_now = subst (λ (z : RunOf). IsWalk o.run h.steps z) is h.walk

    pub heard_goes : ((b : List ℕ) → IsStep p now (Look (Received b)) (g (heard now b))) → IsHeard tells m n es fs i j → IsOn tells o g n ls fs j
    heard_goes steps u =
        let v : IsHeard tells h.run.machine n es fs i j = subst (λ (z : MachineOf). IsHeard tells z n es fs i j) (sym h.machine) u in
        let b = v.bytes in
        let a = reply_of h.run.machine b in
        record {
          steps = Look (Received b) ∷ h.steps;
          run = heard now b;
          walk = (now, walk_now, steps b);
          machine = sym v.machine;
          lines = h.lines;
          events = λ t. after_start o.events (es ++ Received b ∷ []) fs (sends a.1.send) (h.run.events ++ Received b ∷ []) (v.events t) (after_start o.events es (es ++ Received b ∷ []) (Received b ∷ []) h.run.events refl (h.events t));
          printed = Appends-then o.held i j h.run.text (printed a.1) h.printed v.printed;
        }

    pub heard_stops : Keeps g → ((b : List ℕ) → IsStep p now (Look (Received b)) (g (heard now b))) → IsHalfHeard tells m es fs i j → IsOff tells o ls fs j
    heard_stops keeps steps u =
        let v : IsHalfHeard tells h.run.machine es fs i j = subst (λ (z : MachineOf). IsHalfHeard tells z es fs i j) (sym h.machine) u in
        let b = v.bytes in
        let a = reply_of h.run.machine b in
        off_at g (heard now b) (Look (Received b) ∷ h.steps) ls fs j keeps (now, walk_now, steps b) (prefix_all (lines_in h.steps) ls h.lines)
        (λ t. prefix_to fs ((es ++ Received b ∷ []) ++ sends a.1.send) (o.events ++ ((h.run.events ++ Received b ∷ []) ++ sends a.1.send)) (v.events t)
        (after_start o.events (es ++ Received b ∷ []) ((es ++ Received b ∷ []) ++ sends a.1.send) (sends a.1.send) (h.run.events ++ Received b ∷ []) refl (after_start o.events es (es ++ Received b ∷ []) (Received b ∷ []) h.run.events refl (h.events t))))
        (parts_then o.held i j h.run.text (printed a.1) h.printed v.printed)

    pub moved_goes : (e : LinkEvent) → lines_in (Look e ∷ h.steps) ≡ lines_in h.steps → IsStep p now (Look e) (g (polled now e)) → IsUnmoved tells e m n es fs i j → IsOn tells o g n ls fs j
    moved_goes e same step u = record {
      steps = Look e ∷ h.steps;
      run = polled now e;
      walk = (now, walk_now, step);
      machine = h.machine ∙ sym u.machine;
      lines = same ∙ h.lines;
      events = λ t. after_start o.events es fs (e ∷ []) h.run.events (u.events t) (h.events t);
      printed = subst (λ (z : Option (List ℕ)). Appends o.held z h.run.text) (sym u.held) h.printed;
    }

  pub unlooked_stops : (f : RunOf → RunOf) (m : MachineOf) (ls : List (List ℕ)) (es fs : List LinkEvent) (i j : Option (List ℕ)) → Keeps f → IsOn tells o f m ls es i → IsUnlooked tells es fs i j → IsOff tells o ls fs j
  unlooked_stops f m ls es fs i j keeps h u =
      off_at f h.run h.steps ls fs j keeps h.walk (prefix_all (lines_in h.steps) ls h.lines)
      (λ t. prefix_all fs (o.events ++ h.run.events) (u.events t ∙ h.events t))
      (subst (λ (z : Option (List ℕ)). IsWrittenInPart o.held z h.run.text) (sym u.held) (parts_all o.held i h.run.text h.printed))

  -- ---- ends of looking

  pub on_same : (f g : RunOf → RunOf) (m : MachineOf) (ls : List (List ℕ)) (es : List LinkEvent) (held : Option (List ℕ)) (h : IsOn tells o f m ls es held) → f h.run ≡ g h.run → IsOn tells o g m ls es held
  on_same f g m ls es held h is = record { steps = h.steps; run = h.run; walk = subst (λ (z : RunOf). IsWalk o.run h.steps z) is h.walk; machine = h.machine; lines = h.lines; events = h.events; printed = h.printed }

  module _ (a b : ℕ) (m : MachineOf) (ls : List (List ℕ)) (es : List LinkEvent) (held : Option (List ℕ)) (h : IsOn tells o (synced a b) m ls es held) where
    synced_is : (w c : Bool) → is_waiting m ≡ w → (a == max_looks || b == max_looks) ≡ c → synced a b h.run ≡ cond w (cond c (unsettled h.run) (in_phase (Syncing a b) h.run)) (looked 0 h.run)
    synced_is w c waits out = (λ k. cond (waiting k) (cond (out k) (unsettled h.run) (in_phase (Syncing a b) h.run)) (looked 0 h.run))
      where
        waiting : is_waiting h.run.machine ≡ w
        waiting = ap is_waiting h.machine ∙ waits

    pub is_syncing : is_waiting m ≡ true → (a == max_looks || b == max_looks) ≡ false → synced a b h.run ≡ in_phase (Syncing a b) h.run
    is_syncing waits out = synced_is true false waits out

    pub synced_done : is_waiting m ≡ false → IsOn tells o (looked 0) m ls es held
    synced_done settled = on_same (synced a b) (looked 0) m ls es held h (synced_is false (a == max_looks || b == max_looks) settled refl)

    pub synced_out : is_waiting m ≡ true → (a == max_looks || b == max_looks) ≡ true → (j : Option (List ℕ)) → Appends held j (codes "! not settled\n") → IsOn tells o (looked 0) m ls es j
    synced_out waits out j said = record {
      steps = h.steps;
      run = says h.run (codes "! not settled\n");
      walk = subst (λ (z : RunOf). IsWalk o.run h.steps z) (synced_is true true waits out) h.walk;
      machine = h.machine;
      lines = h.lines;
      events = h.events;
      printed = Appends-then o.held held j h.run.text (codes "! not settled\n") h.printed said;
    }

    pub synced_stops : is_waiting m ≡ true → (a == max_looks || b == max_looks) ≡ true → (j : Option (List ℕ)) → IsWrittenInPart held j (codes "! not settled\n") → IsOff tells o ls es j
    synced_stops waits out j said =
        off_at (looked 0) (says h.run (codes "! not settled\n")) h.steps ls es j (looked_keeps 0) (subst (λ (z : RunOf). IsWalk o.run h.steps z) (synced_is true true waits out) h.walk) (prefix_all (lines_in h.steps) ls h.lines)
        (λ t. prefix_all es (o.events ++ h.run.events) (h.events t))
        (parts_then o.held held j h.run.text (codes "! not settled\n") h.printed said)

pub is_looking : (j : ℕ) (r : RunOf) → (j == max_looks) ≡ false → looked j r ≡ in_phase (Looking j) r
is_looking j r e = ap (λ c. in_phase (cond c Reading (Looking j)) r) e

pub looked_out : (j : ℕ) (r : RunOf) → (j == max_looks) ≡ true → looked j r ≡ in_phase Reading r
looked_out j r e = ap (λ c. in_phase (cond c Reading (Looking j)) r) e

not_true : (b : Bool) → (b ≡ true → ⊥) → b ≡ false
not_true true n = absurd (n refl)
not_true false n = refl

pub below : (j : ℕ) → j < max_looks → (j == max_looks) ≡ false
below j low = not_true (j == max_looks) (λ e. let same = eqb-true j max_looks e in omega (arith, low, same))

pub at_most : (j : ℕ) → max_looks ≤ j → j ≤ max_looks → (j == max_looks) ≡ true
at_most j high low = eq-eqb j max_looks (omega (arith, high, low))

-- where there are no more looks
pub out_first : (i j : ℕ) → i ≡ max_looks → (i == max_looks || j == max_looks) ≡ true
out_first i j e = ap (λ b. b || j == max_looks) (eq-eqb i max_looks e)

or_true : (b c : Bool) → c ≡ true → (b || c) ≡ true
or_true true c e = refl
or_true false c e = e

pub out_second : (i j : ℕ) → j ≡ max_looks → (i == max_looks || j == max_looks) ≡ true
out_second i j e = or_true (i == max_looks) (j == max_looks) (eq-eqb j max_looks e)

-- and where there are more
pub in_both : (i j : ℕ) → i ≢ max_looks → j ≢ max_looks → (i == max_looks || j == max_looks) ≡ false
in_both i j p q =
    let first : (i == max_looks) ≡ false = not_true (i == max_looks) (λ e. p (eqb-true i max_looks e)) in
    let second : (j == max_looks) ≡ false = not_true (j == max_looks) (λ e. q (eqb-true j max_looks e)) in
    ap (λ b. b || j == max_looks) first ∙ second

module _ (tells : Bool) (o : Origin) (i j : ℕ) (m : MachineOf) (ls : List (List ℕ)) (es : List LinkEvent) (held later : Option (List ℕ)) (h : IsOn tells o (synced i j) m ls es held) (waits : is_waiting m ≡ true) where
  pub out_goes : (r : Result Bool Stop) → IfOk r (λ b. b ≡ true) → OnOk r (Appends held later (codes "! not settled\n")) → (i == max_looks || j == max_looks) ≡ true → IfOk r (λ b. IsOn tells o (went_on b) m ls es later)
  out_goes (Ok b) is said out = subst (λ (z : Bool). IsOn tells o (went_on z) m ls es later) (sym is) (synced_out tells o i j m ls es held h waits out later said)
  out_goes (Err e) is said out = tt

  pub out_stops : (r : Result Bool Stop) → OnErr r (IsWrittenInPart held later (codes "! not settled\n")) → (i == max_looks || j == max_looks) ≡ true → OnErr r (IsOff tells o ls es later)
  out_stops (Ok b) said out = tt
  out_stops (Err e) said out = synced_stops tells o i j m ls es held h waits out later said
