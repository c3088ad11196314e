-- Bytes that are fed.
--     off_wider, fed_wider, stopped_wider     of more lines, and of more bytes
--     byte_kept, byte_unkept                  a byte of the line that is open; no room for it
--     line_fed, line_stopped                  the line ended with it; the run stopped there
--     feeding_begun, feeding_more, feeding_done, feeding_ended, feeding_stopped     bytes up to a place: none, one more, all; the run
--                                             ended or stopped at one
--     other_byte, feed_byte                   whether a byte ends a line
--     no_byte, some_byte                      whether a line has bytes
--     last_none, last_is                      the end of the input
use Rattle.std.proofs.Common.{◌≡◌, refl, sym, ap, subst, ◌∙◌, ℕ, ◌≢◌, ◌+◌, ◌<◌, ◌≤◌, ◌==◌, Bool, true, false, List, [], ◌∷◌, ◌++◌, Option, length, take, drop, get_or, append_assoc, append-nil, arith}
use Rattle.std.proofs.lemmas.Bool.{eqb-true, eq-eqb}
use Rattle.std.proofs.lemmas.List.{take_all, take_more, take-append-drop, nil_from_length}
use mathlib.Core.List.{IsPrefix}
use Rattle.wave_outside.specs.declared.link.LinkEvent.{LinkEvent}
use Rattle.client_session.specs.Machine.{MachineOf}
use Rattle.client_terminal.specs.Going.{Origin, IsOn, IsOff, IsFed, IsReading, IsFedAs, IsStopped}
use Rattle.client_terminal.specs.Inputs.{input_lines, IsRead}
use Rattle.client_terminal.specs.Moods.{mood_run}
use Rattle.client_terminal.specs.Runs.{RunOf, Reading, in_phase}
use Rattle.client_terminal.specs.declared.mood.Mood.{Mood}
use Rattle.client_terminal.specs.declared.mood.Mood.TheVariants as mood
use Rattle.client_terminal.proofs.Reading.{read_more, read_line, read_front, read_whole, read_last}
use Rattle.client_terminal.proofs.Stepping.{prefix_then, prefix_to, phase_keeps, line_waits}

module _ (tells : Bool) (o : Origin) (es : List LinkEvent) (held : Option (List ℕ)) where
  pub off_wider : (ls ks : List (List ℕ)) → IsPrefix ls ks → IsOff tells o ls es held → IsOff tells o ks es held
  off_wider ls ks more h = record { steps = h.steps; run = h.run; walk = h.walk; lines = prefix_then _ ls ks h.lines more; events = h.events; printed = h.printed }

  pub fed_wider : (f : RunOf → RunOf) (m : MachineOf) (read more all : List ℕ) → read ++ more ≡ all → IsFed tells o f m read es held → IsFed tells o f m all es held
  fed_wider f m read more all e h = record {
    lines = h.lines;
    on = h.on;
    front = λ rest. prefix_to h.lines (input_lines (read ++ (more ++ rest))) (input_lines (all ++ rest)) (h.front (more ++ rest)) (ap input_lines (sym (append_assoc read more rest) ∙ ap (λ v. v ++ rest) e));
  }

  pub stopped_wider : (read more all : List ℕ) → read ++ more ≡ all → IsStopped tells o read es held → IsStopped tells o all es held
  stopped_wider read more all e h = λ rest. subst (λ (z : List ℕ). IsOff tells o (input_lines z) es held) (sym (append_assoc read more rest) ∙ ap (λ v. v ++ rest) e) (h (more ++ rest))

  -- ---- one byte

  module _ (m : MachineOf) (read line : List ℕ) (b : ℕ) (h : IsReading tells o m read line es held) where
    pub byte_kept : (b == 10) ≡ false → (now : List ℕ) → now ≡ line ++ b ∷ [] → IsReading tells o m (read ++ b ∷ []) now es held
    byte_kept other now e = record {
      lines = h.lines;
      on = h.on;
      reading = subst (λ (z : List ℕ). IsRead (read ++ b ∷ []) h.lines z) (sym e) (read_more read h.lines line h.reading b other);
    }

    pub byte_unkept : IsStopped tells o (read ++ b ∷ []) es held
    byte_unkept = λ rest. line_waits tells o m h.lines (input_lines ((read ++ b ∷ []) ++ rest)) es held (in_phase Reading) (phase_keeps Reading) h.on
        (prefix_to h.lines (input_lines (read ++ (b ∷ rest))) (input_lines ((read ++ b ∷ []) ++ rest)) (read_front read h.lines line h.reading (b ∷ rest)) (ap input_lines (sym (append_assoc read (b ∷ []) rest))))

  -- ---- a line

  module _ (read line : List ℕ) (b : ℕ) (ls : List (List ℕ)) (h : IsRead read ls line) (feed : (b == 10) ≡ true) where
    lines_front : (rest : List ℕ) → IsPrefix (ls ++ line ∷ []) (input_lines ((read ++ b ∷ []) ++ rest))
    lines_front rest = read_front (read ++ b ∷ []) (ls ++ line ∷ []) [] (read_line read ls line h b feed) rest

    pub line_fed : (d : Mood) (n : MachineOf) (now : List ℕ) → now ≡ [] → IsOn tells o (mood_run d) n (ls ++ line ∷ []) es held → IsFedAs tells o d n (read ++ b ∷ []) now es held
    line_fed mood.Reading n now e on = record { lines = ls ++ line ∷ []; on = on; reading = subst (λ (z : List ℕ). IsRead (read ++ b ∷ []) (ls ++ line ∷ []) z) (sym e) (read_line read ls line h b feed) }
    line_fed mood.Left n now e on = record { lines = ls ++ line ∷ []; on = on; front = lines_front }
    line_fed mood.Closed n now e on = record { lines = ls ++ line ∷ []; on = on; front = lines_front }

    pub line_stopped : IsOff tells o (ls ++ line ∷ []) es held → IsStopped tells o (read ++ b ∷ []) es held
    line_stopped off = λ rest. off_wider (ls ++ line ∷ []) (input_lines ((read ++ b ∷ []) ++ rest)) (lines_front rest) off

  -- ---- the end of the input

  pub last_none : (m : MachineOf) (read line : List ℕ) → line ≡ [] → IsReading tells o m read line es held → IsOn tells o (in_phase Reading) m (input_lines read) es held
  last_none m read line none h =
      subst (λ (z : List (List ℕ)). IsOn tells o (in_phase Reading) m z es held) (sym (read_whole read h.lines (subst (λ (z : List ℕ). IsRead read h.lines z) none h.reading))) h.on

  pub last_is : (read line : List ℕ) (ls : List (List ℕ)) → 0 < length line → IsRead read ls line → ls ++ line ∷ [] ≡ input_lines read
  last_is read [] ls some h = absurd (omega (arith, some))
  last_is read (b ∷ line) ls some h = sym (read_last read ls b line h)

  -- ---- several bytes

  module _ (m : MachineOf) (read bytes line : List ℕ) (i d : ℕ) (low : i < length bytes) where
    so_far : (read ++ take i bytes) ++ get_or bytes i d ∷ [] ≡ read ++ take (i + 1) bytes
    so_far = append_assoc read (take i bytes) (get_or bytes i d ∷ []) ∙ ap (λ v. read ++ v) (sym (take_more bytes i d low))

    to_come : ((read ++ take i bytes) ++ get_or bytes i d ∷ []) ++ drop (i + 1) bytes ≡ read ++ bytes
    to_come = ap (λ v. v ++ drop (i + 1) bytes) so_far ∙ append_assoc read (take (i + 1) bytes) (drop (i + 1) bytes) ∙ ap (λ v. read ++ v) (take-append-drop (i + 1) bytes)

    pub feeding_more : IsReading tells o m ((read ++ take i bytes) ++ get_or bytes i d ∷ []) line es held → IsReading tells o m (read ++ take (i + 1) bytes) line es held
    feeding_more h = subst (λ (z : List ℕ). IsReading tells o m z line es held) so_far h

    pub feeding_ended : (f : RunOf → RunOf) → IsFed tells o f m ((read ++ take i bytes) ++ get_or bytes i d ∷ []) es held → IsFed tells o f m (read ++ bytes) es held
    feeding_ended f h = fed_wider f m ((read ++ take i bytes) ++ get_or bytes i d ∷ []) (drop (i + 1) bytes) (read ++ bytes) to_come h

    pub feeding_stopped : IsStopped tells o ((read ++ take i bytes) ++ get_or bytes i d ∷ []) es held → IsStopped tells o (read ++ bytes) es held
    feeding_stopped h = stopped_wider ((read ++ take i bytes) ++ get_or bytes i d ∷ []) (drop (i + 1) bytes) (read ++ bytes) to_come h

  pub feeding_done : (m : MachineOf) (read bytes line : List ℕ) (i : ℕ) → length bytes ≤ i → IsReading tells o m (read ++ take i bytes) line es held → IsReading tells o m (read ++ bytes) line es held
  feeding_done m read bytes line i high h = subst (λ (z : List ℕ). IsReading tells o m (read ++ z) line es held) (take_all i bytes high) h

  pub feeding_begun : (m : MachineOf) (read bytes line : List ℕ) → IsReading tells o m read line es held → IsReading tells o m (read ++ take 0 bytes) line es held
  feeding_begun m read bytes line h = subst (λ (z : List ℕ). IsReading tells o m z line es held) (sym (append-nil read)) h

not_true : (b : Bool) → (b ≡ true → ⊥) → b ≡ false
not_true true n = absurd (n refl)
not_true false n = refl

pub other_byte : (b : ℕ) → b ≢ 10 → (b == 10) ≡ false
other_byte b n = not_true (b == 10) (λ e. n (eqb-true b 10 e))

pub feed_byte : (b : ℕ) → b ≡ 10 → (b == 10) ≡ true
feed_byte b e = eq-eqb b 10 e

pub no_byte : (line : List ℕ) → (length line == 0) ≡ true → line ≡ []
no_byte line e = nil_from_length line (eqb-true (length line) 0 e)

pub some_byte : (line : List ℕ) → (length line == 0) ≡ false → 0 < length line
some_byte [] e = absurd (cc)
some_byte (b ∷ line) e = omega arith
