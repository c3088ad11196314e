-- What obeys commands, one a line, and what it prints for the bytes of an input.
--     Told S             what a line does: the state after it, what is printed, and whether it ends the run
--     Machine S          what each line does in a state, and whether one byte more is looked at of a line with so many
--     Course S           how far a run is: the state, what is kept of the line that has begun, and whether the run has ended
--     begun s            no line has begun
--     step m p b, said m p b     one byte more: how the run goes on, and what is printed
--     after m p bs, text m p bs  so for bytes in turn
--     last_text m p      what the line that has begun prints, where no line feed ends it
--     whole_text m p bs  what is printed for all bytes of an input
use Rattle.std.specs.Prelude.{ℕ, ◌==◌, Bool, true, false, cond, List, [], ◌∷◌, ◌++◌, length}

pub record Told (S : Type 0) : Type 0 where
  pub state : S
  pub text : List ℕ
  pub quit : Bool

pub record Machine (S : Type 0) : Type 0 where
  pub told : S → List ℕ → Told S
  pub keeps : ℕ → Bool

pub record Course (S : Type 0) : Type 0 where
  pub state : S
  pub line : List ℕ
  pub quit : Bool

abbrev pub begun : {S : Type 0} → S → Course S
begun s = record { state = s; line = []; quit = false }

abbrev pub ended : {S : Type 0} → Told S → Course S
ended t = record { state = t.state; line = []; quit = t.quit }

module _ {S : Type 0} (m : Machine S) where
  abbrev pub line_told : Course S → Told S
  line_told p = m.told p.state p.line

  -- ---- bytes

  abbrev pub grown : Course S → ℕ → Course S
  grown p b = record { state = p.state; line = cond (m.keeps (length p.line)) (p.line ++ b ∷ []) p.line; quit = false }

  abbrev pub step_on : Course S → ℕ → Bool → Course S
  step_on p b true = ended (line_told p)
  step_on p b false = grown p b

  abbrev pub step : Course S → ℕ → Course S
  step p b = cond p.quit p (step_on p b (b == 10))

  abbrev pub said : Course S → ℕ → List ℕ
  said p b = cond p.quit [] (cond (b == 10) (line_told p).text [])

  abbrev pub after : Course S → List ℕ → Course S
  after p [] = p
  after p (b ∷ bs) = after (step p b) bs

  abbrev pub text : Course S → List ℕ → List ℕ
  text p [] = []
  text p (b ∷ bs) = said p b ++ text (step p b) bs

  -- ---- the end of the input

  abbrev pub open_text : Course S → List ℕ → List ℕ
  open_text p [] = []
  open_text p (b ∷ line) = (line_told p).text

  abbrev pub last_text : Course S → List ℕ
  last_text p = cond p.quit [] (open_text p p.line)

  abbrev pub whole_text : Course S → List ℕ → List ℕ
  whole_text p bs = text p bs ++ last_text (after p bs)
