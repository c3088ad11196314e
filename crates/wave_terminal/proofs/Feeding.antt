-- Bytes of commands, and what they print on its way to the sink.
--     IsFeeding              some bytes were taken: what they print was written, or waits
--     begun_feeding, fed_on  at first, and after one byte more
--     fed_all                all were taken, and what waited was written
--     fed_end                the open line was
--     cut_here, cut_writing  memory ran out, or the sink failed
--     cut_end                so at the end of the input
--     next_byte, none_left   the byte at a place, and none at the end
use Rattle.std.proofs.Common.{◌≡◌, ℕ, ◌+◌, ◌<◌, ◌≤◌, inl, inr, List, [], ◌∷◌, ◌++◌, length, take, drop, Option, refl, sym, ap, ◌∙◌, arith, append_assoc, append-nil, length-append, get_or, add-one, length-drop}
use Rattle.std.proofs.lemmas.List.{take-append-drop, length-take, nil_from_length}
use Rattle.std.proofs.Math.Seq.{drop-cons}
use Rattle.std.specs.Io.KnownBytes.{Appends}
use Rattle.line_loop.specs.Lines.{IsPrefix}
use Rattle.line_loop.proofs.Telling.{Appends-none, Appends-then}
use Rattle.wave_terminal.specs.Machines.{Machine, Course, said, step, after, text, last_text, whole_text}
use Rattle.wave_terminal.specs.Runs.{IsMovedOn, IsFed, IsFedInPart}
use Rattle.wave_terminal.specs.declared.stop.Stop.{Stop}
use Rattle.wave_terminal.specs.declared.stop.Stop.TheVariants.{Sink, Memory}

pub next_byte : (bytes : List ℕ) (i : ℕ) → i < length bytes → drop i bytes ≡ get_or bytes i 0 ∷ drop (i + 1) bytes
next_byte bytes i low = drop-cons bytes i 0 low ∙ rw (add-one) refl

pub none_left : (bytes : List ℕ) (i : ℕ) → length bytes ≤ i → drop i bytes ≡ []
none_left bytes i high = nil_from_length (drop i bytes) (omega (arith, high, length-drop i bytes))

module _ {S : Type 0} (m : Machine S) where
  -- from one course to another, with these bytes waiting, and those of the rest to come
  pub record IsFeeding (p q : Course S) (i j : Option (List ℕ)) (out rest bytes : List ℕ) : Type 0 where
    pub written : List ℕ
    pub appended : Appends i j written
    pub told : written ++ (out ++ text m q rest) ≡ text m p bytes
    pub goes : after m q rest ≡ after m p bytes

  pub begun_feeding : (p : Course S) (i : Option (List ℕ)) (out bytes : List ℕ) → out ≡ [] → IsFeeding p p i i out bytes bytes
  begun_feeding p i out bytes none = record { written = []; appended = Appends-none i; told = ap (λ z. z ++ text m p bytes) none; goes = refl }

  module _ (p q : Course S) (i j : Option (List ℕ)) (out bytes : List ℕ) (b : ℕ) (rest : List ℕ) (f : IsFeeding p q i j out (b ∷ rest) bytes) where
    pub fed_on : (r : Course S) (k : Option (List ℕ)) (more left : List ℕ) → r ≡ step m q b → more ≡ out ++ said m q b → IsMovedOn j k more left → IsFeeding p r i k left rest bytes
    fed_on r k more left goes told moved = record {
      written = f.written ++ moved.0;
      appended = Appends-then i j k f.written moved.0 f.appended moved.1;
      told =
          append_assoc f.written moved.0 (left ++ text m r rest)
          ∙ ap (λ z. f.written ++ z) (sym (append_assoc moved.0 left (text m r rest)) ∙ ap (λ z. z ++ text m r rest) (moved.2 ∙ told) ∙ ap (λ (c : Course S). (out ++ said m q b) ++ text m c rest) goes ∙ append_assoc out (said m q b) (text m (step m q b) rest))
          ∙ f.told;
      goes = ap (λ (c : Course S). after m c rest) goes ∙ f.goes;
    }

  front_text : (p : Course S) (bytes written rest : List ℕ) → written ++ rest ≡ text m p bytes → IsPrefix written (whole_text m p bytes)
  front_text p bytes written rest e = (rest ++ last_text m (after m p bytes), sym (append_assoc written rest (last_text m (after m p bytes))) ∙ ap (λ z. z ++ last_text m (after m p bytes)) e)

  module _ (p q : Course S) (i j : Option (List ℕ)) (out rest bytes : List ℕ) (f : IsFeeding p q i j out rest bytes) where
    pub cut_here : (e : Stop) → e ≡ Memory → IsFedInPart m p i j bytes e
    cut_here e memory = record {
      written = f.written;
      appended = f.appended;
      front = front_text p bytes f.written (out ++ text m q rest) f.told;
      short = λ sink. absurd (let w : Memory ≡ Sink = sym memory ∙ sink in cc);
      cause = inr memory;
    }

    -- a write of what waits, of which the sink took a front
    pub cut_writing : (e : Stop) (more : List ℕ) (k : Option (List ℕ)) (n : ℕ) → e ≡ Sink → (later : List ℕ) → f.written ++ (more ++ later) ≡ text m p bytes → n < length more → Appends j k (take n more) → IsFedInPart m p i k bytes e
    cut_writing e more k n sink later told low appended =
        let parts : (f.written ++ take n more) ++ (drop n more ++ later) ≡ text m p bytes =
        append_assoc f.written (take n more) (drop n more ++ later)
        ∙ ap (λ z. f.written ++ z) (sym (append_assoc (take n more) (drop n more) later) ∙ ap (λ z. z ++ later) (take-append-drop n more))
        ∙ told in
        let len = ap length (sym told) ∙ length-append f.written (more ++ later) in
        record {
          written = f.written ++ take n more;
          appended = Appends-then i j k f.written (take n more) f.appended appended;
          front = front_text p bytes (f.written ++ take n more) (drop n more ++ later) parts;
          short = λ _. omega (arith, low, len, length-append more later, length-append f.written (take n more), length-take n more, length-append (text m p bytes) (last_text m (after m p bytes)));
          cause = inl sink;
        }

  pub cut_many : (p q : Course S) (i j k : Option (List ℕ)) (out more bytes : List ℕ) (b : ℕ) (rest : List ℕ) (e : Stop) (n : ℕ) → IsFeeding p q i j out (b ∷ rest) bytes → e ≡ Sink → more ≡ out ++ said m q b → n < length more → Appends j k (take n more)
      → IsFedInPart m p i k bytes e
  cut_many p q i j k out more bytes b rest e n f sink told low appended =
      cut_writing p q i j out (b ∷ rest) bytes f e more k n sink (text m (step m q b) rest)
      (ap (λ z. f.written ++ z) (ap (λ z. z ++ text m (step m q b) rest) told ∙ append_assoc out (said m q b) (text m (step m q b) rest)) ∙ f.told)
      low
      appended

  pub cut_rest : (p q : Course S) (i j k : Option (List ℕ)) (out rest bytes : List ℕ) (e : Stop) (n : ℕ) → IsFeeding p q i j out rest bytes → e ≡ Sink → n < length out → Appends j k (take n out) → IsFedInPart m p i k bytes e
  cut_rest p q i j k out rest bytes e n f sink low appended = cut_writing p q i j out rest bytes f e out k n sink (text m q rest) f.told low appended

  pub fed_all : (p q : Course S) (i j k : Option (List ℕ)) (out rest bytes : List ℕ) → rest ≡ [] → 0 < length bytes → IsFeeding p q i j out rest bytes → Appends j k out → IsFed m p q i k bytes
  fed_all p q i j k out rest bytes none some f appended = record {
    written = f.written ++ out;
    appended = Appends-then i j k f.written out f.appended appended;
    goes = λ _. sym (ap (after m q) none) ∙ f.goes;
    told = λ _. ap (λ z. f.written ++ z) (sym (append-nil out) ∙ ap (λ r. out ++ text m q r) (sym none)) ∙ f.told;
    last = λ empty. absurd (omega (arith, empty, some));
  }

  pub fed_end : (p q : Course S) (i j : Option (List ℕ)) (out bytes : List ℕ) → length bytes ≡ 0 → out ≡ last_text m p → Appends i j out → IsFed m p q i j bytes
  fed_end p q i j out bytes none told appended = record {
    written = out;
    appended = appended;
    goes = λ some. absurd (omega (arith, none, some));
    told = λ some. absurd (omega (arith, none, some));
    last = λ _. told;
  }

  pub cut_end : (p : Course S) (i j : Option (List ℕ)) (out bytes : List ℕ) (e : Stop) (n : ℕ) → e ≡ Sink → length bytes ≡ 0 → out ≡ last_text m p → n < length out → Appends i j (take n out) → IsFedInPart m p i j bytes e
  cut_end p i j out [] e n sink none told low appended = record {
    written = take n out;
    appended = appended;
    front = (drop n out, take-append-drop n out ∙ told);
    short = λ _. omega (arith, low, length-take n out, ap length told);
    cause = inl sink;
  }
  cut_end p i j out (b ∷ bytes) e n sink none told low appended = absurd (omega (arith, none))
