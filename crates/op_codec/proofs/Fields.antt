-- What is read is what is written there, and what was written is read again.
--     IsBytes               each number of a list is a byte
--     Takes bytes text rest     the text is the front of the bytes, and the rest is bytes too
--     IsCodec at spell Valid    a reading and a spelling of valid values that fit together
--     counts, numbers, strings, keys, texts, optionals     they do
--     pairs                 so do two one after the other
use Rattle.std.proofs.Common.{◌≡◌, ℕ, zero, suc, ◌+◌, ◌^◌, ◌<◌, ◌≤◌, Bool, true, false, cond, ltb, List, [], ◌∷◌, ◌++◌, length, get_or, take, drop, Option, Some, None, refl, sym, ap, subst, ◌∙◌, append_assoc, arith, inl, inr}
use Rattle.std.specs.Prelude.{IfSome}
use Rattle.std.specs.Int.{Width, w32, w64, byte_len, from_be_bytes, to_be_bytes}
use Rattle.std.specs.Str.{chars, encode_utf8_all, all_scalars, is_utf8, IsUtf8}
use Rattle.std.proofs.lemmas.Bool.{cases_lt, ltb-false, le-ltb}
use Rattle.std.proofs.lemmas.List.{take_at, drop_at, take-append-drop, length-append, length-take, get_or-drop, get_or-take, get_or_past}
use Rattle.std.proofs.lemmas.Nat.{be_bytes_4, be_bytes_8, from_be_bytes-to_be_bytes_4, from_be_bytes-to_be_bytes_8}
use Rattle.std.proofs.lemmas.Str.{IsUtf8-from_is_utf8, is_utf8-from_IsUtf8, encodes-chars, chars_from_encodes, chars-encodes}
use Rattle.op_codec.specs.Spelling.{string, text, optional, IsShort, IsText, IsKey}
use Rattle.op_codec.specs.Reading.{Read, ◌>>=◌, number_at, string_at, key_at, text_at, optional_at}

abbrev pub IsBytes : List ℕ → Type 0
IsBytes bytes = (i : ℕ) → get_or bytes i 0 < 256

IsBytes-drop : (n : ℕ) (bytes : List ℕ) → IsBytes bytes → IsBytes (drop n bytes)
IsBytes-drop n bytes h i = rw get_or-drop (h (n + i))

IsBytes-take : (n : ℕ) (bytes : List ℕ) → IsBytes bytes → IsBytes (take n bytes)
IsBytes-take n bytes h i =
    elim (cases_lt i n) [
      | inl lt ↦ rw (get_or-take n bytes i 0 lt) (h i)
      | inr le ↦ rw (get_or_past (take n bytes) i 0 (omega (arith, length-take n bytes))) (omega arith)
    ]

pub IsBytes-rest : (b : ℕ) (bytes : List ℕ) → IsBytes (b ∷ bytes) → IsBytes bytes
IsBytes-rest b bytes h i = h (suc i)

-- ---- what a step gave

pub bind_some : {A B : Type 0} (r : Option A) (f : A → Option B) (y : B) → (r >>= f) ≡ Some y → (x : A) × (r ≡ Some x) × (f x ≡ Some y)
bind_some (Some x) f y e = (x, refl, e)
bind_some None f y e = absurd cc

-- a test that wasn't met
pub guard_off : {A : Type 0} (b : Bool) (x y : A) → cond b None (Some x) ≡ Some y → (b ≡ false) × (x ≡ y)
guard_off true x y e = absurd cc
guard_off false x y e = (refl, cc)

-- a test that was met
pub guard_on : {A : Type 0} (b : Bool) (x : Option A) (y : A) → cond b x None ≡ Some y → (b ≡ true) × (x ≡ Some y)
guard_on true x y e = (refl, e)
guard_on false x y e = absurd cc

abbrev some : {A : Type 0} → A → Option A
some x = Some x

pub some_is : {A : Type 0} (x y : A) → some x ≡ some y → x ≡ y
some_is x y e = cc

pub record Takes (bytes text rest : List ℕ) : Type 0 where
  pub parts : bytes ≡ text ++ rest
  pub rest_fits : IsBytes rest

pub Takes-then : (a x b y c : List ℕ) → Takes a x b → Takes b y c → Takes a (x ++ y) c
Takes-then a x b y c p q = record { parts = p.parts ∙ ap (λ (t : List ℕ). x ++ t) q.parts ∙ sym (append_assoc x y c); rest_fits = q.rest_fits }

pub record IsCodec {X : Type 0} (at : List ℕ → Read X) (spell : X → List ℕ) (Valid : X → Type 0) : Type 0 where
  pub takes : (bytes : List ℕ) (r : X × List ℕ) → IsBytes bytes → at bytes ≡ Some r → Takes bytes (spell r.0) r.1 × Valid r.0
  pub again : (x : X) (rest : List ℕ) → Valid x → at (spell x ++ rest) ≡ Some (x, rest)

-- ---- numbers

pub record IsWide (w : Width) (limit : ℕ) : Type 0 where
  pub len : (n : ℕ) → length (to_be_bytes w n) ≡ byte_len w
  pub back : (bytes : List ℕ) → length bytes ≡ byte_len w → IsBytes bytes → to_be_bytes w (from_be_bytes w bytes) ≡ bytes
  pub again : (n : ℕ) → n < limit → from_be_bytes w (to_be_bytes w n) ≡ n
  pub below : (bytes : List ℕ) → IsBytes bytes → from_be_bytes w bytes < limit

wide32 : IsWide w32 (2 ^ 32)
wide32 = record {
  len = λ n. refl;
  back = λ bytes len fits. be_bytes_4 bytes _ len fits refl;
  again = λ n lt. from_be_bytes-to_be_bytes_4 n lt;
  below = λ bytes fits. omega (arith, fits 0, fits 1, fits 2, fits 3);
}

wide64 : IsWide w64 (2 ^ 64)
wide64 = record {
  len = λ n. refl;
  back = λ bytes len fits. be_bytes_8 bytes _ len fits refl;
  again = λ n lt. from_be_bytes-to_be_bytes_8 n lt;
  below = λ bytes fits. omega (arith, fits 0, fits 1, fits 2, fits 3, fits 4, fits 5, fits 6, fits 7);
}

module _ (w : Width) (limit : ℕ) (wide : IsWide w limit) where
  number_takes : (bytes : List ℕ) (r : ℕ × List ℕ) → IsBytes bytes → number_at w bytes ≡ Some r → Takes bytes (to_be_bytes w r.0) r.1 × (r.0 < limit)
  number_takes bytes r fits e =
      let g = guard_off (ltb (length bytes) (byte_len w)) (from_be_bytes w (take (byte_len w) bytes), drop (byte_len w) bytes) r e in
      let long : byte_len w ≤ length bytes = ltb-false _ _ g.0 in
      let front : to_be_bytes w (from_be_bytes w (take (byte_len w) bytes)) ≡ take (byte_len w) bytes = wide.back (take (byte_len w) bytes) (omega (arith, length-take (byte_len w) bytes)) (IsBytes-take (byte_len w) bytes fits) in
      subst (λ (p : ℕ × List ℕ). Takes bytes (to_be_bytes w p.0) p.1 × (p.0 < limit)) g.1
      (record { parts = rw front (sym (take-append-drop (byte_len w) bytes)); rest_fits = IsBytes-drop (byte_len w) bytes fits }, wide.below (take (byte_len w) bytes) (IsBytes-take (byte_len w) bytes fits))

  number_again : (n : ℕ) (rest : List ℕ) → n < limit → number_at w (to_be_bytes w n ++ rest) ≡ Some (n, rest)
  number_again n rest lt =
      let len = wide.len n in
      let long : ltb (length (to_be_bytes w n ++ rest)) (byte_len w) ≡ false = le-ltb _ _ (omega (arith, length-append (to_be_bytes w n) rest)) in
      rw (long, take_at (to_be_bytes w n) rest (byte_len w) len, drop_at (to_be_bytes w n) rest (byte_len w) len, wide.again n lt) refl

  number_codec : IsCodec (number_at w) (to_be_bytes w) (λ n. n < limit)
  number_codec = record { takes = number_takes; again = number_again }

pub counts : IsCodec (number_at w32) (to_be_bytes w32) (λ n. n < 2 ^ 32)
counts = number_codec w32 (2 ^ 32) wide32

pub numbers : IsCodec (number_at w64) (to_be_bytes w64) (λ n. n < 2 ^ 64)
numbers = number_codec w64 (2 ^ 64) wide64

-- ---- strings

string_takes : (bytes : List ℕ) (r : List ℕ × List ℕ) → IsBytes bytes → string_at bytes ≡ Some r → Takes bytes (string r.0) r.1 × IsShort r.0
unfolding string_at
string_takes bytes r fits e =
    let b = bind_some (number_at w32 bytes) (λ n. cond (ltb (length n.1) n.0) None (Some (take n.0 n.1, drop n.0 n.1))) r e in
    let n = b.0 in
    let t = counts.takes bytes n fits b.1 in
    let g = guard_off (ltb (length n.1) n.0) (take n.0 n.1, drop n.0 n.1) r b.2 in
    let long : n.0 ≤ length n.1 = ltb-false _ _ g.0 in
    let len : length (take n.0 n.1) ≡ n.0 = omega (arith, length-take n.0 n.1) in
    let second : Takes n.1 (take n.0 n.1) (drop n.0 n.1) = record { parts = sym (take-append-drop n.0 n.1); rest_fits = IsBytes-drop n.0 n.1 t.0.rest_fits } in
    let both = Takes-then bytes (to_be_bytes w32 n.0) n.1 (take n.0 n.1) (drop n.0 n.1) t.0 second in
    let whole : Takes bytes (string (take n.0 n.1)) (drop n.0 n.1) = subst (λ (k : ℕ). Takes bytes (to_be_bytes w32 k ++ take n.0 n.1) (drop n.0 n.1)) (sym len) both in
    subst (λ (p : List ℕ × List ℕ). Takes bytes (string p.0) p.1 × IsShort p.0) g.1 (whole, omega (arith, t.1))

string_again : (s rest : List ℕ) → IsShort s → string_at (string s ++ rest) ≡ Some (s, rest)
unfolding string_at
string_again s rest lt =
    let long : ltb (length (s ++ rest)) (length s) ≡ false = le-ltb _ _ (omega (arith, length-append s rest)) in
    rw (counts.again (length s) (s ++ rest) lt, long, take_at s rest (length s) refl, drop_at s rest (length s) refl) refl

pub strings : IsCodec string_at string IsShort
strings = record { takes = string_takes; again = string_again }

-- ---- keys and texts

key_takes : (bytes : List ℕ) (r : List ℕ × List ℕ) → IsBytes bytes → key_at bytes ≡ Some r → Takes bytes (string r.0) r.1 × IsKey r.0
unfolding key_at
key_takes bytes r fits e =
    let b = bind_some (string_at bytes) (λ k. cond (is_utf8 k.0) (Some k) None) r e in
    let g = guard_on (is_utf8 b.0.0) (Some b.0) r b.2 in
    let t = strings.takes bytes b.0 fits b.1 in
    subst (λ (p : List ℕ × List ℕ). Takes bytes (string p.0) p.1 × IsKey p.0) (some_is b.0 r g.1) (t.0, (IsUtf8-from_is_utf8 b.0.0 g.0, t.1))

key_again : (k rest : List ℕ) → IsKey k → key_at (string k ++ rest) ≡ Some (k, rest)
unfolding key_at
key_again k rest h = rw (strings.again k rest h.1, is_utf8-from_IsUtf8 k h.0) refl

pub keys : IsCodec key_at string IsKey
keys = record { takes = key_takes; again = key_again }

text_takes : (bytes : List ℕ) (r : List ℕ × List ℕ) → IsBytes bytes → text_at bytes ≡ Some r → Takes bytes (text r.0) r.1 × IsText r.0
unfolding text_at
text_takes bytes r fits e =
    let b = bind_some (key_at bytes) (λ k. Some (chars k.0, k.1)) r e in
    let t = keys.takes bytes b.0 fits b.1 in
    let u : IsUtf8 b.0.0 = t.1.0 in
    let same : encode_utf8_all (chars b.0.0) ≡ b.0.0 = encodes-chars b.0.0 u in
    let is_text : all_scalars (chars b.0.0) ≡ true = subst (λ (cs : List ℕ). all_scalars cs ≡ true) (chars_from_encodes u.0 b.0.0 u u.1.1) u.1.0 in
    subst (λ (p : List ℕ × List ℕ). Takes bytes (text p.0) p.1 × IsText p.0) (some_is (chars b.0.0, b.0.1) r b.2)
    (subst (λ (k : List ℕ). Takes bytes (string k) b.0.1) (sym same) t.0, (is_text, subst (λ (k : List ℕ). IsShort k) (sym same) t.1.1))

text_again : (t rest : List ℕ) → IsText t → text_at (text t ++ rest) ≡ Some (t, rest)
unfolding text_at
text_again t rest h = rw (keys.again (encode_utf8_all t) rest ((t, (h.0, refl)), h.1), chars-encodes t h.0) refl

pub texts : IsCodec text_at text IsText
texts = record { takes = text_takes; again = text_again }

-- ---- optional texts

optional_takes : (bytes : List ℕ) (r : Option (List ℕ) × List ℕ) → IsBytes bytes → optional_at bytes ≡ Some r → Takes bytes (optional r.0) r.1 × IfSome r.0 IsText
unfolding optional_at
optional_takes [] r fits e = absurd cc
optional_takes (zero ∷ bytes) r fits e =
    subst (λ (p : Option (List ℕ) × List ℕ). Takes (0 ∷ bytes) (optional p.0) p.1 × IfSome p.0 IsText) (some_is (None, bytes) r e) (record { parts = refl; rest_fits = IsBytes-rest 0 bytes fits }, tt)
optional_takes (suc zero ∷ bytes) r fits e =
    let b = bind_some (text_at bytes) (λ t. Some (Some t.0, t.1)) r e in
    let t = texts.takes bytes b.0 (IsBytes-rest 1 bytes fits) b.1 in
    subst (λ (p : Option (List ℕ) × List ℕ). Takes (1 ∷ bytes) (optional p.0) p.1 × IfSome p.0 IsText) (some_is (Some b.0.0, b.0.1) r b.2) (record { parts = ap (λ (w : List ℕ). 1 ∷ w) t.0.parts; rest_fits = t.0.rest_fits }, t.1)
optional_takes (suc (suc b) ∷ bytes) r fits e = absurd cc

optional_again : (o : Option (List ℕ)) (rest : List ℕ) → IfSome o IsText → optional_at (optional o ++ rest) ≡ Some (o, rest)
unfolding optional_at
optional_again None rest h = refl
optional_again (Some t) rest h = rw (texts.again t rest h) refl

pub optionals : IsCodec optional_at optional (λ o. IfSome o IsText)
optionals = record { takes = optional_takes; again = optional_again }

-- ---- one after the other

module _ {X Y : Type 0} {at : List ℕ → Read X} {spell : X → List ℕ} {Valid : X → Type 0} {at2 : List ℕ → Read Y} {spell2 : Y → List ℕ} {Valid2 : Y → Type 0} where
  pub pairs : IsCodec at spell Valid → IsCodec at2 spell2 Valid2
      → IsCodec {X = X × Y} (λ bytes. at bytes >>= λ x. at2 x.1 >>= λ y. Some ((x.0, y.0), y.1)) (λ p. spell p.0 ++ spell2 p.1) (λ p. Valid p.0 × Valid2 p.1)
  pairs one two = record {
    takes = λ bytes r fits e.
        let a = bind_some (at bytes) (λ x. at2 x.1 >>= λ y. Some ((x.0, y.0), y.1)) r e in
        let b = bind_some (at2 a.0.1) (λ y. Some ((a.0.0, y.0), y.1)) r a.2 in
        let t = one.takes bytes a.0 fits a.1 in
        let u = two.takes a.0.1 b.0 t.0.rest_fits b.1 in
        subst (λ (p : (X × Y) × List ℕ). Takes bytes (spell p.0.0 ++ spell2 p.0.1) p.1 × (Valid p.0.0 × Valid2 p.0.1)) (some_is ((a.0.0, b.0.0), b.0.1) r b.2)
        (Takes-then bytes (spell a.0.0) a.0.1 (spell2 b.0.0) b.0.1 t.0 u.0, (t.1, u.1));
    again = λ p rest h.
        ap (λ (bytes : List ℕ). at bytes >>= λ x. at2 x.1 >>= λ y. Some ((x.0, y.0), y.1)) (append_assoc (spell p.0) (spell2 p.1) rest)
        ∙ ap (λ r. r >>= λ x. at2 x.1 >>= λ y. Some ((x.0, y.0), y.1)) (one.again p.0 (spell2 p.1 ++ rest) h.0)
        ∙ ap (λ r. r >>= λ y. Some ((p.0, y.0), y.1)) (two.again p.1 rest h.1);
  }
