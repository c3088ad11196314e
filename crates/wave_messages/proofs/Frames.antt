-- A line around a text.
--     id_plain      an id is quoted as it stands
--     five_pushed   five texts, appended one after the other
--     framed_is     what stands around a message's text makes its line
use Rattle.std.proofs.Common.{◌≡◌, ◌≢◌, ◌≤◌, ◌<◌, ◌⊎◌, inl, inr, ℕ, Bool, true, false, ◌&&◌, ◌||◌, ◌==◌, nat_lt, List, [], ◌∷◌, ◌++◌, refl, sym, ap, subst, ◌∙◌, append_assoc, arith, true≢false}
use Rattle.std.specs.Prelude.{codes}
use Rattle.std.specs.Char.{is_ascii_lowercase, is_ascii_uppercase, is_ascii_digit}
use Rattle.std.specs.Int.{is_in_range}
use Rattle.std.specs.List.{list_all}
use Rattle.std.proofs.lemmas.Bool.Decides.{nat_tests}
use Rattle.json.specs.Print.{escape_byte, escape, quoted}
use Rattle.serde_json.specs.Data.{Data}
use Rattle.serde_json.specs.Written.{compact_text}
use Rattle.wave_base.specs.Grammar.{is_id, is_word, has, is_among}
use Rattle.wave_base.specs.declared.scanner.Alphabet.TheVariants.{Id}
use Rattle.wave_messages.specs.Write.{line_data, framed}

-- ---- a byte of an id

record IsPlainByte (b : ℕ) : Type 0 where
  above : 42 ≤ b
  other : b ≢ 92

ranged : (lo hi b : ℕ) → 42 ≤ lo → (hi < 92) ⊎ (92 < lo) → is_in_range lo hi b ≡ true → IsPlainByte b
ranged lo hi b l side e = go side (grind (arith, nat_tests)) (grind (arith, nat_tests))
  where
    go : (hi < 92) ⊎ (92 < lo) → lo ≤ b → b ≤ hi → IsPlainByte b
    go (inl h) p q = record { above = omega (arith, p, l); other = λ r. omega (arith, r, q, h) }
    go (inr h) p q = record { above = omega (arith, p, l); other = λ r. omega (arith, r, p, h) }

either : (b : ℕ) (x y : Bool) → (x ≡ true → IsPlainByte b) → (y ≡ true → IsPlainByte b) → x || y ≡ true → IsPlainByte b
either b true y f g e = f refl
either b false y f g e = g e

mark : (b m : ℕ) → 42 ≤ m → m ≢ 92 → (b == m) ≡ true → IsPlainByte b
mark b m l n e = let q : b ≡ m = grind (arith, nat_tests) in record { above = subst (λ x. 42 ≤ x) (sym q) l; other = λ r. n (sym q ∙ r) }

among : (b : ℕ) → is_among (codes "+-._~*") b ≡ true → IsPlainByte b
among b = either b (b == 43) _ (mark b 43 (omega arith) (λ r. omega (arith, r))) (either b (b == 45) _ (mark b 45 (omega arith) (λ r. omega (arith, r)))
    (either b (b == 46) _ (mark b 46 (omega arith) (λ r. omega (arith, r))) (either b (b == 95) _ (mark b 95 (omega arith) (λ r. omega (arith, r)))
    (either b (b == 126) _ (mark b 126 (omega arith) (λ r. omega (arith, r))) (either b (b == 42) false (mark b 42 (omega arith) (λ r. omega (arith, r))) (λ e. absurd (true≢false (sym e))))))))

plain_byte : (b : ℕ) → has Id b ≡ true → IsPlainByte b
plain_byte b = either b (is_ascii_lowercase b || is_ascii_digit b || is_ascii_uppercase b) (is_among (codes "+-._~*") b)
    (either b (is_ascii_lowercase b || is_ascii_digit b) (is_ascii_uppercase b)
    (either b (is_ascii_lowercase b) (is_ascii_digit b) (ranged 97 122 b (omega arith) (inr (omega arith))) (ranged 48 57 b (omega arith) (inl (omega arith))))
    (ranged 65 90 b (omega arith) (inl (omega arith)))) (among b)

-- ---- an id

differs : (b m : ℕ) → b ≢ m → (b == m) ≡ false
differs b m n = go (b == m) refl
  where
    go : (t : Bool) → (b == m) ≡ t → t ≡ false
    go false e = refl
    go true e = absurd (n (grind (arith, nat_tests)))

not_below : (b : ℕ) → 42 ≤ b → nat_lt b 32 ≡ false
not_below b l = go (nat_lt b 32) refl
  where
    go : (t : Bool) → nat_lt b 32 ≡ t → t ≡ false
    go false e = refl
    go true e = let q : b < 32 = grind (arith, nat_tests) in absurd (omega (arith, q, l))

byte_plain : (b : ℕ) → IsPlainByte b → escape_byte b ≡ b ∷ []
unfolding escape_byte
byte_plain b p =
    let k : (m : ℕ) → m < 42 → (b == m) ≡ false = λ m l. differs b m (λ r. omega (arith, r, l, p.above)) in
    rw (k 34 (omega arith), differs b 92 p.other, k 8 (omega arith), k 12 (omega arith), k 10 (omega arith), k 13 (omega arith), k 9 (omega arith), not_below b p.above) refl

both : (x y : Bool) → x && y ≡ true → (x ≡ true) × (y ≡ true)
both true y e = (refl, e)
both false y e = absurd (true≢false (sym e))

all_plain : (s : List ℕ) → list_all (has Id) s ≡ true → escape s ≡ s
all_plain [] e = refl
all_plain (b ∷ s) e =
    let p = both (has Id b) (list_all (has Id) s) e in
    ap (λ l. l ++ escape s) (byte_plain b (plain_byte b p.0)) ∙ ap (λ l. b ∷ l) (all_plain s p.1)

id_plain : (s : List ℕ) → is_id s ≡ true → escape s ≡ s
unfolding is_id is_word
id_plain s e = all_plain s (both _ (list_all (has Id) s) (both _ (is_word Id s) e).1).1

-- ---- a line

-- from the texts of its names and of the session
abbrev line_text : List ℕ → List ℕ → List ℕ → List ℕ → List ℕ
line_text message t session quoted_id = 123 ∷ (message ++ 58 ∷ (t ++ 44 ∷ (session ++ 58 ∷ (quoted_id ++ 125 ∷ []))))

message_name : quoted (codes "message") ≡ codes "\"message\""
unfolding escape_byte
message_name = refl

session_name : quoted (codes "session") ≡ codes "\"session\""
unfolding escape_byte
session_name = refl

closing : (s : List ℕ) → ((s ++ 34 ∷ []) ++ 125 ∷ []) ++ 10 ∷ [] ≡ s ++ codes "\"}\n"
closing s = ap (λ l. l ++ 10 ∷ []) (append_assoc s (34 ∷ []) (125 ∷ [])) ∙ append_assoc s (34 ∷ 125 ∷ []) (10 ∷ [])

pub framed_is : (s : List ℕ) (m : Data) → is_id s ≡ true → compact_text (line_data s m) ++ 10 ∷ [] ≡ framed s (compact_text m)
framed_is s m e =
    let t = compact_text m in
    let rest = codes ",\"session\":\"" ++ ((s ++ 34 ∷ []) ++ 125 ∷ []) in
    ap (λ l. line_text l t (quoted (codes "session")) (quoted s) ++ 10 ∷ []) message_name
    ∙ ap (λ l. line_text (codes "\"message\"") t l (quoted s) ++ 10 ∷ []) session_name
    ∙ ap (λ l. line_text (codes "\"message\"") t (codes "\"session\"") (34 ∷ (l ++ 34 ∷ [])) ++ 10 ∷ []) (id_plain s e)
    ∙ ap (λ l. codes "{\"message\":" ++ l) (append_assoc t rest (10 ∷ []) ∙ ap (λ l. t ++ (codes ",\"session\":\"" ++ l)) (closing s))

-- five texts, appended one after the other
pub five_pushed : (o a b c d e p q r s all : List ℕ) → p ≡ o ++ a → q ≡ p ++ b → r ≡ q ++ c → s ≡ r ++ d → all ≡ s ++ e → all ≡ o ++ (a ++ (b ++ (c ++ (d ++ e))))
five_pushed o a b c d e p q r s all h i j k l =
    l ∙ ap (λ z. z ++ e) (k ∙ ap (λ z. z ++ d) (j ∙ ap (λ z. z ++ c) (i ∙ ap (λ z. z ++ b) h)))
    ∙ append_assoc (((o ++ a) ++ b) ++ c) d e ∙ append_assoc ((o ++ a) ++ b) c (d ++ e) ∙ append_assoc (o ++ a) b (c ++ (d ++ e)) ∙ append_assoc o a (b ++ (c ++ (d ++ e)))
