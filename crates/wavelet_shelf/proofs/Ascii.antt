-- The names of wavelets are ASCII, and so UTF-8.
use Rattle.std.proofs.Common.{◌≡◌, ◌⊎◌, inl, inr, ⊎_elim, ℕ, zero, suc, ◌==◌, ◌<◌, Bool, true, false, ◌&&◌, ◌||◌, not, nat_le, List, [], ◌∷◌, ◌++◌, length, codes, refl, sym, subst, true≢false, arith}
use Rattle.std.specs.Char.{is_ascii_lowercase, is_ascii_uppercase, is_ascii_digit}
use Rattle.std.specs.List.{AllByRecursion, list_all, list_any, join_with_byte}
use Rattle.std.specs.Str.{IsAscii, IsUtf8}
use Rattle.std.proofs.lemmas.Bool.{and_parts, leb-true, eqb-true}
use Rattle.std.proofs.lemmas.Str.{IsUtf8-from_ascii}
use Rattle.wave_base.specs.Grammar.{has, is_among, is_word, is_id, is_domain, is_wavelet_name, dot, host_of}
use Rattle.wave_base.specs.declared.scanner.Alphabet.{Alphabet}
use Rattle.wave_base.specs.declared.scanner.Alphabet.TheVariants.{Label, Id}
use Rattle.wave_base.proofs.Made.{domain_law, name_apart}

abbrev AreAscii : List ℕ → Type 0
AreAscii t = AllByRecursion (λ b. b < 128) t

joined : (s t : List ℕ) → AreAscii s → AreAscii t → AreAscii (s ++ t)
joined [] t p q = q
joined (b ∷ s) t p q = (p.0, joined s t p.1 q)

or_parts : (a b : Bool) → a || b ≡ true → (a ≡ true) ⊎ (b ≡ true)
or_parts true b e = inl refl
or_parts false b e = inr e

among_ascii : (marks : List ℕ) (b : ℕ) → AreAscii marks → list_any (λ mark. b == mark) marks ≡ true → b < 128
among_ascii [] b p e = absurd (true≢false (sym e))
among_ascii (m ∷ marks) b p e = ⊎_elim
    (λ is. let same : b ≡ m = eqb-true b m is in let lt = p.0 in omega (arith, same, lt))
    (λ rest. among_ascii marks b p.1 rest)
    (or_parts (b == m) (list_any (λ mark. b == mark) marks) e)

range_ascii : (low high b : ℕ) → high < 128 → nat_le low b && nat_le b high ≡ true → b < 128
range_ascii low high b lt e = let le = leb-true b high (and_parts (nat_le low b) (nat_le b high) e).1 in omega (arith, le, lt)

label_ascii : (b : ℕ) → has Label b ≡ true → b < 128
label_ascii b e = ⊎_elim
    (λ letter_or_digit. ⊎_elim (λ l. range_ascii 97 122 b (omega arith) l) (λ d. range_ascii 48 57 b (omega arith) d) (or_parts (is_ascii_lowercase b) (is_ascii_digit b) letter_or_digit))
    (λ mark. among_ascii (codes "-") b (omega arith, tt) mark)
    (or_parts (is_ascii_lowercase b || is_ascii_digit b) (is_among (codes "-") b) e)

id_ascii : (b : ℕ) → has Id b ≡ true → b < 128
id_ascii b e = ⊎_elim
    (λ most. ⊎_elim
    (λ letter_or_digit. ⊎_elim (λ l. range_ascii 97 122 b (omega arith) l) (λ d. range_ascii 48 57 b (omega arith) d) (or_parts (is_ascii_lowercase b) (is_ascii_digit b) letter_or_digit))
    (λ u. range_ascii 65 90 b (omega arith) u)
    (or_parts (is_ascii_lowercase b || is_ascii_digit b) (is_ascii_uppercase b) most))
    (λ mark. among_ascii (codes "+-._~*") b (omega arith, (omega arith, (omega arith, (omega arith, (omega arith, (omega arith, tt)))))) mark)
    (or_parts (is_ascii_lowercase b || is_ascii_digit b || is_ascii_uppercase b) (is_among (codes "+-._~*") b) e)

all_ascii : (p : ℕ → Bool) → ((b : ℕ) → p b ≡ true → b < 128) → (t : List ℕ) → list_all p t ≡ true → AreAscii t
all_ascii p f [] e = tt
all_ascii p f (b ∷ t) e = let parts = and_parts (p b) (list_all p t) e in (f b parts.0, all_ascii p f t parts.1)

word_ascii : (a : Alphabet) → ((b : ℕ) → has a b ≡ true → b < 128) → (t : List ℕ) → is_word a t ≡ true → AreAscii t
unfolding is_word
word_ascii a f t e = all_ascii (has a) f t (and_parts (not (length t == 0)) (list_all (has a) t) e).1

labels_ascii : (label : List ℕ) (labels : List (List ℕ)) → list_all (is_word Label) (label ∷ labels) ≡ true → AreAscii (join_with_byte dot (label ∷ labels))
labels_ascii label [] e = word_ascii Label label_ascii label (and_parts (is_word Label label) true e).0
labels_ascii label (next ∷ labels) e =
    let parts = and_parts (is_word Label label) (list_all (is_word Label) (next ∷ labels)) e in
    joined label (dot ∷ join_with_byte dot (next ∷ labels)) (word_ascii Label label_ascii label parts.0) (omega arith, labels_ascii next labels parts.1)

domain_ascii : (t : List ℕ) → is_domain t ≡ true → AreAscii t
domain_ascii t e =
    let d = (domain_law t).0 e in
    subst AreAscii (sym d.1.1.2) (labels_ascii d.0 d.1.0 d.1.1.1)

ids_ascii : (t : List ℕ) → is_id t ≡ true → AreAscii t
unfolding is_id
ids_ascii t e = word_ascii Id id_ascii t (and_parts (nat_le (length t) 128) (is_word Id t) e).1

name_ascii : (t : List ℕ) → is_wavelet_name t ≡ true → AreAscii t
name_ascii t e =
    let a = name_apart t e in
    let n = a.3 in
    subst AreAscii (sym n.whole)
    (joined a.0 _ (domain_ascii a.0 n.wave_domain_good) (omega arith, joined a.1 _ (ids_ascii a.1 n.wave_id_good) (omega arith, joined (host_of t) _ (domain_ascii (host_of t) n.domain_good) (omega arith, ids_ascii a.2 n.id_good))))

each_ascii : (t : List ℕ) → AreAscii t → IsAscii t
each_ascii [] p i = omega arith
each_ascii (b ∷ t) p zero = p.0
each_ascii (b ∷ t) p (suc i) = each_ascii t p.1 i

pub name_utf8 : (t : List ℕ) → is_wavelet_name t ≡ true → IsUtf8 t
name_utf8 t e = IsUtf8-from_ascii t (each_ascii t (name_ascii t e))
