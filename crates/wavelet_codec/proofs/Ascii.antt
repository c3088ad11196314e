-- Names are ASCII, and so they are texts.
use Rattle.std.proofs.Common.{◌≡◌, ℕ, zero, suc, ◌<◌, true, ◌==◌, not, length, List, [], ◌∷◌, sym, subst, arith}
use Rattle.std.specs.List.{list_all, slice_split, join_with_byte}
use Rattle.std.specs.Str.{IsAscii, IsUtf8}
use Rattle.std.proofs.lemmas.Bool.{and_parts}
use Rattle.std.proofs.lemmas.Bool.Decides.{nat_tests}
use Rattle.std.proofs.lemmas.Str.{IsAscii-append, IsUtf8-from_ascii}
use Rattle.std.proofs.lemmas.Str.Ascii.{IsAscii-nil}
use Rattle.std.proofs.lemmas.List.Splits.{join_with_byte-slice_split}
use Rattle.wave_base.specs.Grammar.{has, is_word, is_user, is_id, is_domain, is_address, before, behind, dot, at_sign}
use Rattle.wave_base.specs.declared.scanner.Alphabet.{Alphabet}
use Rattle.wave_base.specs.declared.scanner.Alphabet.TheVariants.{User, Label, Id}
use Rattle.wave_base.proofs.Parts.{address-parts}

letter : (alphabet : Alphabet) (b : ℕ) → has alphabet b ≡ true → b < 128
letter User b e = grind (arith, nat_tests)
letter Label b e = grind (arith, nat_tests)
letter Id b e = grind (arith, nat_tests)

in_front : (b : ℕ) (t : List ℕ) → b < 128 → IsAscii t → IsAscii (b ∷ t)
in_front b t lt h zero = lt
in_front b t lt h (suc i) = h i

letters : (alphabet : Alphabet) (t : List ℕ) → list_all (has alphabet) t ≡ true → IsAscii t
letters alphabet [] e = IsAscii-nil
letters alphabet (b ∷ t) e =
    let p = and_parts (has alphabet b) (list_all (has alphabet) t) e in
    in_front b t (letter alphabet b p.0) (letters alphabet t p.1)

word : (alphabet : Alphabet) (t : List ℕ) → is_word alphabet t ≡ true → IsAscii t
unfolding is_word
word alphabet t e = letters alphabet t (and_parts (not (length t == 0)) (list_all (has alphabet) t) e).1

joined_labels : (labels : List (List ℕ)) → list_all (is_word Label) labels ≡ true → IsAscii (join_with_byte dot labels)
joined_labels [] e = IsAscii-nil
joined_labels (l ∷ []) e = word Label l (and_parts (is_word Label l) true e).0
joined_labels (l ∷ m ∷ ls) e =
    let p = and_parts (is_word Label l) (list_all (is_word Label) (m ∷ ls)) e in
    IsAscii-append l (dot ∷ join_with_byte dot (m ∷ ls)) (word Label l p.0) (in_front dot _ (omega arith) (joined_labels (m ∷ ls) p.1))

domain : (t : List ℕ) → is_domain t ≡ true → IsAscii t
unfolding is_domain
domain t e =
    let labels = slice_split (λ b. b == dot) t in
    let p = and_parts _ (list_all (is_word Label) labels) e in
    subst (λ (w : List ℕ). IsAscii w) (join_with_byte-slice_split dot t) (joined_labels labels p.1)

user : (t : List ℕ) → is_user t ≡ true → IsAscii t
unfolding is_user
user t e = word User t (and_parts _ (is_word User t) e).1

pub id-text : (t : List ℕ) → is_id t ≡ true → IsUtf8 t
unfolding is_id
id-text t e = IsUtf8-from_ascii t (word Id t (and_parts _ (is_word Id t) e).1)

pub address-text : (t : List ℕ) → is_address t ≡ true → IsUtf8 t
address-text t e =
    let j = address-parts t e in
    IsUtf8-from_ascii t (subst (λ (w : List ℕ). IsAscii w) (sym j.whole) (IsAscii-append (before at_sign t) (at_sign ∷ behind at_sign t) (user (before at_sign t) j.front) (in_front at_sign (behind at_sign t) (omega arith) (domain (behind at_sign t) j.back))))
