-- Names put together from their parts, and taken apart.
use Rattle.std.proofs.Common.{◌≡◌, ◌↔◌, ◌<◌, ◌≤◌, ◌==◌, ◌||◌, ◌+◌, ℕ, Bool, true, false, true≢false, not, cond, leb, length, take, drop, List, [], ◌∷◌, ◌++◌, refl, sym, ap, ◌∙◌, length-append, arith}
use Rattle.std.proofs.Math.Seq.{take-append_seam, drop-append-add}
use Rattle.std.specs.List.{list_any, list_all, slice_split, position_or_len, join_with_byte, All}
use Rattle.std.proofs.lemmas.Bool.{and_parts, and_from}
use Rattle.std.proofs.lemmas.Bool.Decides.{nat_tests}
use Rattle.std.proofs.lemmas.List.Elements.{All-cons}
use Rattle.std.proofs.lemmas.List.Folds.{list_any_none, list_all-append}
use Rattle.std.proofs.lemmas.List.Splits.{slice_split_at, slice_split_none, join_with_byte-slice_split, length-slice_split}
use Rattle.wave_base.specs.Grammar.{before, behind, joined, has, is_word, is_user, is_id, is_domain, is_address, is_wavelet_part, is_after_wave_domain, is_wavelet_name, domain_of, host_of, at_sign, slash, dot}
use Rattle.wave_base.specs.Relations.{IsDomain, IsAddress, IsWaveletName}
use Rattle.wave_base.specs.declared.scanner.Alphabet.{Alphabet}
use Rattle.wave_base.specs.declared.scanner.Alphabet.TheVariants.{User, Label, Id}
use Rattle.wave_base.proofs.Cuts.{any-first}
use Rattle.wave_base.proofs.Parts.{same_number, own_number, address-parts, name-parts, behind-parts, wavelet-parts, domain-bound}

abbrev Lacks : ℕ → List ℕ → Type 0
Lacks b t = All (λ c. (c == b) ≡ false) t

-- a byte that p takes is not one that it doesn't take
apart : (p : ℕ → Bool) (b x : ℕ) → p b ≡ false → p x ≡ true → (x == b) ≡ false
apart p b x refused taken = elim (x == b) as (λ r. (x == b) ≡ r → (x == b) ≡ false) [
  | true ↦ λ e. absurd (true≢false (sym taken ∙ ap p (same_number x b e) ∙ refused))
  | false ↦ λ e. e
] refl

lacks : (p : ℕ → Bool) (b : ℕ) → p b ≡ false → (t : List ℕ) → list_all p t ≡ true → Lacks b t
lacks p b refused [] e = λ k d short. absurd (omega arith)
lacks p b refused (x ∷ xs) e =
    let h = and_parts (p x) (list_all p xs) e in
    All-cons (λ c. (c == b) ≡ false) x xs (apart p b x refused h.0) (lacks p b refused xs h.1)

or_parts : (x y : Bool) → (x || y) ≡ false → (x ≡ false) × (y ≡ false)
or_parts true y e = absurd (true≢false e)
or_parts false y e = (refl, e)

place : (b : ℕ) (front back : List ℕ) → list_any (λ c. c == b) front ≡ false → position_or_len (λ c. c == b) (front ++ b ∷ back) ≡ length front
place b [] back e = ap (λ r. cond (not r) (1 + position_or_len (λ c. c == b) back) 0) (own_number b)
place b (x ∷ front) back e =
    let h = or_parts (x == b) (list_any (λ c. c == b) front) e in
    ap (λ r. cond (not r) (1 + position_or_len (λ c. c == b) (front ++ b ∷ back)) 0) h.0 ∙ omega (arith, place b front back h.1)

module _ (b : ℕ) (front back : List ℕ) (free : list_any (λ c. c == b) front ≡ false) where
  before-made : before b (front ++ b ∷ back) ≡ front
  unfolding before
  before-made = ap (λ n. take n (front ++ b ∷ back)) (place b front back free) ∙ take-append_seam front (b ∷ back)

  behind-made : behind b (front ++ b ∷ back) ≡ back
  unfolding behind
  behind-made = ap (λ n. drop (n + 1) (front ++ b ∷ back)) (place b front back free) ∙ drop-append-add front (b ∷ back) 1

  here-made : list_any (λ c. c == b) (front ++ b ∷ back) ≡ true
  here-made = any-first (λ c. c == b) (front ++ b ∷ back) ∙ grind (arith, nat_tests, place b front back free, length-append front (b ∷ back))

  joined-made : (p q : List ℕ → Bool) → p front ≡ true → q back ≡ true → joined b p q (front ++ b ∷ back) ≡ true
  unfolding joined
  joined-made p q f k = and_from _ _ (and_from _ _ here-made (ap p before-made ∙ f)) (ap q behind-made ∙ k)

-- ---- what users, ids and domains lack

word-lacks : (alphabet : Alphabet) (b : ℕ) (t : List ℕ) → has alphabet b ≡ false → is_word alphabet t ≡ true → Lacks b t
unfolding is_word
word-lacks alphabet b t refused e = lacks (has alphabet) b refused t (and_parts (not (length t == 0)) (list_all (has alphabet) t) e).1

free : (b : ℕ) (t : List ℕ) → Lacks b t → list_any (λ c. c == b) t ≡ false
free b t h = list_any_none (λ c. c == b) t h

user-free : (t : List ℕ) → is_user t ≡ true → list_any (λ c. c == at_sign) t ≡ false
unfolding is_user
user-free t e = free at_sign t (word-lacks User at_sign t refl (and_parts (leb (length t) 64) (is_word User t) e).1)

id-free : (t : List ℕ) → is_id t ≡ true → list_any (λ c. c == slash) t ≡ false
unfolding is_id
id-free t e = free slash t (word-lacks Id slash t refl (and_parts (leb (length t) 128) (is_word Id t) e).1)

abbrev in_domain : ℕ → Bool
in_domain b = has Label b || (b == dot)

or_left : (x y : Bool) → x ≡ true → (x || y) ≡ true
or_left x y e = ap (λ r. r || y) e

widened : (t : List ℕ) → list_all (has Label) t ≡ true → list_all in_domain t ≡ true
widened [] e = refl
widened (x ∷ xs) e =
    let h = and_parts (has Label x) (list_all (has Label) xs) e in
    and_from _ _ (or_left (has Label x) (x == dot) h.0) (widened xs h.1)

label-in_domain : (t : List ℕ) → is_word Label t ≡ true → list_all in_domain t ≡ true
unfolding is_word
label-in_domain t e = widened t (and_parts (not (length t == 0)) (list_all (has Label) t) e).1

labels-in_domain : (labels : List (List ℕ)) → list_all (is_word Label) labels ≡ true → list_all in_domain (join_with_byte dot labels) ≡ true
labels-in_domain [] e = refl
labels-in_domain (x ∷ []) e = label-in_domain x (and_parts (is_word Label x) true e).0
labels-in_domain (x ∷ y ∷ rest) e =
    let h = and_parts (is_word Label x) (list_all (is_word Label) (y ∷ rest)) e in
    list_all-append in_domain x (dot ∷ join_with_byte dot (y ∷ rest)) ∙ and_from _ _ (label-in_domain x h.0) (labels-in_domain (y ∷ rest) h.1)

domain-labels : (t : List ℕ) → is_domain t ≡ true → list_all (is_word Label) (slice_split (λ b. b == dot) t) ≡ true
unfolding is_domain
domain-labels t e = (and_parts (leb (length t) 255) (list_all (is_word Label) (slice_split (λ b. b == dot) t)) e).1

domain-free : (t : List ℕ) → is_domain t ≡ true → list_any (λ c. c == slash) t ≡ false
domain-free t e =
    let whole = ap (list_all in_domain) (join_with_byte-slice_split dot t) in
    free slash t (lacks in_domain slash refl t (sym whole ∙ labels-in_domain (slice_split (λ b. b == dot) t) (domain-labels t e)))

-- ---- domains

split-made : (label : List ℕ) (labels : List (List ℕ)) → list_all (is_word Label) (label ∷ labels) ≡ true → slice_split (λ b. b == dot) (join_with_byte dot (label ∷ labels)) ≡ label ∷ labels
split-made label [] e = slice_split_none (λ b. b == dot) label (word-lacks Label dot label refl (and_parts (is_word Label label) true e).0)
split-made label (next ∷ labels) e =
    let h = and_parts (is_word Label label) (list_all (is_word Label) (next ∷ labels)) e in
    slice_split_at (λ b. b == dot) label dot (join_with_byte dot (next ∷ labels)) (word-lacks Label dot label refl h.0) refl
    ∙ ap (λ rest. label ∷ rest) (split-made next labels h.1)

domain-apart : (t : List ℕ) (parts : List (List ℕ)) → length t ≤ 255 → list_all (is_word Label) parts ≡ true → join_with_byte dot parts ≡ t → 0 < length parts → IsDomain t
domain-apart t [] short all whole some = absurd (omega (arith, some))
domain-apart t (label ∷ labels) short all whole some = (label, (labels, (short, all, sym whole)))

domain-made : (t : List ℕ) → IsDomain t → is_domain t ≡ true
unfolding is_domain
domain-made t (label, (labels, (short, all, whole))) =
    let fits : leb (length t) 255 ≡ true = grind (arith, nat_tests) in
    and_from _ _ fits (ap (λ x. list_all (is_word Label) (slice_split (λ b. b == dot) x)) whole ∙ ap (list_all (is_word Label)) (split-made label labels all) ∙ all)

pub domain_law : (t : List ℕ) → (is_domain t ≡ true) ↔ IsDomain t
domain_law t = (
  λ e. domain-apart t (slice_split (λ b. b == dot) t) (domain-bound t e) (domain-labels t e) (join_with_byte-slice_split dot t) (omega (arith, length-slice_split (λ b. b == dot) t)),
  λ h. domain-made t h,
)

-- ---- addresses

pub address_apart : (t : List ℕ) → is_address t ≡ true → (user : List ℕ) × IsAddress user (domain_of t) t
unfolding domain_of
address_apart t e = let j = address-parts t e in (before at_sign t, (j.front, j.back, j.whole))

pub address_made : (user domain t : List ℕ) → IsAddress user domain t → (is_address t ≡ true) × (domain_of t ≡ domain)
unfolding is_address domain_of
address_made user domain t (u, d, whole) = (
  ap (joined at_sign is_user is_domain) whole ∙ joined-made at_sign user domain (user-free user u) is_user is_domain u d,
  ap (behind at_sign) whole ∙ behind-made at_sign user domain (user-free user u),
)

-- ---- names of wavelets

pub name_apart : (t : List ℕ) → is_wavelet_name t ≡ true → (wave_domain wave_id id : List ℕ) × IsWaveletName wave_domain wave_id (host_of t) id t
unfolding host_of
name_apart t e =
    let j = name-parts t e in
    let k = behind-parts (behind slash t) j.back in
    let l = wavelet-parts (behind slash (behind slash t)) k.back in (
      before slash t,
      before slash (behind slash t),
      behind slash (behind slash (behind slash t)),
      record {
        wave_domain_good = j.front;
        wave_id_good = k.front;
        domain_good = l.front;
        id_good = l.back;
        whole = j.whole ∙ ap (λ rest. before slash t ++ slash ∷ rest) (k.whole ∙ ap (λ rest. before slash (behind slash t) ++ slash ∷ rest) l.whole);
      },
    )

pub name_made : (wave_domain wave_id domain id t : List ℕ) → IsWaveletName wave_domain wave_id domain id t → (is_wavelet_name t ≡ true) × (host_of t ≡ domain)
unfolding is_wavelet_name is_after_wave_domain is_wavelet_part host_of
name_made wave_domain wave_id domain id t h =
    let wavelet = domain ++ slash ∷ id in
    let rest = wave_id ++ slash ∷ wavelet in
    let f = domain-free wave_domain h.wave_domain_good in
    let g = id-free wave_id h.wave_id_good in
    let k = domain-free domain h.domain_good in
    let last = joined-made slash domain id k is_domain is_id h.domain_good h.id_good in
    let middle = joined-made slash wave_id wavelet g is_id is_wavelet_part h.wave_id_good last in (
      ap (joined slash is_domain is_after_wave_domain) h.whole ∙ joined-made slash wave_domain rest f is_domain is_after_wave_domain h.wave_domain_good middle,
      ap (λ x. before slash (behind slash (behind slash x))) h.whole
          ∙ ap (λ x. before slash (behind slash x)) (behind-made slash wave_domain rest f)
          ∙ ap (before slash) (behind-made slash wave_id wavelet g)
          ∙ before-made slash domain id k,
    )
