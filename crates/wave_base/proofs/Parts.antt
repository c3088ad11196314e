-- What names are made of: their parts, and how long they can be.
use Rattle.std.proofs.Common.{◌≡◌, ◌<◌, ◌≤◌, ◌==◌, ◌&&◌, ◌+◌, ℕ, Bool, true, leb, length, List, ◌∷◌, ◌++◌, sym, ap, ◌∙◌, length-append, arith}
use Rattle.std.specs.List.{list_any, list_all, slice_split, position_or_len, before_first, after_first}
use Rattle.std.proofs.lemmas.Bool.{and_parts}
use Rattle.std.proofs.lemmas.Bool.Decides.{nat_tests}
use Rattle.std.proofs.lemmas.List.Sums.{split_at_first, passes_at_first}
use Rattle.wave_base.specs.Grammar.{before, behind, joined, is_user, is_id, is_domain, is_address, is_wavelet_part, is_after_wave_domain, is_wavelet_name, domain_of, host_of, at_sign, slash, dot, is_word}
use Rattle.wave_base.specs.declared.scanner.Alphabet.TheVariants.{User, Label, Id}
use Rattle.wave_base.proofs.Cuts.{any-first}

pub same_number : (a b : ℕ) → (a == b) ≡ true → a ≡ b
same_number a b e = grind (arith, nat_tests)

pub own_number : (a : ℕ) → (a == a) ≡ true
own_number a = grind (arith, nat_tests)

pub split-here : (b : ℕ) (t : List ℕ) → list_any (λ c. c == b) t ≡ true → t ≡ before b t ++ b ∷ behind b t
unfolding before behind
split-here b t here =
    let found : position_or_len (λ c. c == b) t < length t = grind (arith, nat_tests, sym (any-first (λ c. c == b) t) ∙ here) in
    let same = same_number _ _ (passes_at_first (λ c. c == b) t 0 found) in
    split_at_first (λ c. c == b) t 0 found ∙ ap (λ x. before_first (λ c. c == b) t ++ x ∷ after_first (λ c. c == b) t) same

-- what `joined` takes
pub record Joined (b : ℕ) (p q : List ℕ → Bool) (t : List ℕ) : Type 0 where
  pub whole : t ≡ before b t ++ b ∷ behind b t
  pub front : p (before b t) ≡ true
  pub back : q (behind b t) ≡ true

pub joined-parts : (b : ℕ) (p q : List ℕ → Bool) (t : List ℕ) → joined b p q t ≡ true → Joined b p q t
unfolding joined
joined-parts b p q t e =
    let outer = and_parts (list_any (λ c. c == b) t && p (before b t)) (q (behind b t)) e in
    let inner = and_parts (list_any (λ c. c == b) t) (p (before b t)) outer.0 in
    record { whole = split-here b t inner.0; front = inner.1; back = outer.1 }

length-joined : (b : ℕ) (p q : List ℕ → Bool) (t : List ℕ) (m n : ℕ) → Joined b p q t → length (before b t) ≤ m → length (behind b t) ≤ n → length t ≤ m + 1 + n
length-joined b p q t m n j f k = omega (arith, ap length j.whole, length-append (before b t) (b ∷ behind b t))

at_most : (n limit : ℕ) (x : Bool) → (leb n limit && x) ≡ true → n ≤ limit
at_most n limit x e = let h = (and_parts (leb n limit) x e).0 in grind (arith, nat_tests)

pub user-bound : (t : List ℕ) → is_user t ≡ true → length t ≤ 64
unfolding is_user
user-bound t e = at_most (length t) 64 (is_word User t) e

pub id-bound : (t : List ℕ) → is_id t ≡ true → length t ≤ 128
unfolding is_id
id-bound t e = at_most (length t) 128 (is_word Id t) e

pub domain-bound : (t : List ℕ) → is_domain t ≡ true → length t ≤ 255
unfolding is_domain
domain-bound t e = at_most (length t) 255 (list_all (is_word Label) (slice_split (λ b. b == dot) t)) e

pub address-parts : (t : List ℕ) → is_address t ≡ true → Joined at_sign is_user is_domain t
unfolding is_address
address-parts t e = joined-parts at_sign is_user is_domain t e

pub address-bound : (t : List ℕ) → is_address t ≡ true → length t ≤ 320
address-bound t e =
    let j = address-parts t e in
    length-joined at_sign is_user is_domain t 64 255 j (user-bound _ j.front) (domain-bound _ j.back)

pub domain_of-good : (t : List ℕ) → is_address t ≡ true → is_domain (domain_of t) ≡ true
unfolding domain_of
domain_of-good t e = (address-parts t e).back

pub name-parts : (t : List ℕ) → is_wavelet_name t ≡ true → Joined slash is_domain is_after_wave_domain t
unfolding is_wavelet_name
name-parts t e = joined-parts slash is_domain is_after_wave_domain t e

pub behind-parts : (t : List ℕ) → is_after_wave_domain t ≡ true → Joined slash is_id is_wavelet_part t
unfolding is_after_wave_domain
behind-parts t e = joined-parts slash is_id is_wavelet_part t e

pub wavelet-parts : (t : List ℕ) → is_wavelet_part t ≡ true → Joined slash is_domain is_id t
unfolding is_wavelet_part
wavelet-parts t e = joined-parts slash is_domain is_id t e

pub name-bound : (t : List ℕ) → is_wavelet_name t ≡ true → length t ≤ 769
name-bound t e =
    let j = name-parts t e in
    let k = behind-parts _ j.back in
    let l = wavelet-parts _ k.back in
    let wavelet = length-joined slash is_domain is_id _ 255 128 l (domain-bound _ l.front) (id-bound _ l.back) in
    let rest = length-joined slash is_id is_wavelet_part _ 128 384 k (id-bound _ k.front) wavelet in
    length-joined slash is_domain is_after_wave_domain t 255 513 j (domain-bound _ j.front) rest

pub host_of-good : (t : List ℕ) → is_wavelet_name t ≡ true → is_domain (host_of t) ≡ true
unfolding host_of
host_of-good t e = (wavelet-parts _ (behind-parts _ (name-parts t e).back).back).front
