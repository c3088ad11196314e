-- The names of journal files have their form.
--     hash_bytes          a zero hash is 32 bytes
--     own_form            the name of a wavelet's file is that of a wavelet's file
use Rattle.std.proofs.Common.{◌≡◌, ℕ, zero, suc, ◌+◌, ◌*◌, ◌/◌, ◌%◌, ◌<◌, ⊎_elim, Bool, true, ◌&&◌, List, [], ◌∷◌, ◌++◌, length, take, drop, slice_index, nat_eq, refl, ap, subst, ◌∙◌, arith, length-append}
use Rattle.std.specs.Int.{w32, to_be_bytes}
use Rattle.std.specs.List.{AllByRecursion, list_all}
use Rattle.std.proofs.lemmas.Bool.{cases_lt, and_parts}
use Rattle.std.proofs.Math.Seq.{take-append_seam, drop-append_seam}
use Rattle.hex.specs.Hex.{encode_lower, encode_with, lower_digits}
use Rattle.hex.proofs.HexLemmas.{length-encode_with}
use Rattle.sha2.specs.Sha256.{sha256, digest_bytes, final_hash, initial_hash_256}
use Rattle.sha2.proofs.Facts256.{length-sha256}
use Rattle.doc_items.specs.Maps.{Key, same_text}
use Rattle.wave_hash.specs.Chain.{zero_hash_of}
use Rattle.wavelet_shelf.specs.FileNames.{suffix, file_name_of, is_digit, is_file_name}

abbrev AreBytes : List ℕ → Type 0
AreBytes bs = AllByRecursion (λ b. b < 256) bs

joined : (cs bs : List ℕ) → AreBytes cs → AreBytes bs → AreBytes (cs ++ bs)
joined [] bs p q = q
joined (c ∷ cs) bs p q = (p.0, joined cs bs p.1 q)

word_bytes : (n : ℕ) → AreBytes (to_be_bytes w32 n)
word_bytes n = (omega arith, (omega arith, (omega arith, (omega arith, tt))))

words_bytes : (h : List ℕ) (n : ℕ) → AreBytes (digest_bytes h n)
unfolding digest_bytes
words_bytes h zero = tt
words_bytes h (suc n) = joined (digest_bytes h n) (to_be_bytes w32 (slice_index h n)) (words_bytes h n) (word_bytes (slice_index h n))

hash_bytes : (n : Key) → AreBytes (zero_hash_of n)
unfolding zero_hash_of sha256
hash_bytes n = words_bytes (final_hash initial_hash_256 n) 8

-- ---- digits

abbrev all_digits : ℕ → Bool
all_digits zero = true
all_digits (suc k) = is_digit (slice_index lower_digits k) && all_digits k

digit_below : (k d : ℕ) → all_digits k ≡ true → d < k → is_digit (slice_index lower_digits d) ≡ true
digit_below zero d all lt = absurd (omega (arith, lt))
digit_below (suc k) d all lt =
    let parts = and_parts (is_digit (slice_index lower_digits k)) (all_digits k) all in
    ⊎_elim
    (λ below. digit_below k d parts.1 below)
    (λ above. let is : k ≡ d = omega (arith, lt, above) in subst (λ j. is_digit (slice_index lower_digits j) ≡ true) is parts.0)
    (cases_lt d k)

digit_at : (d : ℕ) → d < 16 → is_digit (slice_index lower_digits d) ≡ true
digit_at d lt = digit_below 16 d refl lt

digits_all : (bs : List ℕ) → AreBytes bs → list_all is_digit (encode_lower bs) ≡ true
unfolding encode_with
digits_all [] p = refl
digits_all (b ∷ bs) p =
    let lt = p.0 in
    let high = digit_at (b / 16) (omega (arith, lt)) in
    let low = digit_at (b % 16) (omega arith) in
    (λ i. high i && (low i && digits_all bs p.1 i))

pub own_form : (n : Key) → is_file_name (file_name_of n) ≡ true
unfolding zero_hash_of
own_form n =
    let digits = encode_lower (zero_hash_of n) in
    let hash : length (zero_hash_of n) ≡ 32 = length-sha256 n in
    let long : length digits ≡ 64 = length-encode_with lower_digits (zero_hash_of n) ∙ ap (λ k. 2 * k) hash in
    let whole : length (digits ++ suffix) ≡ 69 = length-append digits suffix ∙ ap (λ k. k + 5) long in
    let front : take 64 (digits ++ suffix) ≡ digits = subst (λ k. take k (digits ++ suffix) ≡ digits) long (take-append_seam digits suffix) in
    let back : drop 64 (digits ++ suffix) ≡ suffix = subst (λ k. drop k (digits ++ suffix) ≡ suffix) long (drop-append_seam digits suffix) in
    (λ i. nat_eq (whole i) 69 && list_all is_digit (front i) && same_text (back i) suffix) ∙ ap (λ t. t && true) (digits_all (zero_hash_of n) (hash_bytes n))
