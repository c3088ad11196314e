-- The grammar of names, as tests over the bytes of a text. A name has ASCII alone, so its bytes are its characters.
--     dot, slash, at_sign                    the bytes that separate parts
--     is_among marks b, has alphabet b       the byte is one of the marks; it is of the alphabet
--     is_word alphabet t                     one byte or more, each of the alphabet
--     is_user, is_id                         words of at most 64 and 128 bytes; a document or a session is named by an id
--     is_domain                              labels with a dot between each two, at most 255 bytes in all
--     before b t, after b t, IsCut          what stands on the two sides of the first byte b
--     joined b p q t                         what p takes, then the first byte b, then what q takes
--     is_address                             user @ domain
--     is_wavelet_part                        wavelet domain / wavelet id
--     is_after_wave_domain                  wave id / wavelet domain / wavelet id
--     is_wavelet_name                        wave domain / wave id / wavelet domain / wavelet id
--     domain_of, host_of                     the domain of an address, the wavelet domain of a wavelet name
use Rattle.std.specs.Prelude.{ℕ, Bool, true, ◌≡◌, ◌&&◌, ◌||◌, ◌==◌, nat_le, List, length, not, codes}
use Rattle.std.specs.Char.{is_ascii_lowercase, is_ascii_uppercase, is_ascii_digit}
use Rattle.std.specs.List.{list_any, list_all, slice_split, before_first, after_first}
use Rattle.wave_base.specs.declared.scanner.Alphabet.{Alphabet}
use Rattle.wave_base.specs.declared.scanner.Alphabet.TheVariants.{User, Label, Id}

abbrev pub dot : ℕ
dot = 46

abbrev pub slash : ℕ
slash = 47

abbrev pub at_sign : ℕ
at_sign = 64

abbrev pub is_among : List ℕ → ℕ → Bool
is_among marks b = list_any (λ mark. b == mark) marks

abbrev pub has : Alphabet → ℕ → Bool
has User b = is_ascii_lowercase b || is_ascii_digit b || is_among (codes "._+-") b
has Label b = is_ascii_lowercase b || is_ascii_digit b || is_among (codes "-") b
has Id b = is_ascii_lowercase b || is_ascii_digit b || is_ascii_uppercase b || is_among (codes "+-._~*") b

unfoldable pub is_word : Alphabet → List ℕ → Bool
is_word alphabet t = not (length t == 0) && list_all (has alphabet) t

unfoldable pub is_user : List ℕ → Bool
is_user t = nat_le (length t) 64 && is_word User t

unfoldable pub is_id : List ℕ → Bool
is_id t = nat_le (length t) 128 && is_word Id t

unfoldable pub is_domain : List ℕ → Bool
is_domain t = nat_le (length t) 255 && list_all (is_word Label) (slice_split (λ b. b == dot) t)

unfoldable pub before : ℕ → List ℕ → List ℕ
before b t = before_first (λ c. c == b) t

unfoldable pub behind : ℕ → List ℕ → List ℕ
behind b t = after_first (λ c. c == b) t

abbrev pub IsCut : ℕ → List ℕ → List ℕ → List ℕ → Type 0
IsCut b t front back = (list_any (λ c. c == b) t ≡ true) × (front ≡ before b t) × (back ≡ behind b t)

unfoldable pub joined : ℕ → (List ℕ → Bool) → (List ℕ → Bool) → List ℕ → Bool
joined b p q t = list_any (λ c. c == b) t && p (before b t) && q (behind b t)

unfoldable pub is_address : List ℕ → Bool
is_address t = joined at_sign is_user is_domain t

unfoldable pub is_wavelet_part : List ℕ → Bool
is_wavelet_part t = joined slash is_domain is_id t

unfoldable pub is_after_wave_domain : List ℕ → Bool
is_after_wave_domain t = joined slash is_id is_wavelet_part t

unfoldable pub is_wavelet_name : List ℕ → Bool
is_wavelet_name t = joined slash is_domain is_after_wave_domain t

unfoldable pub domain_of : List ℕ → List ℕ
domain_of address = behind at_sign address

unfoldable pub host_of : List ℕ → List ℕ
host_of name = before slash (behind slash (behind slash name))
