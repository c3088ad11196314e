-- The names of journal files.
--     file_name_of n      the file of the wavelet of this name: its zero hash in 64 lower-case hexadecimal digits, and `.wave`
--     is_file_name f      the name has this form
--     shard_of n          the shard of the wavelet: the first byte of its zero hash modulo 16
use Rattle.std.specs.Prelude.{ℕ, ◌%◌, Bool, ◌&&◌, ◌||◌, nat_eq, nat_le, List, [], ◌∷◌, ◌++◌, length, take, drop, codes}
use Rattle.std.specs.List.{list_all}
use Rattle.hex.specs.Hex.{encode_lower}
use Rattle.doc_items.specs.Maps.{Key, same_text}
use Rattle.wave_hash.specs.Chain.{zero_hash_of}

abbrev pub suffix : List ℕ
suffix = codes ".wave"

abbrev pub file_name_of : Key → List ℕ
file_name_of n = encode_lower (zero_hash_of n) ++ suffix

abbrev pub is_digit : ℕ → Bool
is_digit c = (nat_le 48 c && nat_le c 57) || (nat_le 97 c && nat_le c 102)

abbrev pub is_file_name : List ℕ → Bool
is_file_name f = nat_eq (length f) 69 && list_all is_digit (take 64 f) && same_text (drop 64 f) suffix

abbrev pub first_byte : List ℕ → ℕ
first_byte [] = 0
first_byte (b ∷ bs) = b

abbrev pub shard_of : Key → ℕ
shard_of n = first_byte (zero_hash_of n) % 16
