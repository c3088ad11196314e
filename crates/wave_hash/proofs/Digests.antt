-- Each hash of the chain has 32 bytes.
use Rattle.std.proofs.Common.{◌≡◌, ◌++◌, ℕ, List, length}
use Rattle.sha2.proofs.Facts256.{length-sha256}
use Rattle.wave_hash.specs.Chain.{zero_hash_of, next_hash_of}

pub length-zero_hash_of : (name : List ℕ) → length (zero_hash_of name) ≡ 32
unfolding zero_hash_of
length-zero_hash_of name = length-sha256 name

pub length-next_hash_of : (old bytes : List ℕ) → length (next_hash_of old bytes) ≡ 32
unfolding next_hash_of
length-next_hash_of old bytes = length-sha256 (old ++ bytes)
