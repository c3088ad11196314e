-- The chain of hashes of a history, by SHA-256 (FIPS 180-4).
--     zero_hash_of name          at version 0: the digest of the name's text
--     next_hash_of old bytes     after a delta: the digest of the old hash followed by the delta's bytes
use Rattle.std.specs.Prelude.{ℕ, List, ◌++◌}
use Rattle.sha2.specs.Sha256.{sha256}

unfoldable pub zero_hash_of : List ℕ → List ℕ
zero_hash_of name = sha256 name

unfoldable pub next_hash_of : List ℕ → List ℕ → List ℕ
next_hash_of old bytes = sha256 (old ++ bytes)
