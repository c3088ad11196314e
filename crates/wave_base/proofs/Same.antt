-- The tests of versions and ids decide equality.
use Rattle.std.proofs.Common.{◌≡◌, ◌&&◌, ◌==◌, true, refl}
use Rattle.std.specs.Cmp.Lexicographic.{pointwise, bytes_decides}
use Rattle.std.proofs.lemmas.Bool.{and_parts, and_from}
use Rattle.wave_base.specs.Versions.{VersionAt, IdOf, same_version, same_id}
use Rattle.wave_base.proofs.Parts.{same_number, own_number}

pub same_version-is : (a b : VersionAt) → same_version a b ≡ true → a ≡ b
same_version-is a b e =
    let h = and_parts (a.version == b.version) (pointwise ◌==◌ a.hash b.hash) e in
    let version = same_number a.version b.version h.0 in
    let hash = (bytes_decides a.hash b.hash).0 h.1 in
    λ i. record { version = version i; hash = hash i }

pub same_version-refl : (a : VersionAt) → same_version a a ≡ true
same_version-refl a = and_from _ _ (own_number a.version) ((bytes_decides a.hash a.hash).1 refl)

pub same_id-is : (a b : IdOf) → same_id a b ≡ true → a ≡ b
same_id-is a b e =
    let h = and_parts (pointwise ◌==◌ a.author b.author && (a.client == b.client)) (a.number == b.number) e in
    let k = and_parts (pointwise ◌==◌ a.author b.author) (a.client == b.client) h.0 in
    let author = (bytes_decides a.author b.author).0 k.0 in
    let client = same_number a.client b.client k.1 in
    let number = same_number a.number b.number h.1 in
    λ i. record { author = author i; client = client i; number = number i }

pub same_id-refl : (a : IdOf) → same_id a a ≡ true
same_id-refl a = and_from _ _ (and_from _ _ ((bytes_decides a.author a.author).1 refl) (own_number a.client)) (own_number a.number)
