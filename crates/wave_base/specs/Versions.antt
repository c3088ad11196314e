-- What a state and a delta of a history are known by, as contracts see them.
--     VersionAt              a version, and the hash of the history up to there
--     IdOf                   the author of a delta, the key of the client, and the number that the client gave it
--     same_version, same_id  tests of ≡ on them
--     id_cmp                 ids by author in byte order, then by client, then by number
use Rattle.std.specs.Prelude.{ℕ, Bool, ◌&&◌, ◌==◌, List}
use Rattle.std.specs.Cmp.Lexicographic.{pointwise, slice_cmp}
use Rattle.std.specs.Ordering.{nat_cmp, on, then_cmp}
use Rattle.std.specs.declared.cmp.Ordering.{Ordering}

pub record VersionAt : Type 0 where
  pub version : ℕ
  pub hash : List ℕ

pub record IdOf : Type 0 where
  pub author : List ℕ
  pub client : ℕ
  pub number : ℕ

abbrev pub same_version : VersionAt → VersionAt → Bool
same_version a b = (a.version == b.version) && pointwise ◌==◌ a.hash b.hash

abbrev pub same_id : IdOf → IdOf → Bool
same_id a b = pointwise ◌==◌ a.author b.author && (a.client == b.client) && (a.number == b.number)

abbrev pub id_cmp : IdOf → IdOf → Ordering
id_cmp = then_cmp (on (λ i. i.author) (slice_cmp nat_cmp)) (then_cmp (on (λ i. i.client) nat_cmp) (on (λ i. i.number) nat_cmp))
