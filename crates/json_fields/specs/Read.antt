-- What stands in the members of an object, each kind of value by one function: None for a value that is none of the kind.
--     has_members n d            the value is an object of n members, which have different names
--     in_member read name d      what the member of this name is read as
--     within bound o             a number that is at most the bound
--     count_of d                 a whole number from 0 to max_count, written as digits alone
--     good_text test d           a text that passes the test of its grammar
--     bytes_of d                 the bytes whose base64 the text is: standard alphabet, with padding, and no other spelling (RFC 4648)
--     hash_of d                  32 bytes in base64
--     version_of d, id_of d      a version with its hash, and the id of a delta: two and three members of the object
use Rattle.std.specs.Prelude.{ℕ, Bool, nat_le, ◌==◌, if◌then◌else◌, List, length, Option, Some, None, option_map, option_and_then, codes}
use Rattle.base64.specs.Engines.{standard}
use Rattle.base64.specs.GeneralPurpose.{decoded_of}
use Rattle.serde_json.specs.Data.{Data}
use Rattle.serde_json.specs.Find.{get, as_str}
use Rattle.doc_items.specs.Limits.{max_count}
use Rattle.op_json.specs.Members.{member_count}
use Rattle.op_json.specs.Read.{whole_number}
use Rattle.wave_base.specs.Grammar.{is_address}
use Rattle.wave_base.specs.Versions.{VersionAt, IdOf}

-- ---- members

abbrev pub has_members : ℕ → Data → Bool
has_members n d = member_count d == n

abbrev pub in_member : {X : Type 0} → (Data → Option X) → List ℕ → Data → Option X
in_member read name d = option_and_then read (get name d)

-- ---- numbers and texts

abbrev pub within : ℕ → Option ℕ → Option ℕ
within bound o = option_and_then (λ n. if nat_le n bound then Some n else None) o

abbrev pub count_of : Data → Option ℕ
count_of d = within max_count (whole_number d)

abbrev pub good_text : (List ℕ → Bool) → Data → Option (List ℕ)
good_text test d = option_and_then (λ t. if test t then Some t else None) (as_str d)

-- ---- bytes

abbrev pub bytes_of : Data → Option (List ℕ)
bytes_of d = option_and_then (decoded_of standard) (as_str d)

abbrev pub hash_of : Data → Option (List ℕ)
hash_of d = option_and_then (λ b. if length b == 32 then Some b else None) (bytes_of d)

-- ---- versions and ids

abbrev pub version_of : Data → Option VersionAt
version_of d = option_and_then (λ version. option_map (λ hash. record { version = version; hash = hash })
    (in_member hash_of (codes "hash") d)) (in_member count_of (codes "version") d)

abbrev pub id_of : Data → Option IdOf
id_of d = option_and_then (λ author. option_and_then
    (λ client. option_map (λ number. record { author = author; client = client; number = number })
    (in_member count_of (codes "number") d)) (in_member count_of (codes "client") d)) (in_member (good_text is_address) (codes "author") d)
