-- The bytes of a delta of a history. Numbers have their highest byte first.
--     role_byte r, roles p    0 is full, 1 is read only; an old role and a new one
--     op_bytes o              the tag of an operation on a wavelet, and what it holds; one on a document as its normal form
--     ops_bytes os            the number of operations as four bytes, and the bytes of each
--     sets_role o, has_set_role os     whether it, or one of them, sets a role
--     format os               the format byte: 2 exactly where one sets a role, else 1
--     number n                eight bytes
--     id_bytes i              author, client and number
--     delta_bytes d           format, id, the version at which the delta was applied, time and operations; the hash isn't among them
--     IsOp o                  the texts are in their grammar, and the operation on a document has a spelling
--     AreOps os, IsId i       1 to 1,000 such operations; the author is an address, and the numbers are at most max_count
--     IsDelta d               such an id and such operations, at a version and a time of at most max_count: the delta has bytes
--     IsDeltaBytes bytes      they are those of a delta
--     IsRefused bytes e       what an error says of the bytes
--     IsSameDelta a b         equal but for the hashes
use Rattle.std.specs.Prelude.{◌≡◌, ◌≤◌, ℕ, Bool, true, false, cond, List, [], ◌∷◌, ◌++◌, length}
use Rattle.std.specs.List.{list_any, AllByRecursion}
use Rattle.std.specs.Int.{w64, to_be_bytes}
use Rattle.doc_items.specs.Limits.{max_count}
use Rattle.op_codec.specs.Spelling.{string, listed}
use Rattle.op_codec.specs.Canonical.{canonical, IsSpelling}
use Rattle.op_codec.specs.declared.fault.CodecFault.{CodecFault}
use Rattle.op_codec.specs.declared.fault.CodecFault.TheVariants.{BadBytes, Memory}
use Rattle.wave_base.specs.Grammar.{is_address, is_id}
use Rattle.wave_base.specs.Versions.{IdOf}
use Rattle.wavelet_op.specs.declared.op.WaveletOp.{WaveletOp}
use Rattle.wavelet_op.specs.declared.op.WaveletOp.TheVariants.{NoOp, Add, Remove, Mutate, SetRole}
use Rattle.wavelet_op.specs.declared.role.Role.{Role}
use Rattle.wavelet_op.specs.declared.role.Role.TheVariants.{Full, ReadOnly}
use Rattle.wavelet_op.specs.Deltas.{DeltaOf, is_count}

-- ---- operations

abbrev pub role_byte : Role → ℕ
role_byte Full = 0
role_byte ReadOnly = 1

abbrev pub roles : Role × Role → List ℕ
roles r = role_byte r.0 ∷ role_byte r.1 ∷ []

abbrev pub op_bytes : WaveletOp → List ℕ
op_bytes NoOp = 0 ∷ []
op_bytes (Add address) = 1 ∷ string address
op_bytes (Remove address) = 2 ∷ string address
op_bytes (Mutate document op) = 3 ∷ (string document ++ canonical op)
op_bytes (SetRole address old new) = 4 ∷ (string address ++ roles (old, new))

unfoldable pub ops_bytes : List WaveletOp → List ℕ
ops_bytes ops = listed op_bytes ops

-- ---- deltas

abbrev pub sets_role : WaveletOp → Bool
sets_role NoOp = false
sets_role (Add address) = false
sets_role (Remove address) = false
sets_role (Mutate document op) = false
sets_role (SetRole address old new) = true

abbrev pub has_set_role : List WaveletOp → Bool
has_set_role ops = list_any sets_role ops

abbrev pub format : List WaveletOp → ℕ
format ops = cond (has_set_role ops) 2 1

unfoldable pub number : ℕ → List ℕ
number n = to_be_bytes w64 n

abbrev pub id_bytes : IdOf → List ℕ
id_bytes i = string i.author ++ (number i.client ++ number i.number)

unfoldable pub delta_bytes : DeltaOf → List ℕ
delta_bytes d = format d.ops ∷ (id_bytes d.id ++ (number d.from.version ++ (number d.time ++ ops_bytes d.ops)))

-- ---- what has bytes

abbrev pub IsOp : WaveletOp → Type 0
IsOp NoOp = Unit {0}
IsOp (Add address) = is_address address ≡ true
IsOp (Remove address) = is_address address ≡ true
IsOp (Mutate document op) = (is_id document ≡ true) × IsSpelling op
IsOp (SetRole address old new) = is_address address ≡ true

pub record AreOps (ops : List WaveletOp) : Type 0 where
  pub count : is_count (length ops) ≡ true
  pub each : AllByRecursion IsOp ops

pub record IsId (i : IdOf) : Type 0 where
  pub author : is_address i.author ≡ true
  pub client : i.client ≤ max_count
  pub number : i.number ≤ max_count

pub record IsDelta (d : DeltaOf) : Type 0 where
  pub id : IsId d.id
  pub version : d.from.version ≤ max_count
  pub time : d.time ≤ max_count
  pub ops : AreOps d.ops

abbrev pub IsDeltaBytes : List ℕ → Type 0
IsDeltaBytes bytes = (d : DeltaOf) × IsDelta d × (bytes ≡ delta_bytes d)

abbrev pub IsRefused : List ℕ → CodecFault → Type 0
IsRefused bytes BadBytes = ¬ (IsDeltaBytes bytes)
IsRefused bytes Memory = Unit {0}

pub record IsSameDelta (a b : DeltaOf) : Type 0 where
  pub id : a.id ≡ b.id
  pub version : a.from.version ≡ b.from.version
  pub time : a.time ≡ b.time
  pub ops : a.ops ≡ b.ops
