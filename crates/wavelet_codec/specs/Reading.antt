-- Deltas read from left to right: what stands at the front of bytes, and the bytes after it; None where nothing of the kind does.
--     passing test r            what was read, where it passes a test
--     count_at                  a number of at most max_count
--     address_at, document_at   texts in their grammar
--     is_spelling, normal_at    an operation on a document, in normal form
--     role_at, roles_at, role_change_at, mutation_at, tagged_at, op_at, ops_at, id_at     what Spelling says
--     delta_at hash bytes       the delta that all of the bytes are, with the hash at its version
use Rattle.std.specs.Prelude.{ℕ, zero, suc, ◌==◌, ◌&&◌, nat_lt, nat_le, List, [], ◌∷◌, length, Bool, if◌then◌else◌, Option, Some, None}
use Rattle.std.specs.Int.{w32, w64}
use Rattle.doc_items.specs.Limits.{max_count}
use Rattle.doc_items.specs.Maps.{Key}
use Rattle.doc_op.specs.declared.component.Component.{Component}
use Rattle.doc_op.specs.Actions.{actions}
use Rattle.doc_op.specs.Normal.{normal_form}
use Rattle.op_codec.specs.Spelling.{spelling, limit}
use Rattle.op_codec.specs.Reading.{Read, ◌>>=◌, number_at, key_at, list_of, operation_at}
use Rattle.wave_base.specs.Grammar.{is_address, is_id}
use Rattle.wave_base.specs.Versions.{IdOf}
use Rattle.wavelet_op.specs.declared.op.WaveletOp.{WaveletOp}
use Rattle.wavelet_op.specs.declared.op.WaveletOp.TheVariants.{NoOp, Add, Remove, Mutate, SetRole}
use Rattle.wavelet_op.specs.declared.role.Role.{Role}
use Rattle.wavelet_op.specs.declared.role.Role.TheVariants.{Full, ReadOnly}
use Rattle.wavelet_op.specs.Deltas.{DeltaOf, is_count}
use Rattle.wavelet_codec.specs.Spelling.{format}
use Rattle.wavelet_codec.specs.Same.{same_components}

abbrev pub passing : {X : Type 0} → (X → Bool) → Read X → Read X
passing test None = None
passing test (Some x) = if test x.0 then Some x else None

unfoldable pub count_at : List ℕ → Read ℕ
count_at bytes = passing (λ n. nat_le n max_count) (number_at w64 bytes)

unfoldable pub address_at : List ℕ → Read Key
address_at bytes = passing is_address (key_at bytes)

unfoldable pub document_at : List ℕ → Read Key
document_at bytes = passing is_id (key_at bytes)

-- ---- operations

unfoldable pub is_spelling : List Component → Bool
is_spelling cs = same_components (normal_form (actions cs)) cs && nat_lt (length (spelling cs)) limit

unfoldable pub normal_at : List ℕ → Read (List Component)
normal_at bytes = passing is_spelling (operation_at bytes)

unfoldable pub role_at : List ℕ → Read Role
role_at [] = None
role_at (zero ∷ rest) = Some (Full, rest)
role_at (suc zero ∷ rest) = Some (ReadOnly, rest)
role_at (suc (suc b) ∷ rest) = None

unfoldable pub roles_at : List ℕ → Read (Role × Role)
roles_at bytes = do
  old ← role_at bytes
  new ← role_at old.1
  Some ((old.0, new.0), new.1)

unfoldable pub role_change_at : List ℕ → Read (Key × (Role × Role))
role_change_at bytes = do
  address ← address_at bytes
  roles ← roles_at address.1
  Some ((address.0, roles.0), roles.1)

unfoldable pub mutation_at : List ℕ → Read (Key × List Component)
mutation_at bytes = do
  document ← document_at bytes
  op ← normal_at document.1
  Some ((document.0, op.0), op.1)

abbrev pub made : {X : Type 0} → (X → WaveletOp) → Read X → Read WaveletOp
made f None = None
made f (Some x) = Some (f x.0, x.1)

-- the operation with this tag
unfoldable pub tagged_at : ℕ → List ℕ → Read WaveletOp
tagged_at tag bytes = if tag == 0 then Some (NoOp, bytes)
    else (if tag == 1 then made Add (address_at bytes)
    else (if tag == 2 then made Remove (address_at bytes)
    else (if tag == 3 then made (λ m. Mutate m.0 m.1) (mutation_at bytes)
    else (if tag == 4 then made (λ s. SetRole s.0 s.1.0 s.1.1) (role_change_at bytes)
    else None))))

unfoldable pub op_at : List ℕ → Read WaveletOp
op_at [] = None
op_at (tag ∷ bytes) = tagged_at tag bytes

unfoldable pub ops_at : List ℕ → Read (List WaveletOp)
ops_at bytes = do
  n ← number_at w32 bytes
  if is_count n.0 then list_of op_at [] n.0 n.1 else None

-- ---- deltas

abbrev pub made_id : Key → ℕ → ℕ → IdOf
made_id author client number = record { author = author; client = client; number = number }

unfoldable pub id_at : List ℕ → Read IdOf
id_at bytes = do
  author ← address_at bytes
  client ← count_at author.1
  number ← count_at client.1
  Some (made_id author.0 client.0 number.0, number.1)

abbrev pub is_nil : List ℕ → Bool
is_nil bytes = length bytes == 0

abbrev pub made_delta : List ℕ → IdOf → ℕ → ℕ → List WaveletOp → DeltaOf
made_delta hash id version time ops = record { id = id; from = record { version = version; hash = hash }; time = time; ops = ops }

-- the delta with this format byte
unfoldable pub tagged_delta_at : List ℕ → ℕ → List ℕ → Option DeltaOf
tagged_delta_at hash tag bytes = do
  id ← id_at bytes
  version ← count_at id.1
  time ← count_at version.1
  ops ← ops_at time.1
  if (tag == format ops.0) && is_nil ops.1 then Some (made_delta hash id.0 version.0 time.0 ops.0) else None

unfoldable pub delta_at : List ℕ → List ℕ → Option DeltaOf
delta_at hash [] = None
delta_at hash (tag ∷ bytes) = tagged_delta_at hash tag bytes
