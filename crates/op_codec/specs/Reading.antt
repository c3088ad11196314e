-- Bytes read from left to right: what stands at their front, and the bytes after it; None where nothing of the kind does.
--     number_at w, string_at, key_at, text_at, optional_at     numbers, bytes with their length, texts
--     list_at f               a list of what f reads
--     is_next, attributes_at  attributes, whose keys ascend in byte order
--     change_at, boundary_at, component_at     what Spelling says
--     operation_at            components, each of which a builder takes in turn
--     Gives view r read       a call's result, seen by view, is what reading gives, unless memory ran out
use Rattle.std.specs.Prelude.{◌≡◌, ℕ, zero, suc, ◌==◌, List, [], ◌∷◌, ◌++◌, length, take, drop, if◌then◌else◌, nat_lt, Option, Some, None, Result, Ok, Err}
use Rattle.std.specs.Int.{Width, w32, w64, byte_len, from_be_bytes}
use Rattle.std.specs.Str.{chars, is_utf8}
use Rattle.std.specs.FinMap.{empty, insert}
use Rattle.doc_items.specs.Maps.{Key, Map, is_next}
use Rattle.doc_items.specs.declared.change.Change.{Change}
use Rattle.doc_items.specs.declared.change.Boundary.{Boundary}
use Rattle.doc_op.specs.declared.component.Component.{Component}
use Rattle.doc_op.specs.declared.component.Component.TheVariants.{Retain, Characters, ElementStart, ElementEnd, DeleteCharacters, DeleteElementStart, DeleteElementEnd, ReplaceAttributes, UpdateAttributes, AnnotationBoundary}
use Rattle.doc_op.specs.Refusals.{takes}
use Rattle.op_codec.specs.declared.fault.CodecFault.{CodecFault}
use Rattle.op_codec.specs.declared.fault.CodecFault.TheVariants.{BadBytes, Memory}

-- what was read, and the bytes after it
abbrev pub Read : Type 0 → Type 0
Read X = Option (X × List ℕ)

infixl 10 ◌>>=◌
abbrev pub ◌>>=◌ : {A B : Type 0} → Option A → (A → Option B) → Option B
(Some x) >>= f = f x
None >>= f = None

abbrev pub Fails : {Y : Type 0} → CodecFault → Option Y → Type 0
Fails Memory read = Unit {0}
Fails BadBytes read = read ≡ None

abbrev pub Gives : {X Y : Type 0} → (X → Y) → Result X CodecFault → Option Y → Type 0
Gives view (Ok x) read = read ≡ Some (view x)
Gives view (Err e) read = Fails e read

-- ---- numbers and texts

abbrev pub number_at : Width → List ℕ → Read ℕ
number_at w bytes = if nat_lt (length bytes) (byte_len w) then None else Some
    (from_be_bytes w (take (byte_len w) bytes), drop (byte_len w) bytes)

unfoldable pub string_at : List ℕ → Read (List ℕ)
string_at bytes = do
  n ← number_at w32 bytes
  if nat_lt (length n.1) n.0 then None else Some (take n.0 n.1, drop n.0 n.1)

unfoldable pub key_at : List ℕ → Read Key
key_at bytes = do
  k ← string_at bytes
  if is_utf8 k.0 then Some k else None

unfoldable pub text_at : List ℕ → Read (List ℕ)
text_at bytes = do
  k ← key_at bytes
  Some (chars k.0, k.1)

unfoldable pub optional_at : List ℕ → Read (Option (List ℕ))
optional_at [] = None
optional_at (zero ∷ rest) = Some (None, rest)
optional_at (suc zero ∷ rest) = do
  t ← text_at rest
  Some (Some t.0, t.1)
optional_at (suc (suc b) ∷ rest) = None

-- ---- lists

-- n times more what f reads, after what was read so far
unfoldable pub list_of : {X : Type 0} → (List ℕ → Read X) → List X → ℕ → List ℕ → Read (List X)
list_of f done zero bytes = Some (done, bytes)
list_of f done (suc n) bytes = do
  x ← f bytes
  list_of f (done ++ x.0 ∷ []) n x.1

unfoldable pub list_at : {X : Type 0} → (List ℕ → Read X) → List ℕ → Read (List X)
list_at f bytes = do
  n ← number_at w32 bytes
  list_of f [] n.0 n.1

unfoldable pub attribute_at : List ℕ → Read (Key × Key)
attribute_at bytes = do
  key ← key_at bytes
  value ← key_at key.1
  Some ((key.0, value.0), value.1)

-- n attributes more than those read so far, the last of which has this key
unfoldable pub attributes_of : Map Key → Option Key → ℕ → List ℕ → Read (Map Key)
attributes_of m last zero bytes = Some (m, bytes)
attributes_of m last (suc n) bytes = do
  e ← attribute_at bytes
  if is_next last e.0.0 then attributes_of (insert m e.0.0 e.0.1) (Some e.0.0) n e.1 else None

unfoldable pub attributes_at : List ℕ → Read (Map Key)
attributes_at bytes = do
  n ← number_at w32 bytes
  attributes_of empty None n.0 n.1

-- ---- components

unfoldable pub change_at : List ℕ → Read Change
change_at bytes = do
  key ← text_at bytes
  old ← optional_at key.1
  new ← optional_at old.1
  Some (record { key = key.0; old = old.0; new = new.0 }, new.1)

unfoldable pub boundary_at : List ℕ → Read Boundary
boundary_at bytes = do
  end ← list_at text_at bytes
  change ← list_at change_at end.1
  Some (record { end = end.0; change = change.0 }, change.1)

-- a type and attributes, and old and new attributes
unfoldable pub element_at : List ℕ → Read (List ℕ × Map Key)
element_at bytes = do
  kind ← text_at bytes
  m ← attributes_at kind.1
  Some ((kind.0, m.0), m.1)

unfoldable pub replaced_at : List ℕ → Read (Map Key × Map Key)
replaced_at bytes = do
  old ← attributes_at bytes
  new ← attributes_at old.1
  Some ((old.0, new.0), new.1)

abbrev pub made : {X : Type 0} → (X → Component) → Read X → Read Component
made f None = None
made f (Some x) = Some (f x.0, x.1)

-- the component with this tag
unfoldable pub tagged_at : ℕ → List ℕ → Read Component
tagged_at tag bytes = if tag == 1 then made Retain (number_at w64 bytes)
    else (if tag == 2 then made Characters (text_at bytes)
    else (if tag == 3 then made (λ e. ElementStart e.0 e.1) (element_at bytes)
    else (if tag == 4 then Some (ElementEnd, bytes)
    else (if tag == 5 then made DeleteCharacters (text_at bytes)
    else (if tag == 6 then made (λ e. DeleteElementStart e.0 e.1) (element_at bytes)
    else (if tag == 7 then Some (DeleteElementEnd, bytes)
    else (if tag == 8 then made (λ r. ReplaceAttributes r.0 r.1) (replaced_at bytes)
    else (if tag == 9 then made UpdateAttributes (list_at change_at bytes)
    else (if tag == 10 then made AnnotationBoundary (boundary_at bytes)
    else None)))))))))

unfoldable pub component_at : List ℕ → Read Component
component_at [] = None
component_at (tag ∷ bytes) = tagged_at tag bytes

-- n components more than those read so far
unfoldable pub components_of : List Component → ℕ → List ℕ → Read (List Component)
components_of done zero bytes = Some (done, bytes)
components_of done (suc n) bytes = do
  c ← component_at bytes
  if takes done c.0 then components_of (done ++ c.0 ∷ []) n c.1 else None

unfoldable pub operation_at : List ℕ → Read (List Component)
operation_at bytes = do
  n ← number_at w32 bytes
  components_of [] n.0 n.1
