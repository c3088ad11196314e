-- The bytes of an operation as it stands. Numbers have their highest byte first. What follows a tag is the component's.
--     string bs, text t       the length as four bytes, and the bytes; a text's are its UTF-8
--     optional o              the byte 0; or the byte 1 and the text
--     listed f xs             the length as four bytes, and what f makes of each
--     attributes m            keys and values, in byte order of the keys
--     change c, boundary b    a key with its old and its new value; the keys that end and the changes
--     component c             its tag, and what it holds
--     spelling cs             all components
--     limit, capped n         how many bytes a spelling may not have; a number of bytes, or the limit where there are more
--     IsShort k               bytes that four bytes can count
--     IsText t, IsKey k       characters, and bytes of characters, that are short
--     IsSpelled cs            every text is characters, and every length can be counted by four bytes
use Rattle.std.specs.Prelude.{◌≡◌, ℕ, ◌<◌, ◌^◌, min, true, List, [], ◌∷◌, ◌++◌, length, Option, Some, None, IfSome}
use Rattle.std.specs.List.{flat_map, AllByRecursion}
use Rattle.std.specs.Int.{w32, w64, to_be_bytes}
use Rattle.std.specs.Str.{encode_utf8_all, all_scalars, IsUtf8}
use Rattle.std.specs.FinMap.{entries}
use Rattle.doc_items.specs.Maps.{Key, Map}
use Rattle.doc_items.specs.declared.change.Change.{Change}
use Rattle.doc_items.specs.declared.change.Boundary.{Boundary}
use Rattle.doc_op.specs.declared.component.Component.{Component}
use Rattle.doc_op.specs.declared.component.Component.TheVariants.{Retain, Characters, ElementStart, ElementEnd, DeleteCharacters, DeleteElementStart, DeleteElementEnd, ReplaceAttributes, UpdateAttributes, AnnotationBoundary}

-- ---- what components hold

abbrev pub string : List ℕ → List ℕ
string bytes = to_be_bytes w32 (length bytes) ++ bytes

abbrev pub text : List ℕ → List ℕ
text t = string (encode_utf8_all t)

abbrev pub optional : Option (List ℕ) → List ℕ
optional None = 0 ∷ []
optional (Some t) = 1 ∷ text t

abbrev pub listed : {X : Type 0} → (X → List ℕ) → List X → List ℕ
listed f xs = to_be_bytes w32 (length xs) ++ flat_map f xs

abbrev pub attribute : Key × Key → List ℕ
attribute e = string e.0 ++ string e.1

abbrev pub attributes : Map Key → List ℕ
attributes m = listed attribute (entries m)

abbrev pub change : Change → List ℕ
change c = text c.key ++ (optional c.old ++ optional c.new)

abbrev pub boundary : Boundary → List ℕ
boundary b = listed text b.end ++ listed change b.change

-- ---- components

abbrev pub component : Component → List ℕ
component (Retain n) = 1 ∷ to_be_bytes w64 n
component (Characters t) = 2 ∷ text t
component (ElementStart kind m) = 3 ∷ (text kind ++ attributes m)
component ElementEnd = 4 ∷ []
component (DeleteCharacters t) = 5 ∷ text t
component (DeleteElementStart kind m) = 6 ∷ (text kind ++ attributes m)
component DeleteElementEnd = 7 ∷ []
component (ReplaceAttributes old new) = 8 ∷ (attributes old ++ attributes new)
component (UpdateAttributes cs) = 9 ∷ listed change cs
component (AnnotationBoundary b) = 10 ∷ boundary b

abbrev pub spelling : List Component → List ℕ
spelling cs = listed component cs

-- ---- what has a spelling

abbrev pub IsShort : List ℕ → Type 0
IsShort bytes = length bytes < 2 ^ 32

abbrev pub IsText : List ℕ → Type 0
IsText t = (all_scalars t ≡ true) × IsShort (encode_utf8_all t)

abbrev pub IsKey : Key → Type 0
IsKey k = IsUtf8 k × IsShort k

abbrev pub AreAll : {X : Type 0} → (X → Type 0) → List X → Type 0
AreAll P xs = (length xs < 2 ^ 32) × AllByRecursion P xs

abbrev pub IsAttribute : Key × Key → Type 0
IsAttribute e = IsKey e.0 × IsKey e.1

abbrev pub AreAttributes : Map Key → Type 0
AreAttributes m = AreAll IsAttribute (entries m)

abbrev pub IsChange : Change → Type 0
IsChange c = IsText c.key × IfSome c.old IsText × IfSome c.new IsText

abbrev pub IsBoundary : Boundary → Type 0
IsBoundary b = AreAll IsText b.end × AreAll IsChange b.change

abbrev pub IsComponent : Component → Type 0
IsComponent (Retain n) = n < 2 ^ 64
IsComponent (Characters t) = IsText t
IsComponent (ElementStart kind m) = IsText kind × AreAttributes m
IsComponent ElementEnd = Unit {0}
IsComponent (DeleteCharacters t) = IsText t
IsComponent (DeleteElementStart kind m) = IsText kind × AreAttributes m
IsComponent DeleteElementEnd = Unit {0}
IsComponent (ReplaceAttributes old new) = AreAttributes old × AreAttributes new
IsComponent (UpdateAttributes cs) = AreAll IsChange cs
IsComponent (AnnotationBoundary b) = IsBoundary b

abbrev pub IsSpelled : List Component → Type 0
IsSpelled cs = AreAll IsComponent cs

-- ---- how long spellings are

abbrev pub limit : ℕ
limit = 2 ^ 32

-- a number of bytes, or the limit where there are as many or more
abbrev pub capped : ℕ → ℕ
capped n = min n limit
