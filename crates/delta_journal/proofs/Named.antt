-- A file has one name or none, or its header is broken.
use Rattle.std.proofs.Common.{◌≡◌, ℕ, ◌+◌, ◌^◌, ◌<◌, ◌≤◌, ◌-◌, min, inl, inr, List, ◌∷◌, ◌++◌, length, take, drop, get_or, refl, sym, ◌∙◌, ap, subst, arith, length-append, length-drop, take-append-drop}
use Rattle.std.specs.Prelude.{Option, Some, None, codes}
use Rattle.std.proofs.lemmas.List.{take_at, take_all, drop_more, length-take-le}
use Rattle.std.proofs.lemmas.Bool.{cases_eq}
use Rattle.std.proofs.lemmas.Nat.{from_be_bytes-to_be_bytes_4}
use Rattle.std.specs.Int.{w32, to_be_bytes, from_be_bytes}
use Rattle.delta_journal.specs.File.{HasNoHeader, HasName, HasBrokenHeader, IsWhole, NamedOnce, header}
use Rattle.delta_journal.specs.Name.{TellsName, named_front}
use Rattle.delta_journal.specs.declared.name.Header.TheVariants.{Named}

header_once : (name other p q : List ℕ) → length name < 2 ^ 32 → length other < 2 ^ 32 → header name ++ p ≡ header other ++ q → name ≡ other
header_once name other p q short short_too e =
    let count : to_be_bytes w32 (length name) ≡ to_be_bytes w32 (length other) = ap (λ (l : List ℕ). take 4 (drop 8 l)) e in
    let same : length name ≡ length other = sym (from_be_bytes-to_be_bytes_4 (length name) short) ∙ ap (from_be_bytes w32) count ∙ from_be_bytes-to_be_bytes_4 (length other) short_too in
    let back : name ++ p ≡ other ++ q = ap (λ (l : List ℕ). drop 12 l) e in
    sym (take_at name p (length name) refl) ∙ ap (λ (l : List ℕ). take (length name) l) back ∙ take_at other q (length name) (sym same)

none_open : (file rest : List ℕ) → HasNoHeader file → file ≡ 1 ∷ rest → 2 ≤ length file → ⊥
none_open file rest (inl few) is two = omega arith
none_open file rest (inr shut) is two =
    let e : shut.gate ∷ shut.tail ≡ 1 ∷ rest = sym shut.split ∙ is in
    let g : shut.gate ≡ 1 = cc e in shut.shut g

named_long : (file rest name : List ℕ) → file ≡ 1 ∷ rest → IsWhole (header name) rest → 2 ≤ length file
named_long file rest name is whole = omega (arith, ap length is, ap length whole.2, length-append (header name) (whole.0 ∷ whole.1))

one_name : (file : List ℕ) (one other : Option (List ℕ)) → HasName one file → HasName other file → one ≡ other
one_name file None None none none_too = refl
one_name file None (Some name) none (rest, is, short, whole) = absurd (none_open file rest none is (named_long file rest name is whole))
one_name file (Some name) None (rest, is, short, whole) none = absurd (none_open file rest none is (named_long file rest name is whole))
one_name file (Some name) (Some other) (rest, is, short, whole) (rest_too, is_too, short_too, whole_too) =
    let same : rest ≡ rest_too = ap (λ (l : List ℕ). drop 1 l) (sym is ∙ is_too) in
    ap (λ (l : List ℕ). Some l) (header_once name other (whole.0 ∷ whole.1) (whole_too.0 ∷ whole_too.1) short short_too (sym whole.2 ∙ same ∙ whole_too.2))

not_broken : (file : List ℕ) (name : Option (List ℕ)) → HasName name file → HasBrokenHeader file → ⊥
not_broken file None none (rest, is, two, broken) = none_open file rest none is two
not_broken file (Some name) (rest, is, short, whole) (rest_too, is_too, two, broken) =
    let same : rest ≡ rest_too = ap (λ (l : List ℕ). drop 1 l) (sym is ∙ is_too) in
    broken name short (subst (λ (l : List ℕ). IsWhole (header name) l) same whole)

pub named_once : NamedOnce
named_once = record { one = one_name; not_broken = not_broken }

-- the first bytes as they are read
pub front_is : (count size : ℕ) (file read bytes front : List ℕ) → count ≡ min size 13 → size ≡ length file → read ≡ file → bytes ≡ take count (drop 0 read) → front ≡ bytes → front ≡ take 13 file
front_is count size file read bytes front least whole same read_is is = is ∙ read_is ∙ ap (λ (l : List ℕ). take count l) same ∙ ap (λ (n : ℕ). take n file) least ∙ elim (cases_eq (min size 13) 13) [
  | inl all ↦ ap (λ (n : ℕ). take n file) all
  | inr few ↦ let short : length file ≤ 13 = omega (arith, few, whole) in let least_is : length file ≤ min size 13 = omega (arith, few, whole) in take_all (min size 13) file least_is ∙ sym (take_all 13 file short)
]

-- the name as it is read
pub name_is : (count : ℕ) (file name : List ℕ) → count < 2 ^ 32 → TellsName (Named count) file → name ≡ take count (drop 13 file) → HasName (Some name) file
name_is count file name short (room, front) is =
    let behind = drop 13 file in
    let long : length behind ≡ length file - 13 = length-drop 13 file in
    let size : length name ≡ count = ap length is ∙ length-take-le count behind (omega (arith, long, room)) in
    let more : drop count behind ≡ get_or behind count 0 ∷ drop (count + 1) behind = drop_more behind count 0 (omega (arith, long, room)) in
    let split : behind ≡ name ++ get_or behind count 0 ∷ drop (count + 1) behind =
    sym (take-append-drop count behind) ∙ ap (λ (l : List ℕ). l ++ drop count behind) (sym is) ∙ ap (λ (l : List ℕ). name ++ l) more in
    let whole : file ≡ named_front count ++ behind = sym (take-append-drop 13 file) ∙ ap (λ (l : List ℕ). l ++ behind) front in
    let rest = (codes "WAVEJNL1" ++ to_be_bytes w32 count) ++ behind in
    let is_header : rest ≡ header name ++ get_or behind count 0 ∷ drop (count + 1) behind =
    ap (λ (n : ℕ). (codes "WAVEJNL1" ++ to_be_bytes w32 n) ++ behind) (sym size) ∙ ap (λ (l : List ℕ). (codes "WAVEJNL1" ++ to_be_bytes w32 (length name)) ++ l) split in
    (rest, whole, omega (arith, size, short), (get_or behind count 0, drop (count + 1) behind, is_header))
