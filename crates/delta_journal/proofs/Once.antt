-- A file means one thing.
use Rattle.std.proofs.Common.{◌≡◌, ◌≢◌, inl, inr, ℕ, ◌+◌, ◌^◌, ◌<◌, List, [], ◌∷◌, ◌++◌, length, take, drop, refl, sym, ◌∙◌, ap, subst, arith, append_assoc, length-append}
use Rattle.std.proofs.lemmas.List.{take_at, drop_at}
use Rattle.std.proofs.lemmas.Nat.{from_be_bytes-to_be_bytes_8}
use Rattle.std.specs.Int.{w64, to_be_bytes, from_be_bytes}
use Rattle.delta_journal.specs.File.{Closed, StandsFor, HasNoHeader, IsWhole, HasNoRecord, HasOtherHeader, HasTornRecord, IsTornFrom, IsDamaged, MeansOnce, header, framed, blocks, opened}
use Rattle.std.specs.Prelude.{Ok, Err}

framed_once : (x y p q : List ℕ) → length x < 2 ^ 64 → length y < 2 ^ 64 → framed x ++ p ≡ framed y ++ q → (x ≡ y) × (p ≡ q)
framed_once x y p q lx ly e =
    let front : to_be_bytes w64 (length x) ≡ to_be_bytes w64 (length y) = ap (λ (l : List ℕ). take 8 l) e in
    let same : length x ≡ length y = sym (from_be_bytes-to_be_bytes_8 (length x) lx) ∙ ap (from_be_bytes w64) front ∙ from_be_bytes-to_be_bytes_8 (length y) ly in
    let back : x ++ p ≡ y ++ q = ap (λ (l : List ℕ). drop 8 l) e in (
      sym (take_at x p (length x) refl) ∙ ap (λ (l : List ℕ). take (length x) l) back ∙ take_at y q (length x) (sym same),
      sym (drop_at x p (length x) refl) ∙ ap (λ (l : List ℕ). drop (length x) l) back ∙ drop_at y q (length x) (sym same),
    )

opens : (x : List ℕ) (r : List (List ℕ)) (rest : List ℕ) (c : Closed (blocks (x ∷ r)) rest) → rest ≡ 1 ∷ (framed x ++ (blocks r ++ c.gate ∷ c.tail))
opens x r rest c = c.split ∙ ap (λ (l : List ℕ). 1 ∷ l) (append_assoc (framed x) (blocks r) (c.gate ∷ c.tail))

size_of : (x behind rest : List ℕ) → rest ≡ 1 ∷ (framed x ++ behind) → length rest ≡ 9 + (length x + length behind)
size_of x behind rest e =
    let all : length rest ≡ 9 + length (x ++ behind) = ap length e ∙ omega arith in
    omega (arith, length-append x behind)

closed_once : (r s : List (List ℕ)) (rest : List ℕ) → length rest < 2 ^ 64 → Closed (blocks r) rest → Closed (blocks s) rest → r ≡ s
closed_once [] [] rest short a b = refl
closed_once [] (y ∷ s) rest short a b =
    let e : a.gate ∷ a.tail ≡ 1 ∷ (framed y ++ (blocks s ++ b.gate ∷ b.tail)) = sym a.split ∙ opens y s rest b in
    let g : a.gate ≡ 1 = cc e in absurd (a.shut g)
closed_once (x ∷ r) [] rest short a b =
    let e : b.gate ∷ b.tail ≡ 1 ∷ (framed x ++ (blocks r ++ a.gate ∷ a.tail)) = sym b.split ∙ opens x r rest a in
    let g : b.gate ≡ 1 = cc e in absurd (b.shut g)
closed_once (x ∷ r) (y ∷ s) rest short a b =
    let p = blocks r ++ a.gate ∷ a.tail in
    let q = blocks s ++ b.gate ∷ b.tail in
    let first = opens x r rest a in
    let second = opens y s rest b in
    let e : framed x ++ p ≡ framed y ++ q = ap (λ (l : List ℕ). drop 1 l) (sym first ∙ second) in
    let sx = size_of x p rest first in
    let sy = size_of y q rest second in
    let parts = framed_once x y p q (omega (arith, sx)) (omega (arith, sy)) e in
    let more = closed_once r s p (omega (arith, sx)) (record { gate = a.gate; tail = a.tail; split = refl; shut = a.shut }) (record { gate = b.gate; tail = b.tail; split = parts.1; shut = b.shut }) in
    ap (λ (l : List (List ℕ)). x ∷ l) more ∙ ap (λ (h : List ℕ). h ∷ s) parts.0

after_header : (name : List ℕ) (r : List (List ℕ)) (c : List ℕ) (a : Closed (opened name r) c) → c ≡ 1 ∷ (header name ++ (blocks r ++ a.gate ∷ a.tail))
after_header name r c a = a.split ∙ ap (λ (l : List ℕ). 1 ∷ l) (append_assoc (header name) (blocks r) (a.gate ∷ a.tail))

no_header : (name : List ℕ) (r : List (List ℕ)) (c : List ℕ) → HasNoHeader c → Closed (opened name r) c → ⊥
no_header name r c (inl short) a =
    let e : length c ≡ length (1 ∷ (header name ++ (blocks r ++ a.gate ∷ a.tail))) = ap length (after_header name r c a) in
    omega arith
no_header name r c (inr shut) a =
    let e : shut.gate ∷ shut.tail ≡ 1 ∷ (header name ++ (blocks r ++ a.gate ∷ a.tail)) = sym shut.split ∙ after_header name r c a in
    let g : shut.gate ≡ 1 = cc e in shut.shut g

stands_once : (name : List ℕ) (r s : List (List ℕ)) (c : List ℕ) → length c < 2 ^ 64 → StandsFor name r c → StandsFor name s c → r ≡ s
stands_once name r s c short (inl a) (inl b) = a.0 ∙ sym b.0
stands_once name r s c short (inl a) (inr b) = absurd (no_header name s c a.1 b)
stands_once name r s c short (inr a) (inl b) = absurd (no_header name r c b.1 a)
stands_once name r s c short (inr a) (inr b) =
    let n = length (1 ∷ header name) in
    let p = blocks r ++ a.gate ∷ a.tail in
    let q = blocks s ++ b.gate ∷ b.tail in
    let first = after_header name r c a in
    let e : p ≡ q = sym (drop_at (1 ∷ header name) p n refl) ∙ ap (λ (l : List ℕ). drop n l) (sym first ∙ after_header name s c b) ∙ drop_at (1 ∷ header name) q n refl in
    let size : length c ≡ n + length p = ap length first ∙ length-append (1 ∷ header name) p in
    closed_once r s p (omega (arith, size)) (record { gate = a.gate; tail = a.tail; split = refl; shut = a.shut }) (record { gate = b.gate; tail = b.tail; split = e; shut = b.shut })

starts : (r : List (List ℕ)) (gate : ℕ) (tail : List ℕ) → (h : ℕ) × (more : List ℕ) × (blocks r ++ gate ∷ tail ≡ h ∷ more)
starts [] gate tail = (gate, tail, refl)
starts (x ∷ r) gate tail = (1, (framed x ++ blocks r) ++ gate ∷ tail, refl)

walk : (r s : List (List ℕ)) (gate : ℕ) (tail rest : List ℕ) → gate ≢ 1 → length (blocks r ++ gate ∷ tail) < 2 ^ 64 → blocks r ++ gate ∷ tail ≡ blocks s ++ 1 ∷ rest
    → HasNoRecord rest → ⊥
walk [] [] gate tail rest shut short e torn = let g : gate ≡ 1 = cc e in shut g
walk [] (y ∷ s) gate tail rest shut short e torn =
    let f : gate ∷ tail ≡ 1 ∷ ((framed y ++ blocks s) ++ 1 ∷ rest) = e in
    let g : gate ≡ 1 = cc f in shut g
walk (x ∷ r) [] gate tail rest shut short e torn =
    let p = blocks r ++ gate ∷ tail in
    let first : blocks (x ∷ r) ++ gate ∷ tail ≡ 1 ∷ (framed x ++ p) = ap (λ (l : List ℕ). 1 ∷ l) (append_assoc (framed x) (blocks r) (gate ∷ tail)) in
    let sx = size_of x p (blocks (x ∷ r) ++ gate ∷ tail) first in
    let is : rest ≡ framed x ++ p = ap (λ (l : List ℕ). drop 1 l) (sym e ∙ first) in
    let next = starts r gate tail in
    torn x (omega (arith, sx, short)) (next.0, next.1, is ∙ ap (λ (l : List ℕ). framed x ++ l) next.2)
walk (x ∷ r) (y ∷ s) gate tail rest shut short e torn =
    let p = blocks r ++ gate ∷ tail in
    let q = blocks s ++ 1 ∷ rest in
    let first : blocks (x ∷ r) ++ gate ∷ tail ≡ 1 ∷ (framed x ++ p) = ap (λ (l : List ℕ). 1 ∷ l) (append_assoc (framed x) (blocks r) (gate ∷ tail)) in
    let second : blocks (x ∷ r) ++ gate ∷ tail ≡ 1 ∷ (framed y ++ q) = e ∙ ap (λ (l : List ℕ). 1 ∷ l) (append_assoc (framed y) (blocks s) (1 ∷ rest)) in
    let sx = size_of x p (blocks (x ∷ r) ++ gate ∷ tail) first in
    let sy = size_of y q (blocks (x ∷ r) ++ gate ∷ tail) second in
    let both : framed x ++ p ≡ framed y ++ q = ap (λ (l : List ℕ). drop 1 l) (sym first ∙ second) in
    let parts = framed_once x y p q (omega (arith, sx, short)) (omega (arith, sy, short)) both in
    walk r s gate tail rest shut (omega (arith, sx, short)) parts.1 torn

-- after an open gate stands this header and what follows it
whole_header : (name rest next : List ℕ) (more : (h : ℕ) × (tail : List ℕ) × (next ≡ h ∷ tail)) → rest ≡ header name ++ next → IsWhole (header name) rest
whole_header name rest next more is = (more.0, more.1, is ∙ ap (λ (l : List ℕ). header name ++ l) more.2)

not_damaged : (name : List ℕ) (r : List (List ℕ)) (c : List ℕ) (offset : ℕ) → length c < 2 ^ 64 → StandsFor name r c → IsDamaged name offset c → ⊥
not_damaged name r c offset short (inl (none, inl few)) (inl (at, (rest, is, two, torn))) = omega arith
not_damaged name r c offset short (inl (none, inr shut)) (inl (at, (rest, is, two, torn))) =
    let e : shut.gate ∷ shut.tail ≡ 1 ∷ rest = sym shut.split ∙ is in
    let g : shut.gate ≡ 1 = cc e in shut.shut g
not_damaged name r c offset short (inr a) (inl (at, (rest, is, two, torn))) =
    let e : rest ≡ header name ++ (blocks r ++ a.gate ∷ a.tail) = ap (λ (l : List ℕ). drop 1 l) (sym is ∙ after_header name r c a) in
    torn (whole_header name rest (blocks r ++ a.gate ∷ a.tail) (starts r a.gate a.tail) e)
not_damaged name r c offset short (inl (none, inl few)) (inr (rest, is, torn)) =
    let e : length c ≡ length ((1 ∷ header name) ++ rest) = ap length is in omega (arith, length-append (1 ∷ header name) rest)
not_damaged name r c offset short (inl (none, inr shut)) (inr (rest, is, torn)) =
    let e : shut.gate ∷ shut.tail ≡ 1 ∷ (header name ++ rest) = sym shut.split ∙ is in
    let g : shut.gate ≡ 1 = cc e in shut.shut g
not_damaged name r c offset short (inr a) (inr (rest, is, (s, tail, at, split, torn))) =
    let n = length (1 ∷ header name) in
    let p = blocks r ++ a.gate ∷ a.tail in
    let first = after_header name r c a in
    let e : p ≡ rest = sym (drop_at (1 ∷ header name) p n refl) ∙ ap (λ (l : List ℕ). drop n l) (sym first ∙ is) ∙ drop_at (1 ∷ header name) rest n refl in
    let size : length c ≡ n + length p = ap length first ∙ length-append (1 ∷ header name) p in
    walk r s a.gate a.tail tail a.shut (omega (arith, size, short)) (e ∙ split) torn

-- a record that isn't whole is the first such
torn_records : (r s : List (List ℕ)) (one other : List ℕ) → length (blocks r ++ 1 ∷ one) < 2 ^ 64 → blocks r ++ 1 ∷ one ≡ blocks s ++ 1 ∷ other → HasNoRecord one → HasNoRecord other → r ≡ s
torn_records [] [] one other short e torn torn_too = refl
torn_records [] (y ∷ s) one other short e torn torn_too =
    let q = blocks s ++ 1 ∷ other in
    let second : blocks (y ∷ s) ++ 1 ∷ other ≡ 1 ∷ (framed y ++ q) = ap (λ (l : List ℕ). 1 ∷ l) (append_assoc (framed y) (blocks s) (1 ∷ other)) in
    let is : one ≡ framed y ++ q = ap (λ (l : List ℕ). drop 1 l) (e ∙ second) in
    let next = starts s 1 other in
    let sy = size_of y q (1 ∷ one) (e ∙ second) in
    absurd (torn y (omega (arith, sy, short)) (next.0, next.1, is ∙ ap (λ (l : List ℕ). framed y ++ l) next.2))
torn_records (x ∷ r) [] one other short e torn torn_too =
    let p = blocks r ++ 1 ∷ one in
    let first : blocks (x ∷ r) ++ 1 ∷ one ≡ 1 ∷ (framed x ++ p) = ap (λ (l : List ℕ). 1 ∷ l) (append_assoc (framed x) (blocks r) (1 ∷ one)) in
    let is : other ≡ framed x ++ p = ap (λ (l : List ℕ). drop 1 l) (sym e ∙ first) in
    let next = starts r 1 one in
    let sx = size_of x p (blocks (x ∷ r) ++ 1 ∷ one) first in
    absurd (torn_too x (omega (arith, sx, short)) (next.0, next.1, is ∙ ap (λ (l : List ℕ). framed x ++ l) next.2))
torn_records (x ∷ r) (y ∷ s) one other short e torn torn_too =
    let p = blocks r ++ 1 ∷ one in
    let q = blocks s ++ 1 ∷ other in
    let first : blocks (x ∷ r) ++ 1 ∷ one ≡ 1 ∷ (framed x ++ p) = ap (λ (l : List ℕ). 1 ∷ l) (append_assoc (framed x) (blocks r) (1 ∷ one)) in
    let second : blocks (x ∷ r) ++ 1 ∷ one ≡ 1 ∷ (framed y ++ q) = e ∙ ap (λ (l : List ℕ). 1 ∷ l) (append_assoc (framed y) (blocks s) (1 ∷ other)) in
    let sx = size_of x p (blocks (x ∷ r) ++ 1 ∷ one) first in
    let sy = size_of y q (blocks (x ∷ r) ++ 1 ∷ one) second in
    let both : framed x ++ p ≡ framed y ++ q = ap (λ (l : List ℕ). drop 1 l) (sym first ∙ second) in
    let parts = framed_once x y p q (omega (arith, sx, short)) (omega (arith, sy, short)) both in
    ap (λ (l : List (List ℕ)). x ∷ l) (torn_records r s one other (omega (arith, sx, short)) parts.1 torn torn_too) ∙ ap (λ (h : List ℕ). h ∷ s) parts.0

torn_once : (place one other : ℕ) (file : List ℕ) → length file < 2 ^ 64 → IsTornFrom place one file → IsTornFrom place other file → one ≡ other
torn_once place one other file short (r, tail, at, is, torn) (s, tail_too, at_too, is_too, torn_too) =
    let same = torn_records r s tail tail_too (omega (arith, ap length is, short)) (sym is ∙ is_too) torn torn_too in
    at ∙ ap (λ (l : List (List ℕ)). place + length (blocks l)) same ∙ sym at_too

-- a header that is whole isn't another's
header_or_torn : (name : List ℕ) (offset : ℕ) (c : List ℕ) → HasOtherHeader name c → HasTornRecord name offset c → ⊥
header_or_torn name offset c (rest, is, two, torn) (next, is_too, (s, tail, at, split, no_record)) =
    let e : rest ≡ header name ++ next = ap (λ (l : List ℕ). drop 1 l) (sym is ∙ is_too) in
    let more = starts s 1 tail in
    torn (whole_header name rest next (more.0, more.1, split ∙ more.2) e)

damaged_once : (name : List ℕ) (one other : ℕ) (c : List ℕ) → length c < 2 ^ 64 → IsDamaged name one c → IsDamaged name other c → one ≡ other
damaged_once name one other c short (inl (zero, header)) (inl (zero_too, header_too)) = zero ∙ sym zero_too
damaged_once name one other c short (inl (zero, header)) (inr torn) = absurd (header_or_torn name other c header torn)
damaged_once name one other c short (inr torn) (inl (zero, header)) = absurd (header_or_torn name one c header torn)
damaged_once name one other c short (inr (rest, is, torn)) (inr (rest_too, is_too, torn_too)) =
    let n = length (1 ∷ header name) in
    let same : rest ≡ rest_too = sym (drop_at (1 ∷ header name) rest n refl) ∙ ap (λ (l : List ℕ). drop n l) (sym is ∙ is_too) ∙ drop_at (1 ∷ header name) rest_too n refl in
    let size : length c ≡ n + length rest = ap length is ∙ length-append (1 ∷ header name) rest in
    torn_once n one other rest (omega (arith, size, short)) torn (subst (λ (l : List ℕ). IsTornFrom n other l) (sym same) torn_too)

pub means_once : MeansOnce
means_once name file (Ok r) (Ok s) short one other = ap (λ (l : List (List ℕ)). Ok l) (stands_once name r s file short one other)
means_once name file (Ok r) (Err offset) short one other = absurd (not_damaged name r file offset short one other)
means_once name file (Err offset) (Ok r) short one other = absurd (not_damaged name r file offset short other one)
means_once name file (Err first) (Err second) short one other = ap (λ (n : ℕ). Err n) (damaged_once name first second file short one other)
