-- Bytes cut at line feeds, and what a machine is given of them.
use Rattle.std.proofs.Common.{◌≡◌, ℕ, ◌<◌, ◌≤◌, ◌+◌, ◌-◌, ◌||◌, List, [], ◌∷◌, ◌++◌, length, take, drop, min, Bool, true, false, cond, nat_lt, Some, None, get_or, add-one, refl, sym, ap, ◌∙◌, arith, append_assoc, append-nil, length-append, inl, inr}
use Rattle.std.proofs.lemmas.List.{take_all, take-append-drop, take-append-le, length-take, get_or-take, drop-drop}
use Rattle.std.proofs.lemmas.Bool.{cases_lt, eqb-true, ltb-false, or_parts}
use Rattle.std.specs.List.{position, position_or_len, onto_first}
use Rattle.std.proofs.lemmas.List.Folds.{list_any-append, list_any_none}
use Rattle.std.proofs.lemmas.List.Elements.{All-from_get_or}
use Rattle.std.proofs.lemmas.List.Sums.{fails_before_first}
use Rattle.std.proofs.lemmas.List.Quantifiers.{position-Some}
use Rattle.std.proofs.Math.Seq.{drop-cons, take-add, take-append-add}
use Rattle.line_loop.specs.Lines.{is_line_feed, has_line_feed, lines, but_last, some_lines, max_line, kept, given, turned, IsCutInto, Begins}

pub has_line_feed-append : (xs ys : List ℕ) → has_line_feed xs ≡ false → has_line_feed ys ≡ false → has_line_feed (xs ++ ys) ≡ false
has_line_feed-append xs ys h k = list_any-append is_line_feed xs ys ∙ rw (h, k) refl

pub has_line_feed-take : (n : ℕ) (xs : List ℕ) → has_line_feed xs ≡ false → has_line_feed (take n xs) ≡ false
has_line_feed-take n xs h =
    let parts : (has_line_feed (take n xs) || has_line_feed (drop n xs)) ≡ false =
    sym (list_any-append is_line_feed (take n xs) (drop n xs)) ∙ ap has_line_feed (take-append-drop n xs) ∙ h in
    (or_parts (has_line_feed (take n xs)) (has_line_feed (drop n xs)) parts).0

pub has_line_feed-drop : (n : ℕ) (xs : List ℕ) → has_line_feed xs ≡ false → has_line_feed (drop n xs) ≡ false
has_line_feed-drop n xs h =
    let parts : (has_line_feed (take n xs) || has_line_feed (drop n xs)) ≡ false =
    sym (list_any-append is_line_feed (take n xs) (drop n xs)) ∙ ap has_line_feed (take-append-drop n xs) ∙ h in
    (or_parts (has_line_feed (take n xs)) (has_line_feed (drop n xs)) parts).1

-- the first line ends where the first line feed stands
pub first_line : (bytes : List ℕ) (n : ℕ) → position is_line_feed bytes ≡ Some n
    → (has_line_feed (take n bytes) ≡ false) × (bytes ≡ take n bytes ++ 10 ∷ drop (n + 1) bytes)
first_line bytes n e =
    let at = position-Some is_line_feed bytes n 0 e in
    let feed : get_or bytes n 0 ≡ 10 = eqb-true (get_or bytes n 0) 10 at.1 in (
      list_any_none is_line_feed (take n bytes) (All-from_get_or (λ b. is_line_feed b ≡ false) (take n bytes) 0
          (λ i h. let low : i < n = omega (arith, h, length-take n bytes) in ap is_line_feed (get_or-take n bytes i 0 low) ∙ at.2 i low)),
      sym (take-append-drop n bytes) ∙ ap (λ t. take n bytes ++ t) (drop-cons bytes n 0 at.0 ∙ rw (feed, add-one) refl),
    )

-- the front that ends with it
pub next_front : (bytes : List ℕ) (from n : ℕ) → position is_line_feed (drop from bytes) ≡ Some n
    → take from bytes ++ (take n (drop from bytes) ++ 10 ∷ []) ≡ take (from + (n + 1)) bytes
next_front bytes from n e =
    let d = drop from bytes in
    let low : n < length d = (position-Some is_line_feed d n 0 e).0 in
    let len : length (take n d) + 1 ≡ n + 1 = omega (arith, low, length-take n d) in
    let front : take (n + 1) d ≡ take n d ++ 10 ∷ [] =
    ap (take (n + 1)) (first_line d n e).1 ∙ ap (λ k. take k (take n d ++ 10 ∷ drop (n + 1) d)) (sym len) ∙ take-append-add (take n d) (10 ∷ drop (n + 1) d) 1 in
    ap (λ t. take from bytes ++ t) (sym front) ∙ sym (take-add from (n + 1) bytes)

no_place : (t : Bool) (m : ℕ) → cond t (Some m) None ≡ None → t ≡ false
no_place true m e = absurd (cc)
no_place false m e = refl

pub no_line_ends : (bytes : List ℕ) → position is_line_feed bytes ≡ None → has_line_feed bytes ≡ false
no_line_ends bytes e =
    let place = position_or_len is_line_feed bytes in
    let high : length bytes ≤ place = ltb-false place (length bytes) (no_place (nat_lt place (length bytes)) place e) in
    list_any_none is_line_feed bytes (All-from_get_or (λ b. is_line_feed b ≡ false) bytes 0 (λ i h. fails_before_first is_line_feed bytes i 0 (omega (arith, h, high))))

-- the same within some bytes, from a place on
pub next_line : (bytes rest : List ℕ) (from n : ℕ) → position is_line_feed (drop from bytes) ≡ Some n
    → drop from bytes ++ rest ≡ take n (drop from bytes) ++ 10 ∷ (drop (from + (n + 1)) bytes ++ rest)
next_line bytes rest from n e =
    ap (λ t. t ++ rest) ((first_line (drop from bytes) n e).1 ∙ ap (λ t. take n (drop from bytes) ++ 10 ∷ t) (drop-drop (n + 1) from bytes))
    ∙ append_assoc (take n (drop from bytes)) (10 ∷ drop (from + (n + 1)) bytes) rest

-- there is a first line
lines_some : (bytes : List ℕ) → (l : List ℕ) × (ls : List (List ℕ)) × (lines bytes ≡ l ∷ ls)
lines_some [] = ([], [], refl)
lines_some (b ∷ bytes) =
    let r = lines_some bytes in
    let both : (t : Bool) → t ≡ is_line_feed b → (l : List ℕ) × (ls : List (List ℕ)) × (lines (b ∷ bytes) ≡ l ∷ ls) =
    λ t. elim t as (λ v. v ≡ is_line_feed b → (l : List ℕ) × (ls : List (List ℕ)) × (lines (b ∷ bytes) ≡ l ∷ ls))
    [ true ↦ λ e. ([], lines bytes, rw (← e) refl) | false ↦ λ e. (b ∷ r.0, r.1, rw (← e) (ap (onto_first b) r.2)) ] in
    both (is_line_feed b) refl

-- bytes with no line feed stand before the first line
pub lines-open : (p rest l : List ℕ) (ls : List (List ℕ)) → has_line_feed p ≡ false → lines rest ≡ l ∷ ls → lines (p ++ rest) ≡ (p ++ l) ∷ ls
lines-open [] rest l ls h e = e
lines-open (b ∷ p) rest l ls h e =
    let q = or_parts (is_line_feed b) (has_line_feed p) h in
    rw (q.0) (ap (onto_first b) (lines-open p rest l ls q.1 e))

pub lines-ended : (p rest : List ℕ) → has_line_feed p ≡ false → lines (p ++ 10 ∷ rest) ≡ p ∷ lines rest
lines-ended p rest h = lines-open p (10 ∷ rest) [] (lines rest) h refl ∙ ap (λ l. l ∷ lines rest) (append-nil p)

pub lines-last : (p : List ℕ) → has_line_feed p ≡ false → lines p ≡ p ∷ []
lines-last p h = ap lines (sym (append-nil p)) ∙ lines-open p [] [] [] h refl ∙ ap (λ l. l ∷ []) (append-nil p)

-- what is given of the first line is given first
given-cons : (x : List ℕ) (ls : List (List ℕ)) → given (x ∷ ls) ≡ given (x ∷ []) ++ given ls
given-cons [] ls = refl
given-cons (b ∷ x) ls = refl

given-same : (x y : List ℕ) (ls : List (List ℕ)) → given (x ∷ []) ≡ given (y ∷ []) → given (x ∷ ls) ≡ given (y ∷ ls)
given-same x y ls same = given-cons x ls ∙ ap (λ t. t ++ given ls) same ∙ sym (given-cons y ls)

but_last-same : (x y : List ℕ) (ls : List (List ℕ)) → given (x ∷ []) ≡ given (y ∷ []) → given (but_last (x ∷ ls)) ≡ given (but_last (y ∷ ls))
but_last-same x y [] same = refl
but_last-same x y (l ∷ ls) same = given-same x y (but_last (l ∷ ls)) same

given-some : (x : List ℕ) → 0 < length x → given (x ∷ []) ≡ kept x ∷ []
given-some [] h = absurd (omega arith)
given-some (b ∷ x) h = refl

-- of a line that is too long, its front shows all that is given
given-long : (p x : List ℕ) → max_line < length p → given ((p ++ x) ∷ []) ≡ kept p ∷ []
given-long p x long = given-some (p ++ x) (omega (arith, length-append p x)) ∙ ap (λ l. l ∷ []) (take-append-le (max_line + 1) p x (omega arith))

-- more bytes change nothing once a line is too long
turned-long : (all : Bool) (p more rest : List ℕ) → has_line_feed p ≡ false → has_line_feed more ≡ false → max_line < length p
    → turned all (p ++ (more ++ rest)) ≡ turned all (p ++ rest)
turned-long all p more rest h k long =
    let r = lines_some rest in
    let with : lines (p ++ (more ++ rest)) ≡ (p ++ (more ++ r.0)) ∷ r.1 = lines-open p (more ++ rest) (more ++ r.0) r.1 h (lines-open more rest r.0 r.1 k r.2) in
    let without : lines (p ++ rest) ≡ (p ++ r.0) ∷ r.1 = lines-open p rest r.0 r.1 h r.2 in
    let same : given ((p ++ (more ++ r.0)) ∷ []) ≡ given ((p ++ r.0) ∷ []) = given-long p (more ++ r.0) long ∙ sym (given-long p r.0 long) in
    elim all as (λ v. turned v (p ++ (more ++ rest)) ≡ turned v (p ++ rest)) [
      | true ↦ ap given with ∙ given-same (p ++ (more ++ r.0)) (p ++ r.0) r.1 same ∙ sym (ap given without)
      | false ↦ ap (λ ls. given (but_last ls)) with ∙ but_last-same (p ++ (more ++ r.0)) (p ++ r.0) r.1 same ∙ sym (ap (λ ls. given (but_last ls)) without)
    ]

-- the front of some bytes is kept, and all of them unless the line is then too long
pub turned-kept : (line more : List ℕ) (n : ℕ) → has_line_feed line ≡ false → has_line_feed more ≡ false
    → (n < length more → max_line < length (line ++ take n more))
    → IsCutInto line more (line ++ take n more) []
turned-kept line more n h k long = λ all rest.
    let whole : line ++ (more ++ rest) ≡ (line ++ take n more) ++ (drop n more ++ rest) =
    ap (λ x. line ++ (x ++ rest)) (sym (take-append-drop n more)) ∙ ap (λ x. line ++ x) (append_assoc (take n more) (drop n more) rest)
    ∙ sym (append_assoc line (take n more) (drop n more ++ rest)) in
    elim (cases_lt n (length more)) [
      | inl part ↦ ap (turned all) whole
          ∙ turned-long all (line ++ take n more) (drop n more) rest (has_line_feed-append line (take n more) h (has_line_feed-take n more k)) (has_line_feed-drop n more k) (long part)
      | inr rest_too ↦ ap (turned all) (sym (append_assoc line more rest) ∙ ap (λ x. (line ++ x) ++ rest) (sym (take_all n more rest_too)))
    ]

-- what is kept is short and has no line feed
pub kept_is_open : (ok : Bool) (line more new : List ℕ) (n : ℕ) → new ≡ cond ok (line ++ take n more) line → n ≤ max_line + 1 - length line
    → length line ≤ max_line + 1 → has_line_feed line ≡ false → has_line_feed more ≡ false
    → (has_line_feed new ≡ false) × (length new ≤ max_line + 1)
kept_is_open true line more new n e room small h k = rw e (
  has_line_feed-append line (take n more) h (has_line_feed-take n more k),
  omega (arith, length-append line (take n more), length-take n more, room, small),
)
kept_is_open false line more new n e room small h k = rw e (h, small)

-- the first line has ended
some_lines-ended : (all : Bool) (p rest : List ℕ) → has_line_feed p ≡ false → some_lines all (p ++ 10 ∷ rest) ≡ p ∷ some_lines all rest
some_lines-ended true p rest h = lines-ended p rest h
some_lines-ended false p rest h =
    let r = lines_some rest in
    ap but_last (lines-ended p rest h ∙ ap (λ ls. p ∷ ls) r.2) ∙ ap (λ ls. p ∷ but_last ls) (sym r.2)

-- what is given of a line that ends, and of what follows
pub turned-ended : (all : Bool) (line rest : List ℕ) → has_line_feed line ≡ false → turned all (line ++ 10 ∷ rest) ≡ given (line ∷ []) ++ turned all rest
turned-ended all line rest shut = ap given (some_lines-ended all line rest shut) ∙ given-cons line (some_lines all rest)

-- a line that ends with these bytes, where so much of it was kept
pub cut_line : (begun last line : List ℕ) (ls : List (List ℕ)) → has_line_feed line ≡ false → IsCutInto begun last line [] → ls ≡ given (line ∷ [])
    → IsCutInto begun (last ++ 10 ∷ []) [] ls
cut_line begun last line ls shut keeps is = λ all rest.
    ap (λ t. turned all (begun ++ t)) (append_assoc last (10 ∷ []) rest) ∙ keeps all (10 ∷ rest) ∙ turned-ended all line rest shut ∙ ap (λ t. t ++ turned all rest) (sym is)

-- nothing is in front of all
pub begins_nothing : (bytes : List ℕ) → Begins bytes []
begins_nothing bytes = λ rest. (turned true (bytes ++ rest), refl)

-- lines that were cut off are in front, and so is what is in front of the bytes that follow
pub begins_cut : (a bytes b : List ℕ) (ls : List (List ℕ)) → IsCutInto a bytes b ls → Begins (a ++ bytes) ls
begins_cut a bytes b ls h = λ rest. (turned true (b ++ rest), sym (h true rest) ∙ ap (turned true) (sym (append_assoc a bytes rest)))

pub begins_longer : (bytes more : List ℕ) (ls : List (List ℕ)) → Begins bytes ls → Begins (bytes ++ more) ls
begins_longer bytes more ls h = λ rest. let m = h (more ++ rest) in (m.0, m.1 ∙ ap (turned true) (sym (append_assoc bytes more rest)))

pub begins_then : (a bytes b more : List ℕ) (ls ms : List (List ℕ)) → IsCutInto a bytes b ls → Begins (b ++ more) ms → Begins (a ++ (bytes ++ more)) (ls ++ ms)
begins_then a bytes b more ls ms h k = λ rest.
    let m = k rest in (
      m.0,
      append_assoc ls ms m.0 ∙ ap (λ t. ls ++ t) (m.1 ∙ ap (turned true) (append_assoc b more rest)) ∙ sym (h true (more ++ rest))
          ∙ ap (turned true) (ap (λ t. a ++ t) (sym (append_assoc bytes more rest)) ∙ sym (append_assoc a (bytes ++ more) rest)),
    )

-- the last line, at the end of the input
pub turned-last : (line : List ℕ) → has_line_feed line ≡ false → turned true line ≡ given (line ∷ [])
turned-last line shut = ap given (lines-last line shut)

-- no line has ended
pub turned-open : (line : List ℕ) → has_line_feed line ≡ false → turned false line ≡ []
turned-open line shut = ap (λ ls. given (but_last ls)) (lines-last line shut)

-- so much of a line is looked at
take-least : (n m : ℕ) (xs : List ℕ) → n ≡ min (length xs) m → take n xs ≡ take m xs
take-least n m xs h = elim (cases_lt m (length xs)) [
  | inl part ↦ ap (λ k. take k xs) (omega (arith, h, part))
  | inr all ↦ take_all n xs (omega (arith, h, all)) ∙ sym (take_all m xs all)
]

pub given-front : (n : ℕ) (line : List ℕ) → 0 < length line → n ≡ min (length line) (max_line + 1) → take n line ∷ [] ≡ given (line ∷ [])
given-front n line some h = ap (λ l. l ∷ []) (take-least n (max_line + 1) line h) ∙ sym (given-some line some)
