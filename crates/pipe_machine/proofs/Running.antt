-- Seats in runs.
--     get_front, get_after      a seat of the first run, or of those after it
--     get_set                    a seat that was put in another's place
--     set_front, set_after      so it is with another session
--     set_length, as_many        there are as many seats then, and where the names are the same
--     put_front, put_behind      and with one more seat
--     seats_apart                runs one after another
--     one_more                   an empty run more
--     parted, unparted           a run is parted in two, or isn't
use Rattle.std.proofs.Common.{◌≡◌, ◌+◌, ◌-◌, ◌<◌, ◌≤◌, ℕ, zero, suc, List, [], ◌∷◌, ◌++◌, length, map, take, drop, slice_set, get_or, refl, sym, ap, ◌∙◌, arith, append_assoc}
use Rattle.std.proofs.lemmas.List.{length-map}
use Rattle.pipe_machine.specs.declared.runs.Run.{Run}
use Rattle.pipe_machine.specs.declared.seats.Seat.{Seat}
use Rattle.pipe_machine.specs.Runs.{seats_in}

less : (i n : ℕ) → suc i - suc n ≡ i - n
less i n = omega arith

whole : (i : ℕ) → i ≡ i - 0
whole i = omega arith

next : (i : ℕ) → i + 1 ≡ suc i
next i = omega arith

pub get_front : (xs ys : List Seat) (i : ℕ) (d : Seat) → i < length xs → get_or (xs ++ ys) i d ≡ get_or xs i d
get_front [] ys i d h = absurd (omega (arith, h))
get_front (x ∷ xs) ys zero d h = refl
get_front (x ∷ xs) ys (suc i) d h = get_front xs ys i d (omega (arith, h))

pub get_after : (xs ys : List Seat) (i : ℕ) (d : Seat) → length xs ≤ i → get_or (xs ++ ys) i d ≡ get_or ys (i - length xs) d
get_after [] ys i d h = ap (λ (k : ℕ). get_or ys k d) (whole i)
get_after (x ∷ xs) ys zero d h = absurd (omega (arith, h))
get_after (x ∷ xs) ys (suc i) d h = get_after xs ys i d (omega (arith, h)) ∙ ap (λ (k : ℕ). get_or ys k d) (sym (less i (length xs)))

pub get_set : (xs : List Seat) (i : ℕ) (v d : Seat) → i < length xs → get_or (slice_set xs i v) i d ≡ v
get_set [] i v d h = absurd (omega (arith, h))
get_set (x ∷ xs) zero v d h = refl
get_set (x ∷ xs) (suc i) v d h = get_set xs i v d (omega (arith, h))

pub set_front : (xs ys : List Seat) (i : ℕ) (v : Seat) → i < length xs → slice_set (xs ++ ys) i v ≡ slice_set xs i v ++ ys
set_front [] ys i v h = absurd (omega (arith, h))
set_front (x ∷ xs) ys zero v h = refl
set_front (x ∷ xs) ys (suc i) v h = ap (λ (l : List Seat). x ∷ l) (set_front xs ys i v (omega (arith, h)))

pub set_after : (xs ys : List Seat) (i : ℕ) (v : Seat) → length xs ≤ i → slice_set (xs ++ ys) i v ≡ xs ++ slice_set ys (i - length xs) v
set_after [] ys i v h = ap (λ (k : ℕ). slice_set ys k v) (whole i)
set_after (x ∷ xs) ys zero v h = absurd (omega (arith, h))
set_after (x ∷ xs) ys (suc i) v h = ap (λ (l : List Seat). x ∷ l) (set_after xs ys i v (omega (arith, h)) ∙ ap (λ (k : ℕ). xs ++ slice_set ys k v) (sym (less i (length xs))))

pub set_length : (xs : List Seat) (i : ℕ) (v : Seat) → length (slice_set xs i v) ≡ length xs
set_length [] i v = refl
set_length (x ∷ xs) zero v = refl
set_length (x ∷ xs) (suc i) v = ap (λ (k : ℕ). suc k) (set_length xs i v)

pub as_many : (xs ys : List Seat) → map (λ (s : Seat). s.name) xs ≡ map (λ (s : Seat). s.name) ys → length xs ≡ length ys
as_many xs ys e = sym (length-map xs (λ (s : Seat). s.name)) ∙ ap (λ l. length l) e ∙ length-map ys (λ (s : Seat). s.name)

pub put_front : (xs ys : List Seat) (i : ℕ) (v : Seat) → i ≤ length xs → (take i xs ++ v ∷ drop i xs) ++ ys ≡ take i (xs ++ ys) ++ v ∷ drop i (xs ++ ys)
put_front xs ys zero v h = refl
put_front [] ys (suc i) v h = absurd (omega (arith, h))
put_front (x ∷ xs) ys (suc i) v h = ap (λ (l : List Seat). x ∷ l) (put_front xs ys i v (omega (arith, h)))

pub put_behind : (xs ys : List Seat) (i : ℕ) (v : Seat) → length xs ≤ i → xs ++ (take (i - length xs) ys ++ v ∷ drop (i - length xs) ys) ≡ take i (xs ++ ys) ++ v ∷ drop i (xs ++ ys)
put_behind [] ys i v h = ap (λ (k : ℕ). take k ys ++ v ∷ drop k ys) (sym (whole i))
put_behind (x ∷ xs) ys zero v h = absurd (omega (arith, h))
put_behind (x ∷ xs) ys (suc i) v h =
    ap (λ (l : List Seat). x ∷ l) (ap (λ (k : ℕ). xs ++ (take k ys ++ v ∷ drop k ys)) (less i (length xs)) ∙ put_behind xs ys i v (omega (arith, h)))

-- ---- a run that is parted

pub seats_apart : (rs qs : List Run) → seats_in (rs ++ qs) ≡ seats_in rs ++ seats_in qs
seats_apart [] qs = refl
seats_apart (r ∷ rs) qs = ap (λ (l : List Seat). r.seats.items ++ l) (seats_apart rs qs) ∙ sym (append_assoc r.seats.items (seats_in rs) (seats_in qs))

-- an empty run more
pub one_more : (rs : List Run) (i : ℕ) (r : Run) → r.seats.items ≡ [] → seats_in (take i rs ++ r ∷ drop i rs) ≡ seats_in rs
one_more rs zero r none = ap (λ (l : List Seat). l ++ seats_in rs) none
one_more [] (suc i) r none = ap (λ (l : List Seat). l ++ []) none
one_more (q ∷ rs) (suc i) r none = ap (λ (l : List Seat). q.seats.items ++ l) (one_more rs i r none)

-- in the place of the empty run comes what was parted from the one before it
parted_here : (rs : List Run) (i : ℕ) (e a b d : Run) → i < length rs → a.seats.items ++ b.seats.items ≡ (get_or (take (suc i) rs ++ e ∷ drop (suc i) rs) i d).seats.items
    → seats_in (slice_set (slice_set (take (suc i) rs ++ e ∷ drop (suc i) rs) i a) (suc i) b) ≡ seats_in rs
parted_here [] i e a b d h both = absurd (omega (arith, h))
parted_here (q ∷ rs) zero e a b d h both = sym (append_assoc a.seats.items b.seats.items (seats_in rs)) ∙ ap (λ (l : List Seat). l ++ seats_in rs) both
parted_here (q ∷ rs) (suc i) e a b d h both = ap (λ (l : List Seat). q.seats.items ++ l) (parted_here rs i e a b d (omega (arith, h)) both)

-- nothing was parted
unparted_here : (rs : List Run) (i : ℕ) (e a d : Run) → i < length rs → e.seats.items ≡ [] → a.seats.items ≡ (get_or (take (suc i) rs ++ e ∷ drop (suc i) rs) i d).seats.items
    → seats_in (slice_set (take (suc i) rs ++ e ∷ drop (suc i) rs) i a) ≡ seats_in rs
unparted_here [] i e a d h none same = absurd (omega (arith, h))
unparted_here (q ∷ rs) zero e a d h none same = ap (λ (l : List Seat). l ++ (e.seats.items ++ seats_in rs)) same ∙ ap (λ (l : List Seat). q.seats.items ++ (l ++ seats_in rs)) none
unparted_here (q ∷ rs) (suc i) e a d h none same = ap (λ (l : List Seat). q.seats.items ++ l) (unparted_here rs i e a d (omega (arith, h)) none same)

-- the run after it has the next place
pub parted : (rs is : List Run) (i : ℕ) (e a b d : Run) → i < length rs → is ≡ take (i + 1) rs ++ e ∷ drop (i + 1) rs → a.seats.items ++ b.seats.items ≡ (get_or is i d).seats.items
    → seats_in (slice_set (slice_set is i a) (i + 1) b) ≡ seats_in rs
parted rs is i e a b d h with_one both =
    let here : is ≡ take (suc i) rs ++ e ∷ drop (suc i) rs = with_one ∙ ap (λ (k : ℕ). take k rs ++ e ∷ drop k rs) (next i) in
    ap (λ (k : ℕ). seats_in (slice_set (slice_set is i a) k b)) (next i) ∙ ap (λ (l : List Run). seats_in (slice_set (slice_set l i a) (suc i) b)) here
    ∙ parted_here rs i e a b d h (both ∙ ap (λ (l : List Run). (get_or l i d).seats.items) here)

pub unparted : (rs is : List Run) (i : ℕ) (e a d : Run) → i < length rs → e.seats.items ≡ [] → is ≡ take (i + 1) rs ++ e ∷ drop (i + 1) rs → a.seats.items ≡ (get_or is i d).seats.items
    → seats_in (slice_set is i a) ≡ seats_in rs
unparted rs is i e a d h none with_one same =
    let here : is ≡ take (suc i) rs ++ e ∷ drop (suc i) rs = with_one ∙ ap (λ (k : ℕ). take k rs ++ e ∷ drop k rs) (next i) in
    ap (λ (l : List Run). seats_in (slice_set l i a)) here ∙ unparted_here rs i e a d h none (same ∙ ap (λ (l : List Run). (get_or l i d).seats.items) here)
