-- The sessions that a turn may have something for.
--     due_back, due_here              one place before others, or none
--     due_alone .. due_none           those of one session, of all, and of none
--     due_set                         sending to a seat in front changes nothing of those after it
--     gap_sent, gap_after             nothing is sent to those between, and they stay
--     reach_more, next_at             the place after one more; those from an element on
--     end_sent, end_after, quiet_from nothing is sent to those after the last
--     got_within .. none_behind       elements at places
--     told_more, told_all             those who were sent all
--     among_more .. among_apart       the places of the due are gathered one by one
--     due_all                         they are the due
use Rattle.std.proofs.Common.{◌≡◌, ◌≢◌, ◌+◌, ◌<◌, ◌≤◌, ◌⊎◌, inl, inr, ℕ, zero, suc, Bool, true, false, cond, ◌||◌, ◌==◌, List, [], ◌∷◌, ◌++◌, length, map, take, drop, slice_get, slice_set, get_or, Result, Ok, Err, OnOk, Some, refl, sym, ap, subst, ◌∙◌, arith, add-one, append_assoc, append-nil, true≢false}
use Rattle.std.specs.List.{All}
use Rattle.std.proofs.lemmas.List.Elements.{All-head, All-tail}
use Rattle.std.proofs.lemmas.Bool.{and_parts, and_from}
use Rattle.std.proofs.lemmas.Bool.Decides.{nat_tests}
use Rattle.session_core.specs.Access.{Shown}
use Rattle.pipe_machine.specs.declared.due.Due.{Due}
use Rattle.pipe_machine.specs.declared.due.Due.TheVariants.{Nobody, Seat as OwnSeat, Everybody}
use Rattle.pipe_machine.specs.declared.seats.Seat.{Seat}
use Rattle.pipe_machine.specs.Due.{is_due, due_among, is_told, are_told, AreToldFrom, IsDueAlone, AreTheDue, reach}
use Rattle.pipe_machine.specs.Lines.{sent_to}
use Rattle.pipe_machine.specs.Seats.{seats_sent, seats_after, IsPlain}
use Rattle.pipe_machine.proofs.Quiet.{IsQuiet, quiet_seat}

pub some_same : {A : Type 0} (x y : A) → Some x ≡ Some y → x ≡ y
some_same x y e = cc

here_or_after : (i k : ℕ) → i ≤ k → (k ≡ i) ⊎ (i + 1 ≤ k)
here_or_after zero zero h = inl refl
here_or_after zero (suc k) h = inr (omega arith)
here_or_after (suc i) zero h = absurd (omega (arith, h))
here_or_after (suc i) (suc k) h = go (here_or_after i k (omega (arith, h)))
  where
    go : (k ≡ i) ⊎ (i + 1 ≤ k) → (suc k ≡ suc i) ⊎ (suc i + 1 ≤ suc k)
    go (inl e) = inl (ap suc e)
    go (inr l) = inr (omega (arith, l))

below_or_from : (k i : ℕ) → (k < i) ⊎ (i ≤ k)
below_or_from k zero = inr (omega arith)
below_or_from zero (suc i) = inl (omega arith)
below_or_from (suc k) (suc i) = go (below_or_from k i)
  where
    go : (k < i) ⊎ (i ≤ k) → (suc k < suc i) ⊎ (suc i ≤ suc k)
    go (inl l) = inl (omega (arith, l))
    go (inr l) = inr (omega (arith, l))

pub got_within : (ss : List Seat) (k : ℕ) (s : Seat) → slice_get ss k ≡ Some s → k < length ss
got_within [] k s e = absurd cc
got_within (x ∷ ss) zero s e = omega arith
got_within (x ∷ ss) (suc k) s e = let l = got_within ss k s e in omega (arith, l)

pub ok_by : {A E P Q : Type 0} (r : Result A E) → (P → Q) → OnOk r P → OnOk r Q
ok_by (Ok a) f p = f p
ok_by (Err e) f p = tt

pub read_get : {A : Type 0} (xs : List A) (k : ℕ) (d : A) → k < length xs → slice_get xs k ≡ Some (get_or xs k d)
read_get [] k d h = absurd (omega (arith, h))
read_get (x ∷ xs) zero d h = refl
read_get (x ∷ xs) (suc k) d h = read_get xs k d (omega (arith, h))

pub all_at : {A : Type 0} (P : A → Type 0) (xs : List A) (k : ℕ) (x : A) → slice_get xs k ≡ Some x → All P xs → P x
all_at P [] k x e all = absurd cc
all_at P (y ∷ xs) zero x e all = subst P (some_same y x e) (All-head P y xs all)
all_at P (y ∷ xs) (suc k) x e all = all_at P xs k x e (All-tail P y xs all)

pub none_behind : (ps : List ℕ) (k : ℕ) → length ps ≤ k → drop k ps ≡ []
none_behind [] zero h = refl
none_behind [] (suc k) h = refl
none_behind (p ∷ ps) zero h = absurd (omega (arith, h))
none_behind (p ∷ ps) (suc k) h = none_behind ps k (omega (arith, h))

module _ (c : Shown) where
  told_back : (i j : ℕ) (ss : List Seat) (s : Seat) → slice_get ss i ≡ Some s → is_told c s ≡ true → AreToldFrom c (i + 1) j ss → AreToldFrom c i j ss
  told_back i j ss s e t told k x low high got = go (here_or_after i k low)
    where
      go : (k ≡ i) ⊎ (i + 1 ≤ k) → is_told c x ≡ true
      go (inl is) = subst (λ y. is_told c y ≡ true) (some_same s x (sym e ∙ ap (slice_get ss) (sym is) ∙ got)) t
      go (inr l) = told k x l high got

  pub due_back : (i : ℕ) (ps : List ℕ) (ss : List Seat) (s : Seat) → slice_get ss i ≡ Some s → is_told c s ≡ true → AreTheDue c (i + 1) ps ss → AreTheDue c i ps ss
  due_back i [] ss s e t due = told_back i (length ss) ss s e t due
  due_back i (p ∷ ps) ss s e t due = let l = due.0 in (omega (arith, l), due.1, told_back i p ss s e t due.2, due.3)

  pub due_here : (i : ℕ) (ps : List ℕ) (ss : List Seat) → i < length ss → AreTheDue c (i + 1) ps ss → AreTheDue c i (i ∷ ps) ss
  due_here i ps ss within due = (omega arith, within, (λ k s low high got. absurd (omega (arith, low, high))), due)

  other : (k i : ℕ) → k ≢ i → (k == i) ≡ false
  other k i n = go (k == i) refl
    where
      go : (t : Bool) → (k == i) ≡ t → t ≡ false
      go false e = refl
      go true e = absurd (n (grind (arith, nat_tests)))

  pub due_alone : (i : ℕ) (ss : List Seat) → i < length ss → IsDueAlone c (OwnSeat i) ss → AreTheDue c 0 (i ∷ []) ss
  due_alone i ss within alone = (omega arith, within, (λ k s low high got. alone k s got (other k i (λ e. omega (arith, e, high)))), λ k s low high got. alone k s got (other k i (λ e. omega (arith, e, low))))

  no_seat : (ss : List Seat) (i k : ℕ) (s : Seat) → length ss ≤ i → slice_get ss k ≡ Some s → k ≢ i
  no_seat ss i k s h got e = absent ss k (omega (arith, h, e)) got
    where
      absent : (xs : List Seat) (j : ℕ) → length xs ≤ j → slice_get xs j ≡ Some s → ⊥
      absent [] j l g = cc
      absent (x ∷ xs) zero l g = omega (arith, l)
      absent (x ∷ xs) (suc j) l g = absent xs j (omega (arith, l)) g

  pub due_absent : (i : ℕ) (ss : List Seat) → length ss ≤ i → IsDueAlone c (OwnSeat i) ss → AreTheDue c 0 [] ss
  due_absent i ss h alone k s low high got = alone k s got (other k i (no_seat ss i k s h got))

  pub due_or_all : (all : Bool) (told : Bool) (due d : Due) (ss : List Seat) → all || told ≡ true → (told ≡ true → IsDueAlone c due ss) → d ≡ cond all Everybody due → IsDueAlone c d ss
  due_or_all true told due d ss h f e = λ k s got no. absurd (true≢false (ap (λ x. is_due x k s) (sym e) ∙ no))
  due_or_all false told due d ss h f e = subst (λ x. IsDueAlone c x ss) (sym e) (f h)

  pub due_none : (ss : List Seat) → IsDueAlone c Nobody ss → AreTheDue c 0 [] ss
  due_none ss alone k s low high got = alone k s got refl

  -- ---- the seats between

  abbrev pub AreQuiet : ℕ → ℕ → List Seat → Type 0
  AreQuiet i j ss = (k : ℕ) (s : Seat) → i ≤ k → k < j → slice_get ss k ≡ Some s → IsQuiet c s

  tail_quiet : (i j : ℕ) (s : Seat) (ss : List Seat) → AreQuiet (suc i) (suc j) (s ∷ ss) → AreQuiet i j ss
  tail_quiet i j s ss q k x low high got = q (suc k) x (omega (arith, low)) (omega (arith, high)) got

  rest_quiet : (j : ℕ) (s : Seat) (ss : List Seat) → AreQuiet zero (suc j) (s ∷ ss) → AreQuiet zero j ss
  rest_quiet j s ss q k x low high got = q (suc k) x (omega arith) (omega (arith, high)) got

  pub gap_sent : (i j : ℕ) (ss : List Seat) → i ≤ j → AreQuiet i j ss → seats_sent c (drop i ss) ≡ seats_sent c (drop j ss)
  gap_sent zero zero ss h q = refl
  gap_sent zero (suc j) [] h q = refl
  gap_sent zero (suc j) (s ∷ ss) h q =
      ap (λ ms. map (sent_to s.name) ms ++ seats_sent c ss) (q zero s (omega arith) (omega arith) refl).sent ∙ gap_sent zero j ss (omega arith) (rest_quiet j s ss q)
  gap_sent (suc i) zero ss h q = absurd (omega (arith, h))
  gap_sent (suc i) (suc j) [] h q = refl
  gap_sent (suc i) (suc j) (s ∷ ss) h q = gap_sent i j ss (omega (arith, h)) (tail_quiet i j s ss q)

  pub gap_after : (i j : ℕ) (ss : List Seat) → i ≤ j → AreQuiet i j ss → take i ss ++ seats_after c (drop i ss) ≡ take j ss ++ seats_after c (drop j ss)
  gap_after zero zero ss h q = refl
  gap_after zero (suc j) [] h q = refl
  gap_after zero (suc j) (s ∷ ss) h q =
      ap (λ x. x ∷ seats_after c ss) (q zero s (omega arith) (omega arith) refl).after ∙ ap (λ l. s ∷ l) (gap_after zero j ss (omega arith) (rest_quiet j s ss q))
  gap_after (suc i) zero ss h q = absurd (omega (arith, h))
  gap_after (suc i) (suc j) [] h q = refl
  gap_after (suc i) (suc j) (s ∷ ss) h q = ap (λ l. s ∷ l) (gap_after i j ss (omega (arith, h)) (tail_quiet i j s ss q))

  pub end_sent : (i : ℕ) (ss : List Seat) → AreQuiet i (length ss) ss → seats_sent c (drop i ss) ≡ []
  end_sent zero [] q = refl
  end_sent (suc i) [] q = refl
  end_sent zero (s ∷ ss) q = ap (λ ms. map (sent_to s.name) ms ++ seats_sent c ss) (q zero s (omega arith) (omega arith) refl).sent ∙ end_sent zero ss (rest_quiet (length ss) s ss q)
  end_sent (suc i) (s ∷ ss) q = end_sent i ss (tail_quiet i (length ss) s ss q)

  pub end_after : (i : ℕ) (ss : List Seat) → AreQuiet i (length ss) ss → take i ss ++ seats_after c (drop i ss) ≡ ss
  end_after zero [] q = refl
  end_after (suc i) [] q = refl
  end_after zero (s ∷ ss) q = ap (λ x. x ∷ seats_after c ss) (q zero s (omega arith) (omega arith) refl).after ∙ ap (λ l. s ∷ l) (end_after zero ss (rest_quiet (length ss) s ss q))
  end_after (suc i) (s ∷ ss) q = ap (λ l. s ∷ l) (end_after i ss (tail_quiet i (length ss) s ss q))

  pub quiet_from : (i j : ℕ) (ss : List Seat) → All (λ s. IsPlain s.session) ss → AreToldFrom c i j ss → AreQuiet i j ss
  quiet_from i j ss plain told k s low high got = quiet_seat c s (all_at (λ x. IsPlain x.session) ss k s got plain) (told k s low high got)

  -- ---- a seat that is sent to

  length_set : (ss : List Seat) (p : ℕ) (x : Seat) → length (slice_set ss p x) ≡ length ss
  length_set [] p x = refl
  length_set (s ∷ ss) zero x = refl
  length_set (s ∷ ss) (suc p) x = ap suc (length_set ss p x)

  pub get_other : (ss : List Seat) (p k : ℕ) (x : Seat) → k ≢ p → slice_get (slice_set ss p x) k ≡ slice_get ss k
  get_other [] p k x n = refl
  get_other (s ∷ ss) zero zero x n = absurd (n refl)
  get_other (s ∷ ss) zero (suc k) x n = refl
  get_other (s ∷ ss) (suc p) zero x n = refl
  get_other (s ∷ ss) (suc p) (suc k) x n = get_other ss p k x (λ e. n (ap suc e))

  get_set : (ss : List Seat) (p : ℕ) (x : Seat) → p < length ss → slice_get (slice_set ss p x) p ≡ Some x
  get_set [] p x h = absurd (omega (arith, h))
  get_set (s ∷ ss) zero x h = refl
  get_set (s ∷ ss) (suc p) x h = get_set ss p x (omega (arith, h))

  from_set : (i j p : ℕ) (ss : List Seat) (x : Seat) → p < i → AreToldFrom c i j ss → AreToldFrom c i j (slice_set ss p x)
  from_set i j p ss x h told k s low high got = told k s low high (sym (get_other ss p k x (λ e. omega (arith, e, low, h))) ∙ got)

  pub due_set : (i p : ℕ) (ps : List ℕ) (ss : List Seat) (x : Seat) → p < i → AreTheDue c i ps ss → AreTheDue c i ps (slice_set ss p x)
  due_set i p [] ss x h due = subst (λ n. AreToldFrom c i n (slice_set ss p x)) (sym (length_set ss p x)) (from_set i (length ss) p ss x h due)
  due_set i p (q ∷ ps) ss x h due =
      let low = due.0 in
      (low, subst (λ n. q < n) (sym (length_set ss p x)) due.1, from_set i q p ss x h due.2, due_set (q + 1) p ps ss x (omega (arith, low, h)) due.3)

  -- those in front of one, and that one
  pub told_more : (p : ℕ) (ss : List Seat) (x : Seat) → p < length ss → AreToldFrom c 0 p ss → is_told c x ≡ true → AreToldFrom c 0 (p + 1) (slice_set ss p x)
  told_more p ss x within told is k s low high got = go (here_or_after k p (omega (arith, high)))
    where
      go : (p ≡ k) ⊎ (k + 1 ≤ p) → is_told c s ≡ true
      go (inl e) = subst (λ y. is_told c y ≡ true) (some_same x s (sym (get_set ss p x within) ∙ ap (slice_get (slice_set ss p x)) e ∙ got)) is
      go (inr l) = told k s low (omega (arith, l)) (sym (get_other ss p k x (λ e. omega (arith, e, l))) ∙ got)

  pub told_on : (i j : ℕ) (ss : List Seat) → AreToldFrom c 0 i ss → AreToldFrom c i j ss → AreToldFrom c 0 j ss
  told_on i j ss front behind k s low high got = go (below_or_from k i)
    where
      go : (k < i) ⊎ (i ≤ k) → is_told c s ≡ true
      go (inl l) = front k s low l got
      go (inr l) = behind k s l high got

  -- ---- all of them

  pub told_each : (ss : List Seat) → are_told c ss ≡ true → AreToldFrom c 0 (length ss) ss
  told_each [] e k s low high got = absurd (omega (arith, high))
  told_each (x ∷ ss) e zero s low high got = subst (λ y. is_told c y ≡ true) (some_same x s got) (and_parts _ _ e).0
  told_each (x ∷ ss) e (suc k) s low high got = told_each ss (and_parts _ _ e).1 k s (omega arith) (omega (arith, high)) got

  pub told_all : (ss : List Seat) → AreToldFrom c 0 (length ss) ss → are_told c ss ≡ true
  told_all [] told = refl
  told_all (x ∷ ss) told = and_from _ _ (told zero x (omega arith) (omega arith) refl) (told_all ss (λ k s low high got. told (suc k) s (omega arith) (omega (arith, high)) got))

pub reach_more : (i k p : ℕ) (ps rest : List ℕ) → drop k ps ≡ p ∷ rest → reach i (take (k + 1) ps) ≡ p + 1
reach_more i k p ps rest e = ap (λ n. reach i (take n ps)) (add-one k) ∙ go i k ps e
  where
    go : (j n : ℕ) (qs : List ℕ) → drop n qs ≡ p ∷ rest → reach j (take (suc n) qs) ≡ p + 1
    go j zero (q ∷ qs) h = ap (λ l. reach j (take 1 l)) h
    go j zero [] h = absurd cc
    go j (suc n) [] h = absurd cc
    go j (suc n) (q ∷ qs) h = go (q + 1) n qs h

-- those from an element on
pub next_at : {A : Type 0} (xs : List A) (k : ℕ) (x : A) → slice_get xs k ≡ Some x → drop k xs ≡ x ∷ drop (k + 1) xs
next_at {A} xs k x e = go xs k e ∙ ap (λ n. x ∷ drop n xs) (sym (add-one k))
  where
    go : (ys : List A) (n : ℕ) → slice_get ys n ≡ Some x → drop n ys ≡ x ∷ drop (suc n) ys
    go [] n h = absurd cc
    go (y ∷ ys) zero h = ap (λ z. z ∷ ys) (some_same y x h)
    go (y ∷ ys) (suc n) h = go ys n h

-- ---- the places of the due

pub none_left : {A : Type 0} (xs : List A) (k : ℕ) → length xs ≤ k → drop k xs ≡ []
none_left [] zero h = refl
none_left [] (suc k) h = refl
none_left (x ∷ xs) zero h = absurd (omega (arith, h))
none_left (x ∷ xs) (suc k) h = none_left xs k (omega (arith, h))

one_on : (f i : ℕ) → f + i + 1 ≡ f + (i + 1)
one_on f i = omega arith

pub among_more : (due : Due) (f i : ℕ) (ss : List Seat) (s : Seat) (all items new : List ℕ) (t : Bool) → slice_get ss i ≡ Some s → t ≡ is_due due (f + i) s → new ≡ items ++ cond t ((f + i) ∷ []) []
    → all ≡ items ++ due_among due (f + i) (drop i ss) → all ≡ new ++ due_among due (f + (i + 1)) (drop (i + 1) ss)
among_more due f i ss s all items new t got is put before =
    let here = cond (is_due due (f + i) s) ((f + i) ∷ []) [] in
    let rest = due_among due (f + (i + 1)) (drop (i + 1) ss) in
    before ∙ ap (λ (l : List Seat). items ++ due_among due (f + i) l) (next_at ss i s got)
    ∙ ap (λ (n : ℕ). items ++ (here ++ due_among due n (drop (i + 1) ss))) (one_on f i)
    ∙ sym (append_assoc items here rest) ∙ ap (λ (l : List ℕ). l ++ rest) (sym (put ∙ ap (λ (b : Bool). items ++ cond b ((f + i) ∷ []) []) is))

no_more : (i : ℕ) → i ≡ i + 0
no_more i = omega arith

one_less : (i n : ℕ) → i + 1 + n ≡ i + suc n
one_less i n = omega arith

pub among_apart : (due : Due) (i : ℕ) (xs ys : List Seat) → due_among due i (xs ++ ys) ≡ due_among due i xs ++ due_among due (i + length xs) ys
among_apart due i [] ys = ap (λ (n : ℕ). due_among due n ys) (no_more i)
among_apart due i (x ∷ xs) ys =
    let here = cond (is_due due i x) (i ∷ []) [] in
    ap (λ (l : List ℕ). here ++ l) (among_apart due (i + 1) xs ys ∙ ap (λ (n : ℕ). due_among due (i + 1) xs ++ due_among due n ys) (one_less i (length xs)))
    ∙ sym (append_assoc here (due_among due (i + 1) xs) (due_among due (i + length (x ∷ xs)) ys))

head_at : (i : ℕ) (x : Seat) (xs ss : List Seat) → drop i ss ≡ x ∷ xs → slice_get ss i ≡ Some x
head_at zero x xs [] e = absurd cc
head_at zero x xs (y ∷ ss) e = cc
head_at (suc i) x xs [] e = absurd cc
head_at (suc i) x xs (y ∷ ss) e = head_at i x xs ss e

same_tail : (x : Seat) (xs ys zs : List Seat) → zs ≡ x ∷ xs → zs ≡ x ∷ ys → ys ≡ xs
same_tail x xs ys zs e f = cc

all_left : (i : ℕ) (ss : List Seat) → drop i ss ≡ [] → length ss ≤ i
all_left i [] e = omega arith
all_left zero (s ∷ ss) e = absurd cc
all_left (suc i) (s ∷ ss) e = let rest = all_left i ss e in omega (arith, rest)

module _ (c : Shown) where
  pub due_all : (due : Due) (i : ℕ) (xs ss : List Seat) → drop i ss ≡ xs → IsDueAlone c due ss → AreTheDue c i (due_among due i xs) ss
  due_all due i [] ss e alone = λ k s low high got. let left = all_left i ss e in absurd (omega (arith, low, high, left))
  due_all due i (x ∷ xs) ss e alone =
      let at = head_at i x xs ss e in
      go at (is_due due i x) refl (due_all due (i + 1) xs ss (same_tail x xs (drop (i + 1) ss) (drop i ss) e (next_at ss i x at)) alone)
    where
      go : slice_get ss i ≡ Some x → (t : Bool) → is_due due i x ≡ t → AreTheDue c (i + 1) (due_among due (i + 1) xs) ss → AreTheDue c i (cond t (i ∷ []) [] ++ due_among due (i + 1) xs) ss
      go at true f rest = due_here c i (due_among due (i + 1) xs) ss (got_within ss i x at) rest
      go at false f rest = due_back c i (due_among due (i + 1) xs) ss x at (alone i x at f) rest
