-- Sessions in order, and what each is sent.
--     seated_ascends      a new seat takes its place in order
--     party_at            the session of a name is who it was answered as
--     party_kept          deliveries don't change who a session is
--     read_well           a line is answered to its session
--     sent_is_meant       the law
use Rattle.std.proofs.Common.{◌≡◌, ◌+◌, ℕ, zero, suc, Bool, true, false, cond, List, [], ◌∷◌, ◌++◌, map, take, drop, slice_set, Result, Ok, Err, refl, sym, ap, subst, ◌∙◌, arith, true≢false, Less, Equal, Greater}
use Rattle.std.specs.Cmp.Lexicographic.{slice_cmp, bytes_decides}
use Rattle.std.specs.List.{All, AllByRecursion}
use Rattle.std.specs.Ordering.{nat_cmp, is_gt, ordering_reverse}
use Rattle.std.specs.declared.cmp.Ordering.{Ordering}
use Rattle.std.proofs.lemmas.List.Elements.{All-nil, All-cons, All-append, All-map, All-set, All-weaker, All-from_recursion, recursion_from_All}
use Rattle.doc_items.specs.Maps.{Key, same_text}
use Rattle.delta_history.specs.Copying.{AscendFrom, AreAscending}
use Rattle.message_json.specs.declared.message.Message.{Message}
use Rattle.message_json.specs.declared.message.Message.TheVariants.{Bad}
use Rattle.wave_messages.specs.Read.{Refused, line_read}
use Rattle.session_core.specs.declared.session.Party.TheVariants.{Nobody}
use Rattle.session_core.specs.declared.session.Session.{Session}
use Rattle.session_core.specs.declared.request.Request.{Request}
use Rattle.session_core.specs.declared.request.Request.TheVariants as ask
use Rattle.session_core.specs.Access.{Shown}
use Rattle.session_core.specs.Deliveries.{delivered}
use Rattle.session_core.specs.Rules.{taken, reason_of}
use Rattle.wavelet_shelf.specs.Hosting.{Hosted, names_of, judged_in, with_added}
use Rattle.wavelet_shelf.proofs.Growing.{grows_alone}
use Rattle.wavelet_shelf.proofs.Names.{own, turned, tied, lower, any, unlike_above}
use Rattle.wavelet_op.specs.Deltas.{DeltaOf}
use Rattle.std.specs.Prelude.{Option, Some, None}
use Rattle.pipe_machine.specs.declared.seats.Seat.{Seat}
use Rattle.pipe_machine.specs.Lines.{Sent, sent_to}
use Rattle.hosted_copies.specs.Shown.{shown_in}
use Rattle.pipe_machine.specs.Machine.{Pipe, Answer, asked, replied, named, answered_read, answered, turn}
use Rattle.pipe_machine.specs.Meant.{party_in, IsMeantFor, IsMeant, IsIdle, IsOrdered, SentIsMeant}
use Rattle.pipe_machine.specs.Seats.{begun, place_in, is_at, inserted, seated, seat_in, with_session, seats_sent, seats_after}
use Rattle.pipe_machine.proofs.Meaning.{asked_for, bad_to_all, delivered_for, idle_after, party_after, taken_for}
use Rattle.pipe_machine.proofs.Seating.{seated_name}

abbrev pub seat_names : List Seat → List Key
seat_names ss = map (λ s. s.name) ss

-- ---- order

above : (n m : Key) → is_gt (slice_cmp nat_cmp n m) ≡ true → slice_cmp nat_cmp n m ≡ Greater
above n m e = go (slice_cmp nat_cmp n m) e
  where
    go : (o : Ordering) → is_gt o ≡ true → o ≡ Greater
    go Less f = absurd (true≢false (sym f))
    go Equal f = absurd (true≢false (sym f))
    go Greater f = refl

below : (n m : Key) → is_gt (slice_cmp nat_cmp n m) ≡ false → same_text n m ≡ false → slice_cmp nat_cmp n m ≡ Less
below n m e f = go (slice_cmp nat_cmp n m) refl e
  where
    go : (o : Ordering) → slice_cmp nat_cmp n m ≡ o → is_gt o ≡ false → o ≡ Less
    go Less g h = refl
    go Equal g h = absurd (true≢false (sym ((bytes_decides n m).1 (tied n m g)) ∙ f))
    go Greater g h = absurd (true≢false h)

-- the seats with one of the name, by recursion
abbrev with_seat : Key → List Seat → List Seat
with_seat n [] = begun n ∷ []
with_seat n (s ∷ ss) = cond (is_gt (slice_cmp nat_cmp n s.name)) (s ∷ with_seat n ss) (cond (same_text n s.name) (s ∷ ss) (begun n ∷ s ∷ ss))

place_shift : (n : Key) (i : ℕ) (ss : List Seat) → place_in n (i + 1) ss ≡ place_in n i ss + 1
place_shift n i [] = refl
place_shift n i (s ∷ ss) = go (is_gt (slice_cmp nat_cmp n s.name)) (place_shift n (i + 1) ss)
  where
    go : (b : Bool) → place_in n ((i + 1) + 1) ss ≡ place_in n (i + 1) ss + 1 → cond b (place_in n ((i + 1) + 1) ss) (i + 1) ≡ cond b (place_in n (i + 1) ss) i + 1
    go true h = h
    go false h = refl

pub next_place : (n : Key) (ss : List Seat) → place_in n (0 + 1) ss ≡ suc (place_in n 0 ss)
next_place n ss = let e = place_shift n 0 ss in omega (arith, e)

inserted_behind : (n : Key) (k : ℕ) (s : Seat) (ss : List Seat) → inserted n (suc k) (s ∷ ss) ≡ s ∷ inserted n k ss
inserted_behind n k s ss = go (is_at n k ss)
  where
    go : (b : Bool) → cond b (s ∷ ss) (s ∷ (take k ss ++ begun n ∷ drop k ss)) ≡ s ∷ cond b ss (take k ss ++ begun n ∷ drop k ss)
    go true = refl
    go false = refl

seated_is : (n : Key) (ss : List Seat) → seated n ss ≡ with_seat n ss
seated_is n [] = refl
seated_is n (s ∷ ss) = go (is_gt (slice_cmp nat_cmp n s.name)) (seated_is n ss)
  where
    go : (b : Bool) → seated n ss ≡ with_seat n ss → inserted n (cond b (place_in n (0 + 1) ss) 0) (s ∷ ss) ≡ cond b (s ∷ with_seat n ss) (cond (same_text n s.name) (s ∷ ss) (begun n ∷ s ∷ ss))
    go true h = ap (λ k. inserted n k (s ∷ ss)) (next_place n ss) ∙ inserted_behind n (place_in n 0 ss) s ss ∙ ap (λ l. s ∷ l) h
    go false h = refl

seat_from : (m n : Key) (ss : List Seat) → slice_cmp nat_cmp m n ≡ Less → AscendFrom m (seat_names ss) → AscendFrom m (seat_names (with_seat n ss))
seat_from m n [] less a = (less, tt)
seat_from m n (s ∷ ss) less a = go (is_gt (slice_cmp nat_cmp n s.name)) refl (same_text n s.name) refl (λ gt. seat_from s.name n ss gt a.1)
  where
    go : (b : Bool) → is_gt (slice_cmp nat_cmp n s.name) ≡ b → (c : Bool) → same_text n s.name ≡ c → (slice_cmp nat_cmp s.name n ≡ Less → AscendFrom s.name (seat_names (with_seat n ss)))
        → AscendFrom m (seat_names (cond b (s ∷ with_seat n ss) (cond c (s ∷ ss) (begun n ∷ s ∷ ss))))
    go true e c f rest = (a.0, rest (turned n s.name ∙ ap ordering_reverse (above n s.name e)))
    go false e true f rest = a
    go false e false f rest = (less, (below n s.name e f, a.1))

seat_ascends : (n : Key) (ss : List Seat) → AreAscending (seat_names ss) → AreAscending (seat_names (with_seat n ss))
seat_ascends n [] a = tt
seat_ascends n (s ∷ ss) a = go (is_gt (slice_cmp nat_cmp n s.name)) refl (same_text n s.name) refl
  where
    go : (b : Bool) → is_gt (slice_cmp nat_cmp n s.name) ≡ b → (c : Bool) → same_text n s.name ≡ c → AreAscending (seat_names (cond b (s ∷ with_seat n ss) (cond c (s ∷ ss) (begun n ∷ s ∷ ss))))
    go true e c f = seat_from s.name n ss (turned n s.name ∙ ap ordering_reverse (above n s.name e)) a
    go false e true f = a
    go false e false f = (below n s.name e f, a)

pub seated_ascends : (n : Key) (ss : List Seat) → AreAscending (seat_names ss) → AreAscending (seat_names (seated n ss))
seated_ascends n ss a = subst (λ l. AreAscending (seat_names l)) (sym (seated_is n ss)) (seat_ascends n ss a)

set_names : (n : Key) (x : Session) (i : ℕ) (ss : List Seat) → n ≡ (seat_in i ss).name → seat_names (slice_set ss i (record { name = n; session = x })) ≡ seat_names ss
set_names n x i [] e = refl
set_names n x zero (s ∷ ss) e = ap (λ m. m ∷ seat_names ss) e
set_names n x (suc i) (s ∷ ss) e = ap (λ l. s.name ∷ l) (set_names n x i ss e)

after_names : (c : Shown) (ss : List Seat) → seat_names (seats_after c ss) ≡ seat_names ss
after_names c [] = refl
after_names c (s ∷ ss) = ap (λ l. s.name ∷ l) (after_names c ss)

-- ---- who a session is

party_set : (n : Key) (x : Session) (ss : List Seat) → party_in (slice_set (with_seat n ss) (place_in n 0 ss) (record { name = n; session = x })) n ≡ x.party
party_set n x [] = ap (λ b. cond b x.party Nobody) (own n)
party_set n x (s ∷ ss) = go (is_gt (slice_cmp nat_cmp n s.name)) refl (same_text n s.name) (party_set n x ss)
  where
    go : (b : Bool) → is_gt (slice_cmp nat_cmp n s.name) ≡ b → (c : Bool) → party_in (slice_set (with_seat n ss) (place_in n 0 ss) (record { name = n; session = x })) n ≡ x.party
        → party_in (slice_set (cond b (s ∷ with_seat n ss) (cond c (s ∷ ss) (begun n ∷ s ∷ ss))) (cond b (place_in n (0 + 1) ss) 0) (record { name = n; session = x })) n ≡ x.party
    go true e c h =
        ap (λ k. party_in (slice_set (s ∷ with_seat n ss) k (record { name = n; session = x })) n) (next_place n ss)
        ∙ ap (λ b. cond b s.session.party (party_in (slice_set (with_seat n ss) (place_in n 0 ss) (record { name = n; session = x })) n)) (unlike_above n s.name (above n s.name e)) ∙ h
    go false e true h = ap (λ b. cond b x.party (party_in ss n)) (own n)
    go false e false h = ap (λ b. cond b x.party (party_in (s ∷ ss) n)) (own n)

party_at : (n : Key) (x : Session) (ss : List Seat) → party_in (with_session (place_in n 0 ss) x (seated n ss)) n ≡ x.party
party_at n x ss =
    ap (λ m. party_in (slice_set (seated n ss) (place_in n 0 ss) (record { name = m; session = x })) n) (seated_name n ss)
    ∙ ap (λ l. party_in (slice_set l (place_in n 0 ss) (record { name = n; session = x })) n) (seated_is n ss) ∙ party_set n x ss

party_kept : (c : Shown) (ss : List Seat) (n : Key) → party_in (seats_after c ss) n ≡ party_in ss n
party_kept c [] n = refl
party_kept c (s ∷ ss) n = λ i. cond (same_text n s.name) (party_after c s.session i) (party_kept c ss n i)

abbrev KnowsEach : List Seat → List Seat → Type 0
KnowsEach all ss = AllByRecursion (λ s. party_in all s.name ≡ s.session.party) ss

behind_one : (x : Seat) (all ss : List Seat) → AscendFrom x.name (seat_names ss) → KnowsEach all ss → KnowsEach (x ∷ all) ss
behind_one x all [] a k = tt
behind_one x all (t ∷ ts) a k = (
  ap (λ b. cond b x.session.party (party_in all t.name)) (unlike_above t.name x.name (turned x.name t.name ∙ ap ordering_reverse a.0)) ∙ k.0,
  behind_one x all ts (lower x.name t.name (seat_names ts) a.0 a.1) k.1,
)

each_known : (ss : List Seat) → AreAscending (seat_names ss) → KnowsEach ss ss
each_known [] a = tt
each_known (s ∷ ss) a = (ap (λ b. cond b s.session.party (party_in ss s.name)) (own s.name), behind_one s ss ss a (each_known ss (any s.name (seat_names ss) a)))

known_after : (c : Shown) (all ss : List Seat) → KnowsEach all ss → KnowsEach (seats_after c all) ss
known_after c all [] k = tt
known_after c all (s ∷ ss) k = (party_kept c all s.name ∙ k.0, known_after c all ss k.1)

-- ---- nobody waits

seat_idle : (n : Key) (ss : List Seat) → AllByRecursion IsIdle ss → AllByRecursion IsIdle (with_seat n ss)
seat_idle n [] idle = (refl, tt)
seat_idle n (s ∷ ss) idle = go (is_gt (slice_cmp nat_cmp n s.name)) (same_text n s.name) (seat_idle n ss idle.1)
  where
    go : (b c : Bool) → AllByRecursion IsIdle (with_seat n ss) → AllByRecursion IsIdle (cond b (s ∷ with_seat n ss) (cond c (s ∷ ss) (begun n ∷ s ∷ ss)))
    go true c h = (idle.0, h)
    go false true h = idle
    go false false h = (refl, idle)

idle_in : (i : ℕ) (ss : List Seat) → AllByRecursion IsIdle ss → (seat_in i ss).session.waiting ≡ []
idle_in i [] idle = refl
idle_in zero (s ∷ ss) idle = idle.0
idle_in (suc i) (s ∷ ss) idle = idle_in i ss idle.1

set_idle : (i : ℕ) (s : Seat) (ss : List Seat) → IsIdle s → AllByRecursion IsIdle ss → AllByRecursion IsIdle (slice_set ss i s)
set_idle i s ss one idle = recursion_from_All IsIdle (slice_set ss i s) (All-set IsIdle ss i s one (All-from_recursion IsIdle ss idle))

all_idle_after : (c : Shown) (ss : List Seat) → AllByRecursion IsIdle ss → AllByRecursion IsIdle (seats_after c ss)
all_idle_after c [] idle = tt
all_idle_after c (s ∷ ss) idle = (idle_after c s.session idle.0, all_idle_after c ss idle.1)

-- ---- lines

pub record IsAnsweredWell (a : Answer) : Type 0 where
  pub ordered : IsOrdered a.pipe
  pub sent : All (IsMeant a.pipe) a.sent

asked_ascends : (hs : List Hosted) (t : ℕ) (s : Session) (r : Request) → AreAscending (names_of hs) → AreAscending (names_of (asked hs t s r).hosted)
asked_ascends hs t s (ask.Reply m) up = up
asked_ascends hs t s (ask.Attach name from) up = up
asked_ascends hs t s (ask.Submit name submission) up = go (judged_in hs name submission t).1
  where
    go : (o : Option DeltaOf) → AreAscending (names_of (with_added hs name o))
    go None = up
    go (Some d) = grows_alone.ascending hs name d up
asked_ascends hs t s (ask.Have name from) up = up

read_well : (p : Pipe) (t : ℕ) (r : Result (Key × Message) Refused) → IsOrdered p → IsAnsweredWell (answered_read p t r)
read_well p t (Ok line) o =
    let n = line.0 in
    let ss = seated n p.seats in
    let i = place_in n 0 p.seats in
    let s = (seat_in i ss).session in
    let all_idle = subst (AllByRecursion IsIdle) (sym (seated_is n p.seats)) (seat_idle n p.seats o.idle) in
    let for = taken_for s line.1 in
    let r = replied p.hosted s line.1 t in
    let w = asked_for p.hosted t (taken s line.1).0 (taken s line.1).1 o.hosted for.for (for.still ∙ idle_in i ss all_idle) in
    record {
      ordered = record {
        hosted = asked_ascends p.hosted t (taken s line.1).0 (taken s line.1).1 o.hosted;
        seats = subst AreAscending (sym (set_names (seat_in i ss).name r.session i ss refl)) (seated_ascends n p.seats o.seats);
        idle = set_idle i (record { name = (seat_in i ss).name; session = r.session }) ss w.idle all_idle;
      };
      sent =
          let P : Sent → Type 0 = IsMeant (record { hosted = r.hosted; seats = with_session i r.session ss }) in
          All-cons P (sent_to n r.message) [] (subst (λ q. IsMeantFor r.hosted q r.message) (sym (party_at n r.session p.seats)) w.meant) (All-nil P);
    }
read_well p t (Err r) o = record {
  ordered = o;
  sent = All-cons (IsMeant p) (sent_to (named r.0) (Bad (reason_of r.1))) [] (bad_to_all (reason_of r.1) p.hosted (party_in p.seats (named r.0))) (All-nil (IsMeant p));
}

-- ---- deliveries

seats_meant : (hs : List Hosted) (all ss : List Seat) → KnowsEach all ss → AllByRecursion IsIdle ss → All (λ s. IsMeantFor hs (party_in all s.session) s.message) (seats_sent (shown_in hs) ss)
seats_meant hs all [] k idle = All-nil (λ s. IsMeantFor hs (party_in all s.session) s.message)
seats_meant hs all (s ∷ ss) k idle =
    let ms = delivered (shown_in hs) s.session in
    All-append (λ s. IsMeantFor hs (party_in all s.session) s.message) (map (sent_to s.name) ms) (seats_sent (shown_in hs) ss)
    (All-map (λ m. IsMeantFor hs (party_in all m.session) m.message) (sent_to s.name) ms (subst (λ p. All (IsMeantFor hs p) ms) (sym k.0) (delivered_for hs s.session idle.0)))
    (seats_meant hs all ss k.1 idle.1)

turn_well : (p : Pipe) (t : ℕ) (line : List ℕ) → IsOrdered p → IsAnsweredWell (turn p t line)
turn_well p t line o =
    let a = answered p t line in
    let well = read_well p t (line_read line) o in
    let c = shown_in a.pipe.hosted in
    let ss = a.pipe.seats in
    record {
      ordered = record {
        hosted = well.ordered.hosted;
        seats = subst AreAscending (sym (after_names c ss)) well.ordered.seats;
        idle = all_idle_after c ss well.ordered.idle;
      };
      sent = All-append (λ s. IsMeantFor a.pipe.hosted (party_in (seats_after c ss) s.session) s.message) a.sent (seats_sent c ss)
          (All-weaker (IsMeant a.pipe) (λ s. IsMeantFor a.pipe.hosted (party_in (seats_after c ss) s.session) s.message) (λ s m. subst (λ q. IsMeantFor a.pipe.hosted q s.message) (sym (party_kept c ss s.session)) m) a.sent well.sent)
          (seats_meant a.pipe.hosted (seats_after c ss) ss (known_after c ss ss (each_known ss well.ordered.seats)) well.ordered.idle);
    }

pub sent_is_meant : SentIsMeant
sent_is_meant = record {
  at_start = λ hs up. record { hosted = up; seats = tt; idle = tt };
  ordered = λ p t line o. (turn_well p t line o).ordered;
  meant = λ p t line o. (turn_well p t line o).sent;
}
