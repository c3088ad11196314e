-- Whom a message of a session may leave something for.
--     replied_others      a reply leaves the deltas of the wavelets that the message doesn't submit to
--     changed_alone       so the others than the session that was answered, and those that have the wavelet open, lack nothing
use Rattle.std.proofs.Common.{◌≡◌, ◌≢◌, arith, ℕ, zero, suc, ◌+◌, Bool, true, false, cond, ◌||◌, ◌==◌, if◌then◌else◌, List, [], ◌∷◌, ◌++◌, take, drop, slice_get, slice_set, Option, None, Some, is_some, option_map, refl, sym, ap, ◌∙◌, true≢false}
use Rattle.std.specs.Option.{option_map_or}
use Rattle.std.specs.Cmp.Lexicographic.{bytes_decides}
use Rattle.std.proofs.lemmas.Bool.{and_parts, and_from}
use Rattle.std.proofs.lemmas.Bool.Decides.{nat_tests}
use Rattle.doc_items.specs.Maps.{Key, same_text}
use Rattle.wavelet_op.specs.Deltas.{DeltaOf}
use Rattle.message_json.specs.declared.message.Message.{Message}
use Rattle.session_core.specs.declared.request.Request.{Request}
use Rattle.session_core.specs.declared.request.Request.TheVariants as ask
use Rattle.session_core.specs.declared.session.Party.{Party}
use Rattle.session_core.specs.declared.session.Party.TheVariants.{Nobody, User, Domain}
use Rattle.session_core.specs.declared.session.Opening.{Opening}
use Rattle.session_core.specs.declared.session.Session.{Session}
use Rattle.session_core.specs.Access.{Shown, shown}
use Rattle.session_core.specs.Current.{is_opening_sent, are_sent_to, are_sent_for}
use Rattle.session_core.specs.Rules.{place_of, taken}
use Rattle.wavelet_shelf.specs.Hosting.{Hosted, deltas_in, copy_of, judged_in, with_added}
use Rattle.wavelet_shelf.proofs.Growing.{grows_alone}
use Rattle.pipe_machine.specs.declared.seats.Seat.{Seat}
use Rattle.pipe_machine.specs.Due.{is_due, due_at, is_told, are_told, IsDueAlone}
use Rattle.pipe_machine.specs.Keeping.{submits, asks_for}
use Rattle.hosted_copies.specs.Shown.{shown_in, nothing_dropped}
use Rattle.pipe_machine.specs.Machine.{asked, replied}
use Rattle.pipe_machine.specs.Seats.{begun, is_at, place_in, seated, IsPlain}
use Rattle.pipe_machine.proofs.Placing.{some_same, got_within, told_each, get_other}
use Rattle.pipe_machine.proofs.Moving.{other_name}
use Rattle.pipe_machine.proofs.Plain.{taken_good}

-- ---- the other histories

added_others : (hs : List Hosted) (name n : Key) (o : Option DeltaOf) → n ≢ name → deltas_in (with_added hs name o) n ≡ deltas_in hs n
added_others hs name n None apart = refl
added_others hs name n (Some d) apart = grows_alone.others hs name d n apart

asked_others : (hs : List Hosted) (t : ℕ) (s : Session) (r : Request) (n : Key) → asks_for r n ≡ false → deltas_in (asked hs t s r).hosted n ≡ deltas_in hs n
asked_others hs t s (ask.Reply m) n e = refl
asked_others hs t s (ask.Attach name from) n e = refl
asked_others hs t s (ask.Submit name submission) n e = added_others hs name n (judged_in hs name submission t).1 (other_name name n e)
asked_others hs t s (ask.Have name from) n e = refl

pub replied_others : (hs : List Hosted) (s : Session) (m : Message) (t : ℕ) → IsPlain s → (n : Key) → submits m n ≡ false → deltas_in (replied hs s m t).hosted n ≡ deltas_in hs n
replied_others hs s m t plain n e = asked_others hs t (taken s m).0 (taken s m).1 n ((taken_good s m plain).only n e)

-- ---- sessions that have none of them open

-- whether an open wavelet with these deltas was sent
abbrev told_of : Key → Opening → List DeltaOf → Bool
told_of user o ds = let c = shown (λ n. copy_of n ds) [] nothing_dropped (λ n i. None) in is_opening_sent c user o (c.copy o.name)

module _ (hs gs : List Hosted) where
  abbrev IsAlike : Opening → Type 0
  IsAlike o = deltas_in gs o.name ≡ deltas_in hs o.name

  alike_sent : (user : Key) (os : List Opening) → ((o : Opening) → (k : ℕ) → slice_get os k ≡ Some o → IsAlike o) → are_sent_to (shown_in hs) user os ≡ true → are_sent_to (shown_in gs) user os ≡ true
  alike_sent user [] alike e = refl
  alike_sent user (o ∷ os) alike e =
      let p = and_parts _ _ e in
      and_from _ _ (ap (told_of user o) (alike o zero refl) ∙ p.0) (alike_sent user os (λ x k got. alike x (suc k) got) p.1)

  alike_told : (s : Seat) → ((o : Opening) → (k : ℕ) → slice_get s.session.openings k ≡ Some o → IsAlike o) → is_told (shown_in hs) s ≡ true → is_told (shown_in gs) s ≡ true
  alike_told s alike = go s.session.party
    where
      go : (party : Party) → are_sent_for (shown_in hs) s.session party ≡ true → are_sent_for (shown_in gs) s.session party ≡ true
      go Nobody e = refl
      go (User user) e = alike_sent user s.session.openings alike e
      go (Domain domain) e = refl

-- ---- what isn't open

same_itself : (n : Key) → same_text n n ≡ true
same_itself n = (bytes_decides n n).1 refl

flipped : (a b : Key) → same_text a b ≡ false → same_text b a ≡ false
flipped a b e = go (same_text b a) refl
  where
    go : (t : Bool) → same_text b a ≡ t → t ≡ false
    go false f = refl
    go true f = absurd (true≢false (sym (same_itself a) ∙ ap (same_text a) (sym ((bytes_decides b a).0 f)) ∙ e))

closed_parts : (t : Bool) (q : Option ℕ) → is_some (if t then Some 0 else option_map (λ i. i + 1) q) ≡ false → (t ≡ false) × (is_some q ≡ false)
closed_parts true q e = absurd (true≢false e)
closed_parts false None e = (refl, refl)
closed_parts false (Some i) e = absurd (true≢false e)

not_open : (n : Key) (os : List Opening) → is_some (place_of n os) ≡ false → (o : Opening) (k : ℕ) → slice_get os k ≡ Some o → same_text o.name n ≡ false
not_open n [] e o k got = absurd cc
not_open n (x ∷ os) e o zero got = ap (λ z. same_text z.name n) (sym (some_same x o got)) ∙ (closed_parts (same_text x.name n) (place_of n os) e).0
not_open n (x ∷ os) e o (suc k) got = not_open n os (closed_parts (same_text x.name n) (place_of n os) e).1 o k got

-- ---- a new session was sent all

seated_told : (c : Shown) (name : Key) (ss : List Seat) → are_told c ss ≡ true → are_told c (seated name ss) ≡ true
seated_told c name ss e = go (is_at name (place_in name 0 ss) ss) (place_in name 0 ss)
  where
    put : (i : ℕ) (xs : List Seat) → are_told c xs ≡ true → are_told c (take i xs ++ begun name ∷ drop i xs) ≡ true
    put zero xs f = f
    put (suc i) [] f = refl
    put (suc i) (x ∷ xs) f = let p = and_parts _ _ f in and_from _ _ p.0 (put i xs p.1)

    go : (b : Bool) (i : ℕ) → are_told c (cond b ss (take i ss ++ begun name ∷ drop i ss)) ≡ true
    go true i = e
    go false i = put i ss e

-- ---- whom there may be something for

either_not : (a b : Bool) → a || b ≡ false → (a ≡ false) × (b ≡ false)
either_not true b e = absurd (true≢false e)
either_not false b e = (refl, e)

not_here : (k i : ℕ) → (k == i) ≡ false → k ≢ i
not_here k i e h = true≢false (sym (self i) ∙ ap (λ j. j == i) (sym h) ∙ e)
  where
    self : (j : ℕ) → (j == j) ≡ true
    self j = grind (arith, nat_tests)

module _ (hs gs : List Hosted) (m : Message) (others : (n : Key) → submits m n ≡ false → deltas_in gs n ≡ deltas_in hs n) where
  stays_told : (o : Option Key) (own k : ℕ) (s : Seat) → ((n : Key) → submits m n ≡ option_map_or (λ name. same_text name n) o false) → is_due (due_at own o) k s ≡ false → is_told (shown_in hs) s ≡ true → is_told (shown_in gs) s ≡ true
  stays_told None own k s is e = alike_told hs gs s (λ x j got. others x.name (is x.name))
  stays_told (Some name) own k s is e = alike_told hs gs s
      (λ x j got. others x.name (is x.name ∙ flipped x.name name (not_open name s.session.openings (either_not _ _ e).1 x j got)))

  apart : (o : Option Key) (own k : ℕ) (s : Seat) → is_due (due_at own o) k s ≡ false → k ≢ own
  apart None own k s e = not_here k own e
  apart (Some name) own k s e = not_here k own (either_not _ _ e).0

  pub changed_alone : (ss ts : List Seat) (name : Key) (own : ℕ) (x : Seat) (o : Option Key) → ((n : Key) → submits m n ≡ option_map_or (λ k. same_text k n) o false) → ts ≡ seated name ss → are_told (shown_in hs) ss ≡ true → IsDueAlone (shown_in gs) (due_at own o) (slice_set ts own x)
  changed_alone ss ts name own x o is seats told k s got e =
      let all : are_told (shown_in hs) ts ≡ true = ap (are_told (shown_in hs)) seats ∙ seated_told (shown_in hs) name ss told in
      let was : slice_get ts k ≡ Some s = sym (get_other (shown_in hs) ts own k x (apart o own k s e)) ∙ got in
      stays_told o own k s is e (told_each (shown_in hs) ts all k s (omega arith) (got_within ts k s was) was)
