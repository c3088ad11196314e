-- What becomes of a message of a session, from what the calls gave.
--     any_default     within a list the default of a look-up doesn't matter
--     answer_is       the answer, where the seat, its place and the reply are those of the calls
--     seat_is         the seat, where it and its place are those of the calls
--     served_pipe     the machine then
--     served_sent     and what is sent
use Rattle.std.proofs.Common.{◌≡◌, ◌<◌, ℕ, zero, suc, List, [], ◌∷◌, ◌++◌, length, get_or, slice_set, refl, sym, ap, ◌∙◌, arith}
use Rattle.std.proofs.lemmas.List.{append-nil}
use Rattle.doc_items.specs.Maps.{Key}
use Rattle.message_json.specs.declared.message.Message.{Message}
use Rattle.session_core.specs.declared.session.Session.{Session}
use Rattle.wavelet_shelf.specs.Hosting.{Hosted}
use Rattle.pipe_machine.specs.declared.seats.Seat.{Seat}
use Rattle.pipe_machine.specs.Lines.{sent_to, line_of, lines_of}
use Rattle.pipe_machine.specs.Machine.{Pipe, Reply, Answer, reply_of, replied, seated_answer, served_at, served}
use Rattle.pipe_machine.specs.Seats.{place_in, seated, seat_in}

pub any_default : (xs : List Seat) (i : ℕ) (a b : Seat) → i < length xs → get_or xs i a ≡ get_or xs i b
any_default [] i a b h = absurd (omega (arith, h))
any_default (x ∷ xs) zero a b h = refl
any_default (x ∷ xs) (suc i) a b h = any_default xs i a b (omega (arith, h))

answer_is : (p : Pipe) (t : ℕ) (name : Key) (m : Message) (ss : List Seat) (i : ℕ) (s : Seat) (x : Session) (hs : List Hosted) (a : Message)
    → i ≡ place_in name 0 p.seats → ss ≡ seated name p.seats → s ≡ seat_in i ss → reply_of hs (x, a) ≡ replied p.hosted s.session m t
    → served p t name m ≡ seated_answer ss i name (reply_of hs (x, a))
answer_is p t name m ss i s x hs a place seats seat reply =
    ap (λ (j : ℕ). served_at p t name m j (seated name p.seats)) (sym place)
    ∙ ap (λ (q : List Seat). served_at p t name m i q) (sym seats)
    ∙ ap (λ (z : Seat). seated_answer ss i name (replied p.hosted z.session m t)) (sym seat)
    ∙ ap (λ (r : Reply). seated_answer ss i name r) (sym reply)

pub seat_is : (name : Key) (seats ss : List Seat) (i : ℕ) (s : Seat) → i ≡ place_in name 0 seats → ss ≡ seated name seats → s ≡ seat_in i ss → s ≡ seat_in (place_in name 0 seats) (seated name seats)
seat_is name seats ss i s place is seat = seat ∙ (λ k. seat_in (place k) (is k))

pub served_pipe : (p : Pipe) (t : ℕ) (name : Key) (m : Message) (ss : List Seat) (i : ℕ) (s : Seat) (x : Session) (hs : List Hosted) (a : Message)
    → i ≡ place_in name 0 p.seats → ss ≡ seated name p.seats → s ≡ seat_in i ss → reply_of hs (x, a) ≡ replied p.hosted s.session m t
    → record { hosted = hs; seats = slice_set ss i (record { name = s.name; session = x }) } ≡ (served p t name m).pipe
served_pipe p t name m ss i s x hs a place seats seat reply =
    let moved : Seat → Pipe = λ z. record { hosted = hs; seats = slice_set ss i (record { name = z.name; session = x }) } in
    ap moved seat ∙ sym (ap (λ (z : Answer). z.pipe) (answer_is p t name m ss i s x hs a place seats seat reply))

pub served_sent : (p : Pipe) (t : ℕ) (name : Key) (m : Message) (ss : List Seat) (i : ℕ) (s : Seat) (x : Session) (hs : List Hosted) (a : Message) (n : Key) (before after : List ℕ)
    → i ≡ place_in name 0 p.seats → ss ≡ seated name p.seats → s ≡ seat_in i ss → reply_of hs (x, a) ≡ replied p.hosted s.session m t
    → n ≡ s.name → (seat_in i ss).name ≡ name → after ≡ before ++ line_of (sent_to n a)
    → after ≡ before ++ lines_of (served p t name m).sent
served_sent p t name m ss i s x hs a n before after place seats seat reply text named put =
    let is : n ≡ name = text ∙ ap (λ (z : Seat). z.name) seat ∙ named in
    let line : line_of (sent_to n a) ≡ lines_of (sent_to name a ∷ []) = ap (λ (k : Key). line_of (sent_to k a)) is ∙ sym (append-nil (line_of (sent_to name a))) in
    put ∙ ap (λ (z : List ℕ). before ++ z) (line ∙ ap (λ (z : Answer). lines_of z.sent) (sym (answer_is p t name m ss i s x hs a place seats seat reply)))
