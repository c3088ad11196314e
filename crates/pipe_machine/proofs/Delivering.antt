-- One seat after the other is sent what is new to it.
--     sent_on      what is sent
--     after_on     the seats
--     item_on      and one after the other of what a session is sent
use Rattle.std.proofs.Common.{◌≡◌, ◌+◌, ◌<◌, ℕ, List, [], ◌∷◌, ◌++◌, length, map, take, drop, slice_get, slice_set, get_or, Some, suc, zero, sym, ap, ◌∙◌, arith, append_assoc, add-one}
use Rattle.std.proofs.Math.Seq.{drop-cons}
use Rattle.std.proofs.lemmas.List.{take_more_set, drop-set-lt}
use Rattle.session_core.specs.Access.{Shown}
use Rattle.session_core.specs.Deliveries.{delivered}
use Rattle.session_core.specs.News.{message_of, messages_of}
use Rattle.session_core.specs.declared.news.News.{News}
use Rattle.pipe_machine.specs.declared.seats.Seat.{Seat}
use Rattle.pipe_machine.specs.Lines.{sent_to, line_of, lines_of}
use Rattle.pipe_machine.specs.Seats.{seat_after, seats_sent, seats_after}
use Rattle.pipe_machine.proofs.Gathering.{lines_append}
use Rattle.pipe_machine.proofs.Placing.{next_at}

module _ (c : Shown) where
  here : (ss : List Seat) (i : ℕ) (d : Seat) → i < length ss → drop i ss ≡ get_or ss i d ∷ drop (i + 1) ss
  here ss i d h = drop-cons ss i d h ∙ ap (λ n. get_or ss i d ∷ drop n ss) (sym (add-one i))

  pub sent_on : (all out out' : List ℕ) (ss : List Seat) (i : ℕ) (d x : Seat) → i < length ss → all ≡ out ++ lines_of (seats_sent c (drop i ss))
      → out' ≡ out ++ lines_of (map (sent_to (get_or ss i d).name) (delivered c (get_or ss i d).session))
      → all ≡ out' ++ lines_of (seats_sent c (drop (i + 1) (slice_set ss i x)))
  sent_on all out out' ss i d x h w o =
      let one = map (sent_to (get_or ss i d).name) (delivered c (get_or ss i d).session) in
      let rest = seats_sent c (drop (i + 1) ss) in
      w ∙ ap (λ l. out ++ lines_of (seats_sent c l)) (here ss i d h) ∙ ap (λ l. out ++ l) (lines_append one rest)
      ∙ sym (append_assoc out (lines_of one) (lines_of rest)) ∙ ap (λ l. l ++ lines_of rest) (sym o)
      ∙ ap (λ l. out' ++ lines_of (seats_sent c l)) (sym (drop-set-lt (i + 1) ss i x (omega arith)))

  pub after_on : (all ss : List Seat) (i : ℕ) (d x : Seat) → i < length ss → all ≡ take i ss ++ seats_after c (drop i ss) → x ≡ seat_after c (get_or ss i d)
      → all ≡ take (i + 1) (slice_set ss i x) ++ seats_after c (drop (i + 1) (slice_set ss i x))
  after_on all ss i d x h w e =
      w ∙ ap (λ l. take i ss ++ seats_after c l) (here ss i d h) ∙ ap (λ y. take i ss ++ y ∷ seats_after c (drop (i + 1) ss)) (sym e)
      ∙ sym (append_assoc (take i ss) (x ∷ []) (seats_after c (drop (i + 1) ss)))
      ∙ ap (λ l. l ++ seats_after c (drop (i + 1) ss)) (sym (take_more_set ss i x h))
      ∙ ap (λ l. take (i + 1) (slice_set ss i x) ++ seats_after c l) (sym (drop-set-lt (i + 1) ss i x (omega arith)))

pub item_on : (all out out' name : List ℕ) (ns : List News) (i : ℕ) (n : News) → slice_get ns i ≡ Some n → all ≡ out ++ lines_of (map (sent_to name) (messages_of (drop i ns)))
    → out' ≡ out ++ line_of (sent_to name (message_of n)) → all ≡ out' ++ lines_of (map (sent_to name) (messages_of (drop (i + 1) ns)))
item_on all out out' name ns i n got h e =
    let rest = lines_of (map (sent_to name) (messages_of (drop (i + 1) ns))) in
    h ∙ ap (λ l. out ++ lines_of (map (sent_to name) (messages_of l))) (next_at ns i n got) ∙ sym (append_assoc out (line_of (sent_to name (message_of n))) rest) ∙ ap (λ l. l ++ rest) (sym e)
