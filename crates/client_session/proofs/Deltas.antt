-- What a follower's answer to a delta tells.
--     Holds f d r, holds      only where it advances does the follower change, and then the delta is structured
--     noted_own, noted_other  what is to be noted where the follower advances
--     answer_told, ask_told, ask_kept, advance_told      a delta, by the answer to it
--     unchanged               what an answer tells
use Rattle.std.proofs.Common.{◌≡◌, ℕ, Bool, true, false, List, [], ◌∷◌, length, Option, None, Some, Result, Ok, Err, refl, sym, ap, subst, ◌∙◌, nat_lt}
use Rattle.std.specs.Option.{option_map}
use Rattle.std.specs.Result.{IfOk, OnErr}
use Rattle.std.proofs.lemmas.Result.{IfOk-weaker, on_err_weaker}
use Rattle.wave_base.specs.Versions.{same_id}
use Rattle.wavelet_op.specs.Acts.{Act, meanings, AreStructuredActs}
use Rattle.wavelet_op.specs.Deltas.{DeltaOf}
use Rattle.wavelet_op.specs.States.{State, run}
use Rattle.wavelet_op.specs.declared.op.WaveletOp.{WaveletOp}
use Rattle.delta_history.specs.Points.{Point, acts_of, point_behind, next_point}
use Rattle.delta_history.specs.Verdicts.{same_hash}
use Rattle.follower_rules.specs.Followers.{Flight, FollowerOf, pending}
use Rattle.follower_rules.specs.Receiving.{Over, Answered, is_own, is_within, rebase, advance_with, advance_within, advance_to, advance, receive_other, receive_own, receive_id, receive_flight, receive_hash, receive_gap, receive_old, receive}
use Rattle.follower_rules.specs.declared.received.Received.{Received}
use Rattle.follower_rules.specs.declared.received.Received.TheVariants as received
use Rattle.client_control.proofs.Pending.{run_structured}
use Rattle.undo_control.specs.Chains.{ChainOf}
use Rattle.client_control.specs.Parts.{Parts, follower_of}
use Rattle.client_session.specs.Answers.{quiet}
use Rattle.client_session.specs.Seats.{SeatOf, seat_of, noted, with_follower}
use Rattle.client_session.specs.Taking.{Rebasing, IsLeft, IsNoteOf, ask, flies, chain_after, chain_moved, updated, update_seat}
use Rattle.client_session.specs.declared.chain.Note.{Note}
use Rattle.client_session.specs.declared.chain.Note.TheVariants as note
use Rattle.client_session.specs.declared.acts.Acts.{Acts}
use Rattle.client_session.specs.declared.said.Said.{Said}
use Rattle.client_session.specs.declared.seat.Seat.{Seat}
use Rattle.client_session.proofs.Seating.{with_parts, follower_moved, with_note}

abbrev pub Holds : FollowerOf → DeltaOf → Answered → Type 0
Holds f d (received.Old, g) = g ≡ f
Holds f d (received.Gap, g) = g ≡ f
Holds f d (received.Diverged mine theirs, g) = g ≡ f
Holds f d (received.OtherFlight mine theirs, g) = g ≡ f
Holds f d (received.NotNext index, g) = g ≡ f
Holds f d (received.Advanced, g) = AreStructuredActs (acts_of d)

next_structured : (p q : Point) (d : DeltaOf) (o : Option State) → run p.state (acts_of d) ≡ o → option_map (point_behind p d) o ≡ Some q → AreStructuredActs (acts_of d)
next_structured p q d None e h = absurd (cc)
next_structured p q d (Some t) e h = run_structured p.state t (acts_of d) e

module _ (f : FollowerOf) (d : DeltaOf) where
  by_room : (q : Point) (o : Option Over) → AreStructuredActs (acts_of d) → Holds f d (advance_with f d q o)
  by_room q None h = refl
  by_room q (Some o) h = h

  by_bounds : (q : Point) (o : Option Over) (b : Bool) → AreStructuredActs (acts_of d) → Holds f d (advance_within f d o q b)
  by_bounds q o false h = refl
  by_bounds q o true h = by_room q o h

  by_point : (o : Option Over) (n : Option Point) → next_point f.here d ≡ n → Holds f d (advance_to f d o n)
  by_point o None e = refl
  by_point o (Some q) e = by_bounds q o (is_within q d) (next_structured f.here q d (run f.here.state (acts_of d)) refl e)

  by_over : (o : Option Over) → Holds f d (advance f d o)
  by_over o = by_point o (next_point f.here d) refl

  by_own : (g : Flight) (b : Bool) → Holds f d (receive_own f d g b)
  by_own g false = refl
  by_own g true = by_over (Some ((None, f.queue), []))

  by_id : (g : Flight) (b : Bool) → Holds f d (receive_id f d g b)
  by_id g false = by_over _
  by_id g true = by_own g (is_own d g.acts)

  by_flight : (o : Option Flight) → Holds f d (receive_flight f d o)
  by_flight None = by_over _
  by_flight (Some g) = by_id g (same_id d.id g.sent.id)

  by_hash : (b : Bool) → Holds f d (receive_hash f d b)
  by_hash false = refl
  by_hash true = by_flight f.flight

  by_gap : (b : Bool) → Holds f d (receive_gap f d b)
  by_gap true = refl
  by_gap false = by_hash (same_hash d.from.hash f.here.at.hash)

  by_old : (b : Bool) → Holds f d (receive_old f d b)
  by_old true = refl
  by_old false = by_gap (nat_lt f.here.at.version d.from.version)

  pub holds : (r : Answered) → r ≡ receive f d → Holds f d r
  holds r e = subst (Holds f d) (sym e) (by_old (nat_lt d.from.version f.here.at.version))

-- ---- notes

-- another's delta that can't pass, or of which this is left
pub left_none : (r : Rebasing) → r ≡ None → IsLeft r note.Anew
left_none r e f c = ap (chain_after false c f) (sym e)

pub left_some : (r : Rebasing) (later : List (List Act)) (ops : List WaveletOp) → r ≡ Some (later, meanings ops) → IsLeft r (note.Change ops)
left_some r later ops e f c = ap (chain_after false c f) (sym e)

pub note_other : (g : FollowerOf) (d : DeltaOf) (n : Note) → flies g d.id ≡ false → IsLeft (rebase (pending g) (acts_of d)) n → IsNoteOf g d n
note_other g d n e l h f c = l f c ∙ ap (λ b. chain_after b c f (rebase (pending g) (acts_of d))) (sym e)

pub note_own : (g : FollowerOf) (d : DeltaOf) → flies g d.id ≡ true → IsNoteOf g d note.Nothing
note_own g d e h f c = ap (λ b. chain_after b c f (rebase (pending g) (acts_of d))) (sym e)

pub note_never : (g : FollowerOf) (d : DeltaOf) → (AreStructuredActs (acts_of d) → ⊥) → IsNoteOf g d note.Nothing
note_never g d n h f c = absurd (n h)

pub others : {E : Type 0} (r : Result Note E) (g : FollowerOf) (d : DeltaOf) → flies g d.id ≡ false → IfOk r (IsLeft (rebase (pending g) (acts_of d))) → IfOk r (IsNoteOf g d)
others r g d e h = IfOk-weaker r (IsLeft (rebase (pending g) (acts_of d))) (IsNoteOf g d) (λ n l. note_other g d n e l) h

-- ---- a delta

pub advanced : (s : SeatOf) (d : DeltaOf) (f : FollowerOf) (n : Note) → IsNoteOf s.follower d n → (received.Advanced, f) ≡ receive s.follower d → noted f s.chain n ≡ chain_moved s d f
advanced s d f n is e = is (holds s.follower d (received.Advanced, f) e) f s.chain

module _ (m : Seat) (old : SeatOf) (e : seat_of m ≡ old) (n : m.note ≡ note.Nothing) (f : Parts) (d : DeltaOf) (a : Received) (h : (a, follower_of f) ≡ receive (follower_of m.follower) d) where
  received_so : (a, follower_of f) ≡ receive old.follower d
  received_so = h ∙ ap (λ (s : SeatOf). receive s.follower d) e

  by_answer : updated old d (a, follower_of f) ≡ update_seat old d
  by_answer = ap (updated old d) received_so

  pub answer_told : (t : Acts) → updated old d (a, follower_of f) ≡ (with_follower old (follower_of f) old.chain, t) → (seat_of (with_parts m f m.note), t) ≡ update_seat old d
  answer_told t u = ap (λ s. (s, t)) (follower_moved m old e n f) ∙ sym u ∙ by_answer

  pub ask_told : {E : Type 0} (q : Result Acts E) (k : Seat) (t : Said) → updated old d (a, follower_of f) ≡ ask (with_follower old (follower_of f) old.chain) t
      → IfOk q (λ x. (seat_of k, x) ≡ ask (seat_of (with_parts m f m.note)) t) → IfOk q (λ x. (seat_of k, x) ≡ update_seat old d)
  ask_told q k t u r =
      IfOk-weaker q (λ x. (seat_of k, x) ≡ ask (seat_of (with_parts m f m.note)) t) (λ x. (seat_of k, x) ≡ update_seat old d)
      (λ x p. p ∙ ap (λ s. ask s t) (follower_moved m old e n f) ∙ sym u ∙ by_answer) r

  pub ask_kept : {E : Type 0} (q : Result Acts E) (k : Seat) → follower_of f ≡ follower_of m.follower → OnErr q (seat_of k ≡ seat_of (with_parts m f m.note)) → OnErr q (seat_of k ≡ old)
  ask_kept q k s r = on_err_weaker q (λ p. p ∙ follower_moved m old e n f ∙ ap (λ z. with_follower old z old.chain) (s ∙ ap (λ (z : SeatOf). z.follower) e)) r

  pub advance_told : (x : Note) → IsNoteOf (follower_of m.follower) d x → a ≡ received.Advanced → (seat_of (with_parts m f x), quiet) ≡ update_seat old d
  advance_told x is c =
      ap (λ z. (z, quiet)) (with_note m old e n f x)
      ∙ ap (λ z. (with_follower old (follower_of f) z, quiet)) (advanced old d (follower_of f) x (subst (λ (s : SeatOf). IsNoteOf s.follower d x) e is) (ap (λ y. (y, follower_of f)) (sym c) ∙ received_so))
      ∙ sym (ap (λ y. updated old d (y, follower_of f)) c)
      ∙ by_answer

pub unchanged : (g : FollowerOf) (d : DeltaOf) (f : FollowerOf) (a b : Received) → (a, f) ≡ receive g d → a ≡ b → Holds g d (b, f)
unchanged g d f a b h e = subst (λ x. Holds g d (x, f)) e (holds g d (a, f) h)
