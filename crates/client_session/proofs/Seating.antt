-- A wavelet of a run, as its code keeps it.
--     shown_is                a screen that is there
--     pending_all             what is pending is structured
--     chain_kept              the chain where nothing is to be noted
--     fault_is                a refusal, and what is said of it
--     edit_refused            an edit that is refused
--     undo_at, undo_refused, undo_none     an undo
--     follower_moved, with_note, edit_step, undo_step, submit_step      a call that moved the follower
--     stays, edit_failed, undo_failed, submit_failed      one that didn't
use Rattle.std.proofs.Common.{◌≡◌, List, [], ◌∷◌, map, Option, None, Some, Result, Ok, Err, sym, ap, subst, ◌∙◌, slice_get, unwrap_or}
use Rattle.std.specs.Result.{IfOk}
use Rattle.std.proofs.lemmas.Result.{IfOk-weaker}
use Rattle.wavelet_op.specs.Acts.{Act, meanings}
use Rattle.wavelet_op.specs.States.{State, empty_state}
use Rattle.wavelet_op.specs.declared.op.WaveletOp.{WaveletOp}
use Rattle.follower_rules.specs.Followers.{FollowerOf, run_all, screen}
use Rattle.follower_rules.specs.Submitting.{IsFault, edit, submit}
use Rattle.follower_rules.specs.declared.fault.FollowerFault.{FollowerFault}
use Rattle.follower_rules.specs.declared.fault.FollowerFault.TheVariants.{OpInvalid, EditFull, TooBig, NumbersSpent, Memory}
use Rattle.follower_rules.specs.Laws.{IsSound}
use Rattle.client_control.specs.Parts.{Parts, follower_of, ops_pending}
use Rattle.client_control.specs.Steps.{AreStructured}
use Rattle.client_control.proofs.Pending.{pending_same, entries_structured}
use Rattle.undo_control.specs.Chains.{ChainOf}
use Rattle.undo_control.specs.Parts.{chain_of}
use Rattle.wavelet_op.specs.declared.delta.Submission.{Submission}
use Rattle.client_session.specs.Editing.{edited_as, edit_seat, undone_as, undo_by, undo_seat, sent_message, submitted_as, submit_seat, handed, IsUnsent}
use Rattle.client_session.specs.Lines.{IsFaultSaid, fault_said}
use Rattle.client_session.specs.Seats.{SeatOf, seat_of, shown, after_edit, after_undo, noted, with_follower}
use Rattle.client_session.specs.declared.acts.Handed.{Handed}
use Rattle.client_session.specs.declared.chain.Note.{Note}
use Rattle.client_session.specs.declared.chain.Note.TheVariants as note
use Rattle.client_session.specs.declared.said.Said.{Said}
use Rattle.client_session.specs.declared.said.Said.TheVariants as said
use Rattle.client_session.specs.declared.seat.Seat.{Seat}

pub shown_is : (f : FollowerOf) (s : State) → screen f ≡ Some s → s ≡ shown f
shown_is f s e = sym (ap (λ o. unwrap_or o empty_state) e)

pub chain_kept : (s : Seat) → s.note ≡ note.Nothing → (seat_of s).chain ≡ chain_of s.chain
chain_kept s e = ap (noted (follower_of s.follower) (chain_of s.chain)) e

-- what is pending is structured
pub pending_all : (p : Parts) → IsSound (follower_of p) → AreStructured (ops_pending p)
pending_all p s = entries_structured p.here.state s.shown (ops_pending p) (ap (run_all p.here.state) (pending_same p) ∙ s.is_shown)

-- ---- refusals

module _ {X : Type 0} where
  pub fault_is : (x : Result X FollowerFault) (e : FollowerFault) (t : Said) → IsFault x e → IsFaultSaid e t → (x ≡ Err e) × (t ≡ fault_said e)
  fault_is x (OpInvalid k) t f s = (f, s)
  fault_is x EditFull t f s = (f, s)
  fault_is x TooBig t f s = (f, s)
  fault_is x NumbersSpent t f s = (f, s)
  fault_is x Memory t f s = absurd s

pub undo_at : (s : SeatOf) (es : List (List WaveletOp)) (x : List WaveletOp) → s.chain.entries ≡ map meanings es → Some x ≡ slice_get es 0 → undo_seat s ≡ undone_as s (edit s.follower (meanings x))
undo_at s [] x c at = absurd (cc)
undo_at s (y ∷ es) x c at = ap (undo_by s) c ∙ ap (λ z. undone_as s (edit s.follower (meanings z))) cc

module _ {E : Type 0} (r : Result Said E) where
  pub edit_refused : (s : SeatOf) (acts : List Act) (e : FollowerFault) → IsFault (edit s.follower acts) e → IfOk r (IsFaultSaid e) → IfOk r (λ t. (s, t) ≡ edit_seat s acts)
  edit_refused s acts e f h = IfOk-weaker r (IsFaultSaid e) (λ t. (s, t) ≡ edit_seat s acts) (λ t q. let z = fault_is (edit s.follower acts) e t f q in ap (λ u. (s, u)) z.1 ∙ sym (ap (edited_as s acts) z.0)) h

  pub undo_refused : (s : SeatOf) (es : List (List WaveletOp)) (x : List WaveletOp) (e : FollowerFault) → s.chain.entries ≡ map meanings es → Some x ≡ slice_get es 0 → IsFault (edit s.follower (meanings x)) e → IfOk r (IsFaultSaid e)
      → IfOk r (λ t. (s, t) ≡ undo_seat s)
  undo_refused s es x e c at f h =
      IfOk-weaker r (IsFaultSaid e) (λ t. (s, t) ≡ undo_seat s)
      (λ t q. let z = fault_is (edit s.follower (meanings x)) e t f q in ap (λ u. (s, u)) z.1 ∙ sym (ap (undone_as s) z.0) ∙ sym (undo_at s es x c at)) h

pub undo_none : (s : SeatOf) (es : List (List WaveletOp)) → s.chain.entries ≡ map meanings es → None ≡ slice_get es 0 → (s, said.NothingToUndo) ≡ undo_seat s
undo_none s [] c at = sym (ap (undo_by s) c)
undo_none s (y ∷ es) c at = absurd (cc)

-- ---- calls of a follower

-- a seat with another follower and note
abbrev pub with_parts : Seat → Parts → Note → Seat
with_parts s f n = record { follower = f; chain = s.chain; note = n; created = s.created; asked = s.asked; waits = s.waits }

module _ (m : Seat) (old : SeatOf) (e : seat_of m ≡ old) (n : m.note ≡ note.Nothing) where
  -- with another follower alone
  pub follower_moved : (f : Parts) → seat_of (with_parts m f m.note) ≡ with_follower old (follower_of f) old.chain
  follower_moved f = (λ i. record { follower = follower_of f; chain = noted (follower_of f) (chain_of m.chain) (n i); created = m.created; asked = m.asked; waits = m.waits }) ∙ (λ i. record { follower = follower_of f; chain = kept i; created = (e i).created; asked = (e i).asked; waits = (e i).waits })
    where
      kept : chain_of m.chain ≡ old.chain
      kept = sym (chain_kept m n) ∙ ap (λ (s : SeatOf). s.chain) e

  -- and with something to note
  pub with_note : (f : Parts) (x : Note) → seat_of (with_parts m f x) ≡ with_follower old (follower_of f) (noted (follower_of f) old.chain x)
  with_note f x = (λ i. record { follower = follower_of f; chain = noted (follower_of f) (sym (chain_kept m n) i) x; created = m.created; asked = m.asked; waits = m.waits }) ∙ (λ i. record { follower = follower_of f; chain = noted (follower_of f) (e i).chain x; created = (e i).created; asked = (e i).asked; waits = (e i).waits })

  pub edit_step : (f : Parts) (ops copy : List WaveletOp) → edit (follower_of m.follower) (meanings ops) ≡ Ok (follower_of f) → copy ≡ ops → (seat_of (with_parts m f (note.Edit copy)), said.Nothing) ≡ edit_seat old (meanings ops)
  edit_step f ops copy ok c =
      subst (λ z. (seat_of (with_parts m f (note.Edit copy)), said.Nothing) ≡ edit_seat z (meanings ops)) e
      ((λ i. (record { follower = follower_of f; chain = after_edit (sym (chain_kept m n) i) (meanings (c i)); created = m.created; asked = m.asked; waits = m.waits }, said.Nothing)) ∙ sym (ap (edited_as (seat_of m) (meanings ops)) ok))

  pub undo_step : (f : Parts) (es : List (List WaveletOp)) (ops copy : List WaveletOp) → m.chain.entries ≡ es → Some ops ≡ slice_get es 0 → copy ≡ ops → edit (follower_of m.follower) (meanings copy) ≡ Ok (follower_of f)
      → (seat_of (with_parts m f note.Undone), said.Nothing) ≡ undo_seat old
  undo_step f es ops copy c at k ok =
      subst (λ z. (seat_of (with_parts m f note.Undone), said.Nothing) ≡ undo_seat z) e
      ((λ i. (record { follower = follower_of f; chain = after_undo (sym (chain_kept m n) i); created = m.created; asked = m.asked; waits = m.waits }, said.Nothing))
      ∙ sym (undo_at (seat_of m) es ops (ap (λ (z : ChainOf). z.entries) (chain_kept m n) ∙ ap (map meanings) c) at ∙ ap (undone_as (seat_of m)) (ap (λ z. edit (follower_of m.follower) (meanings z)) (sym k) ∙ ok)))

  -- a call that was refused
  pub stays : (f : Parts) → f ≡ m.follower → seat_of (with_parts m f m.note) ≡ old
  stays f s = ap (λ z. seat_of (with_parts m z m.note)) s ∙ e

  pub edit_failed : {E : Type 0} (q : Result Said E) (f : Parts) (ops : List WaveletOp) (x : FollowerFault) → f ≡ m.follower → IsFault (edit (follower_of m.follower) (meanings ops)) x → IfOk q (IsFaultSaid x)
      → IfOk q (λ t. (seat_of (with_parts m f m.note), t) ≡ edit_seat old (meanings ops))
  edit_failed q f ops x s h r =
      subst (λ z. IfOk q (λ t. (z, t) ≡ edit_seat old (meanings ops))) (sym (stays f s))
      (subst (λ z. IfOk q (λ t. (z, t) ≡ edit_seat z (meanings ops))) e (edit_refused q (seat_of m) (meanings ops) x h r))

  pub undo_failed : {E : Type 0} (q : Result Said E) (f : Parts) (es : List (List WaveletOp)) (ops copy : List WaveletOp) (x : FollowerFault) → m.chain.entries ≡ es → Some ops ≡ slice_get es 0 → copy ≡ ops → f ≡ m.follower
      → IsFault (edit (follower_of m.follower) (meanings copy)) x → IfOk q (IsFaultSaid x) → IfOk q (λ t. (seat_of (with_parts m f m.note), t) ≡ undo_seat old)
  undo_failed q f es ops copy x c at k s h r =
      subst (λ z. IfOk q (λ t. (z, t) ≡ undo_seat old)) (sym (stays f s))
      (subst (λ z. IfOk q (λ t. (z, t) ≡ undo_seat z)) e
      (undo_refused q (seat_of m) es ops x (ap (λ (z : ChainOf). z.entries) (chain_kept m n) ∙ ap (map meanings) c) at (subst (λ z. IsFault (edit (follower_of m.follower) (meanings z)) x) k h) r))

  -- a submission that was taken, or not
  pub submit_step : (f : Parts) (o : Option Submission) (h : Handed) → submit (follower_of m.follower) ≡ Ok (o, follower_of f) → h ≡ handed (sent_message old.follower.name o) said.Nothing → (seat_of (with_parts m f m.note), h) ≡ submit_seat old
  submit_step f o h ok c =
      ap (λ s. (s, h)) (follower_moved f) ∙ ap (λ z. (with_follower old (follower_of f) old.chain, z)) c
      ∙ sym (ap (submitted_as old) (ap (λ (s : SeatOf). submit s.follower) (sym e) ∙ ok))

  pub submit_failed : {E : Type 0} (q : Result Handed E) (f : Parts) (x : FollowerFault) → f ≡ m.follower → IsFault (submit (follower_of m.follower)) x → IfOk q (IsUnsent x) → IfOk q (λ h. (seat_of (with_parts m f m.note), h) ≡ submit_seat old)
  submit_failed q f x s h r =
      IfOk-weaker q (IsUnsent x) (λ y. (seat_of (with_parts m f m.note), y) ≡ submit_seat old)
      (λ y u. let z = fault_is (submit (follower_of m.follower)) x u.0 h u.1 in
      ap (λ s. (s, y)) (stays f s) ∙ ap (λ t. (old, t)) (u.2 ∙ ap (handed []) z.1) ∙ sym (ap (submitted_as old) (ap (λ (s : SeatOf). submit s.follower) (sym e) ∙ z.0))) r
