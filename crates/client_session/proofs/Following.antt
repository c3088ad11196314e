-- Chains of undo follow their screens.
--     screen_whole            the screen of a follower at a whole state is whole
--     fresh                   a new chain follows
--     at_screen               another chain that stands at the screen
--     new_is_followed, edit_is_followed, undo_is_followed, drop_is_followed, submit_is_followed, refusal_is_followed      each step keeps it
use Rattle.std.proofs.Common.{◌≡◌, Bool, true, false, List, [], ◌∷◌, Option, None, Some, Ok, Err, refl, sym, ap, subst, ◌∙◌, nat_le, option_and_then, unwrap_or}
use Rattle.std.specs.Option.{option_map}
use Rattle.std.specs.Cmp.Lexicographic.{slice_cmp}
use Rattle.std.specs.FinMap.{get-empty}
use Rattle.std.specs.Ordering.{nat_cmp}
use Rattle.doc_items.specs.Balance.{Balanced}
use Rattle.doc_items.specs.Limits.{max_count}
use Rattle.doc_items.specs.declared.item.Item.{Item}
use Rattle.wave_base.specs.Versions.{same_id}
use Rattle.doc_op.proofs.Applying.{same_Some}
use Rattle.wavelet_op.specs.Acts.{Act}
use Rattle.wavelet_op.specs.Laws.{IsWhole}
use Rattle.wavelet_op.specs.States.{State, empty_state, kept, run}
use Rattle.wavelet_op.proofs.Partial.{and_then_some}
use Rattle.wavelet_op.proofs.Wholes.{states_hold}
use Rattle.wavelet_state.specs.Inverses.{inverse_acts}
use Rattle.follower_rules.specs.Followers.{Flight, FollowerOf, run_all, pending, screen, dropped, refuse_if, refuse_flight}
use Rattle.follower_rules.specs.Laws.{IsSound}
use Rattle.follower_rules.specs.Submitting.{Edited, Submitted, Gathered, edit, submit, gather, take_numbered, take_gathered, take_queued, take_unless}
use Rattle.follower_rules.proofs.Gathers.{submit_is_sound}
use Rattle.follower_rules.proofs.Sounds.{new_is_sound, edit_is_sound, edited_is, dropped_is_sound}
use Rattle.undo_control.specs.Chains.{ChainOf, with_entry, edited, undone_by, undone, IsInTurn}
use Rattle.undo_control.proofs.Keeping.{edit_keeps, undo_keeps}
use Rattle.client_session.specs.Editing.{edited_as, undone_as, undo_by, submitted_as}
use Rattle.client_session.specs.Laws.{IsFollowed, NewIsFollowed, EditIsFollowed, UndoIsFollowed, DropIsFollowed, SubmitIsFollowed, RefusalIsFollowed}
use Rattle.client_session.specs.Seats.{SeatOf, with_follower, anew}
use Rattle.client_session.specs.Taking.{refused_told}
use Rattle.client_session.proofs.Noting.{value_is}

run_whole : (s t : State) (es : List (List Act)) → IsWhole s → run_all s es ≡ Some t → IsWhole t
run_whole s t [] w e = subst IsWhole (same_Some e) w
run_whole s t (acts ∷ rest) w e = let x = and_then_some (run s acts) (λ u. run_all u rest) t e in run_whole x.0 t rest (states_hold s x.0 acts w x.1) x.2

pub screen_whole : (f : FollowerOf) (s : State) → IsWhole f.here.state → screen f ≡ Some s → IsWhole s
screen_whole f s w e = run_whole f.here.state s (pending f) w e

-- a new chain at the screen of a sound follower
pub fresh : (s : SeatOf) (f : FollowerOf) → IsSound f → IsWhole f.here.state → IsFollowed (anew s f)
fresh s f sound w = record { sound = sound; whole = w; shows = sound.is_shown ∙ ap Some (value_is (screen f) sound.shown empty_state sound.is_shown); in_turn = refl }

-- another chain, which stands at the screen
pub at_screen : (s : SeatOf) (f : FollowerOf) (c : ChainOf) → IsSound f → IsWhole f.here.state → screen f ≡ Some c.state → IsInTurn c → IsFollowed (with_follower s f c)
at_screen s f c sound w e k = record { sound = sound; whole = w; shows = e; in_turn = k }

empty_whole : IsWhole empty_state
empty_whole = record {
  balanced = λ d. subst (λ (o : Option (List Item)). Balanced (unwrap_or o [])) (sym (get-empty (slice_cmp nat_cmp) d)) refl;
  some_items = λ d. subst (λ (o : Option (List Item)). o ≡ kept (unwrap_or o [])) (sym (get-empty (slice_cmp nat_cmp) d)) refl;
}

pub new_is_followed : NewIsFollowed
new_is_followed name k created = record { sound = new_is_sound name k; whole = empty_whole; shows = refl; in_turn = refl }

-- ---- edits

pub edited_chain : (c : ChainOf) (acts : List Act) (t : State) → run c.state acts ≡ Some t → edited c acts ≡ Some (record { state = t; entries = with_entry (inverse_acts c.state acts) c.entries })
edited_chain c acts t e = ap (option_map (λ u. record { state = u; entries = with_entry (inverse_acts c.state acts) c.entries })) e

-- the state of a follower after an edit
here_stays : (f g : FollowerOf) (acts : List Act) → edit f acts ≡ Ok g → IsWhole f.here.state → IsWhole g.here.state
here_stays f g acts e w = subst (λ (z : FollowerOf). IsWhole z.here.state) (edited_is f g acts e) w

-- an edit moves the screen by its acts
pub moves : (s : SeatOf) (g : FollowerOf) (acts : List Act) → IsFollowed s → edit s.follower acts ≡ Ok g → screen g ≡ run s.chain.state acts
moves s g acts h e = (edit_is_sound s.follower g acts h.sound e).1 ∙ ap (option_and_then (λ t. run t acts)) h.shows

pub edit_is_followed : EditIsFollowed
edit_is_followed s acts h = go (edit s.follower acts) refl
  where
    go : (r : Edited) → edit s.follower acts ≡ r → IsFollowed (edited_as s acts r).0
    go (Err x) e = h
    go (Ok g) e =
        let sound : IsSound g = (edit_is_sound s.follower g acts h.sound e).0 in
        let runs : run s.chain.state acts ≡ Some sound.shown = sym (moves s g acts h e) ∙ sound.is_shown in
        let d : ChainOf = record { state = sound.shown; entries = with_entry (inverse_acts s.chain.state acts) s.chain.entries } in
        let is : edited s.chain acts ≡ Some d = edited_chain s.chain acts sound.shown runs in
        subst (λ z. IsFollowed (with_follower s g z)) (value_is (edited s.chain acts) d s.chain is)
        (at_screen s g d sound (here_stays s.follower g acts e h.whole) sound.is_shown (edit_keeps s.chain d acts (screen_whole s.follower s.chain.state h.whole h.shows) h.in_turn is))

pub undo_is_followed : UndoIsFollowed
undo_is_followed s h = by s.chain.entries refl
  where
    entered : (entry : List Act) (rest : List (List Act)) → s.chain.entries ≡ entry ∷ rest → (r : Edited) → edit s.follower entry ≡ r → IsFollowed (undone_as s r).0
    entered entry rest c (Err x) e = h
    entered entry rest c (Ok g) e =
        let sound : IsSound g = (edit_is_sound s.follower g entry h.sound e).0 in
        let runs : run s.chain.state entry ≡ Some sound.shown = sym (moves s g entry h e) ∙ sound.is_shown in
        let d : ChainOf = record { state = sound.shown; entries = rest } in
        let is : undone s.chain ≡ Some d = ap (undone_by s.chain.state) c ∙ ap (option_map (λ t. record { state = t; entries = rest })) runs in
        subst (λ z. IsFollowed (with_follower s g z)) (value_is (undone s.chain) d s.chain is)
        (at_screen s g d sound (here_stays s.follower g entry e h.whole) sound.is_shown (undo_keeps s.chain d h.in_turn is))

    by : (es : List (List Act)) → s.chain.entries ≡ es → IsFollowed (undo_by s es).0
    by [] c = h
    by (entry ∷ rest) c = entered entry rest c (edit s.follower entry) refl

-- ---- the others

pub drop_is_followed : DropIsFollowed
drop_is_followed s h = fresh s (dropped s.follower) (dropped_is_sound s.follower h.sound) h.whole

pub refusal_is_followed : RefusalIsFollowed
refusal_is_followed s i t h = by s.follower.flight
  where
    stays : IsFollowed (with_follower s s.follower s.chain)
    stays = at_screen s s.follower s.chain h.sound h.whole h.shows h.in_turn

    decided : (b : Bool) → IsFollowed (refused_told s t (refuse_if s.follower b)).0
    decided false = stays
    decided true = drop_is_followed s h

    by : (o : Option Flight) → IsFollowed (refused_told s t (refuse_flight s.follower i o)).0
    by None = stays
    by (Some g) = decided (same_id i g.sent.id)

-- a submission leaves the state where the follower is
abbrev pub HereStays : FollowerOf → Submitted → Type 0
HereStays f (Err e) = Unit {0}
HereStays f (Ok r) = IsWhole f.here.state → IsWhole r.1.here.state

here_stays_all : (f : FollowerOf) → HereStays f (submit f)
here_stays_all f = unless f.flight
  where
    numbered : (t : Gathered) (b : Bool) → HereStays f (take_numbered f t b)
    numbered t false = tt
    numbered t true = λ w. w

    from : (m : Option Gathered) → HereStays f (take_gathered f m)
    from None = tt
    from (Some t) = numbered t (nat_le f.next max_count)

    waiting : (q : List (List Act)) → HereStays f (take_queued f q)
    waiting [] = λ w. w
    waiting (entry ∷ rest) = from (gather entry rest)

    unless : (m : Option Flight) → HereStays f (take_unless f m)
    unless (Some x) = λ w. w
    unless None = waiting f.queue

pub submit_is_followed : SubmitIsFollowed
submit_is_followed s h = go (submit s.follower) refl
  where
    go : (r : Submitted) → submit s.follower ≡ r → IsFollowed (submitted_as s r).0
    go (Err x) e = h
    go (Ok r) e =
        let y = submit_is_sound s.follower r.1 r.0 h.sound e in
        at_screen s r.1 s.chain y.0 ((subst (HereStays s.follower) e (here_stays_all s.follower)) h.whole) (y.1 ∙ h.shows) h.in_turn
