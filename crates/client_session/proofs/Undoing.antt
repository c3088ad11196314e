-- Chains of undo have room for what others do.
--     HasRoom                 a chain has few entries, which insert few items
--     screen_small            a document on the screen of a sound follower has few items
--     edit_undoable, undo_undoable, drop_undoable, submit_undoable, refusal_undoable, snapshot_undoable, update_undoable     each step keeps that
--     change_passes           others' deltas pass the entries
--     undo_is_said            why an undo is refused
use Rattle.std.proofs.Common.{◌≡◌, inl, inr, ℕ, ◌+◌, ◌≤◌, Bool, true, false, cond, List, [], ◌∷◌, ◌++◌, length, take, Option, None, Some, IsSome, Ok, Err, refl, sym, ap, subst, ◌∙◌, arith, nat_le, nat_lt, option_and_then, unwrap_or}
use Rattle.std.specs.List.{All}
use Rattle.std.specs.Option.{option_map}
use Rattle.std.proofs.lemmas.List.Elements.{All-nil}
use Rattle.doc_items.specs.Limits.{max_count}
use Rattle.doc_items.specs.Maps.{Key, same_text}
use Rattle.doc_op.proofs.Applying.{same_Some}
use Rattle.wave_base.specs.Versions.{IdOf, same_id}
use Rattle.wavelet_op.specs.Acts.{Act, inserted}
use Rattle.wavelet_op.specs.Deltas.{DeltaOf}
use Rattle.wavelet_op.specs.Laws.{IsWhole}
use Rattle.wavelet_op.specs.States.{State, run}
use Rattle.wavelet_op.proofs.Partial.{and_then_some, both}
use Rattle.wavelet_op.proofs.Passes.{split_first}
use Rattle.wavelet_state.specs.Inverses.{inverse_acts}
use Rattle.wavelet_state.specs.Snapshots.{SnapshotOf, max_inserted}
use Rattle.delta_history.specs.Points.{Point, acts_of, next_point}
use Rattle.delta_history.specs.Verdicts.{same_hash}
use Rattle.delta_history.proofs.Points.{after_point}
use Rattle.follower_rules.specs.Followers.{ClientOf, Flight, FollowerOf, run_all, inserted_all, flying, pending, screen, moved, dropped, refuse_if, refuse_flight, point_of, take_newer, take_settled}
use Rattle.follower_rules.specs.Laws.{IsSmall, IsPlace, IsSound, AreOwn}
use Rattle.follower_rules.specs.Receiving.{Over, Answered, over, is_within, rebase, advance_within, advance_to, receive_other, receive_id, receive_flight, receive_hash, receive_gap, receive_old, receive}
use Rattle.follower_rules.specs.Submitting.{Edited, Submitted, is_short, edit_short, edit_held, edit_run, edit_shown, edit, submit}
use Rattle.follower_rules.specs.declared.received.Received.TheVariants as received
use Rattle.follower_rules.proofs.Advances.{passing_is, bounded}
use Rattle.follower_rules.proofs.Rebases.{inserted_all_append}
use Rattle.follower_rules.proofs.Room.{small_run}
use Rattle.follower_rules.proofs.Sounds.{edit_is_sound, edited_is}
use Rattle.undo_control.specs.Chains.{max_entries, ChainOf, with_entry, edited, changed, undone_by}
use Rattle.undo_control.specs.Laws.{IsLight, max_back}
use Rattle.undo_control.proofs.Crowding.{change_has_room}
use Rattle.undo_control.proofs.Keeping.{take_few, rebase_goes}
use Rattle.undo_control.proofs.Lightness.{edit_is_light, change_is_light, change_long, light_entries}
use Rattle.client_session.specs.Editing.{edited_as, edit_seat, undone_as, undo_by, undo_seat, drop_seat, submitted_as, submit_seat}
use Rattle.client_session.specs.Seats.{SeatOf, fresh_chain, after_undo, after_change, with_follower, new_seat, answered}
use Rattle.client_session.specs.Taking.{Rebasing, flies, flies_as, chain_after, updated, update_seat, ask_unless, is_asked, refused_told, refuse_seat, snapshot_named, snapshot_told, snapshot_seat}
use Rattle.client_session.specs.Undoing.{IsUndoable, ChangePasses, IsUndone, UndoIsSaid}
use Rattle.client_session.specs.declared.said.Said.{Said}
use Rattle.client_session.specs.declared.said.Said.TheVariants as said
use Rattle.client_session.proofs.Following.{new_is_followed, edited_chain, moves, edit_is_followed, undo_is_followed, drop_is_followed, submit_is_followed, refusal_is_followed}
use Rattle.client_session.proofs.Noting.{value_is}
use Rattle.client_session.proofs.Updating.{update_is_followed, snapshot_is_followed}

-- ---- sizes

small_all : (n : ℕ) (s t : State) (es : List (List Act)) → IsSmall n s → run_all s es ≡ Some t → IsSmall (n + inserted_all es) t
small_all n s t [] h e = subst (IsSmall (n + 0)) (same_Some e) (λ d. omega (arith, h d))
small_all n s t (acts ∷ rest) h e =
    let x = and_then_some (run s acts) (λ u. run_all u rest) t e in
    let k = small_all (n + inserted acts) x.0 t rest (small_run n s x.0 acts h x.1) x.2 in
    λ d. omega (arith, k d)

abbrev most_shown : ℕ
most_shown = 2199023255552

pub screen_small : (f : FollowerOf) (t : State) → IsSound f → screen f ≡ Some t → IsSmall most_shown t
screen_small f t s e =
    let k = small_all f.here.count f.here.state t (pending f) s.place.small e in
    λ d. omega (arith, k d, s.place.count, s.held)

edit_inserts : (f g : FollowerOf) (acts : List Act) → IsSound f → edit f acts ≡ Ok g → inserted acts ≤ max_inserted
edit_inserts f g acts s e =
    let held = subst (λ z. inserted_all (pending z) ≤ max_inserted) (sym (edited_is f g acts e)) (edit_is_sound f g acts s e).0.held in
    let first = inserted_all_append (flying f.flight) (f.queue ++ acts ∷ []) in
    let second = inserted_all_append f.queue (acts ∷ []) in
    omega (arith, held, first, second)

-- ---- room

abbrev pub HasRoom : ChainOf → Type 0
HasRoom c = (length c.entries ≤ max_entries) × IsLight max_back c

fresh_room : (f : FollowerOf) → HasRoom (fresh_chain f)
fresh_room f = (omega arith, All-nil (λ e. inserted e ≤ max_back))

few_entries : (back : List Act) (es : List (List Act)) (b : Bool) → length (cond b (take max_entries (back ∷ es)) []) ≤ max_entries
few_entries back es true = take_few max_entries (back ∷ es)
few_entries back es false = omega arith

edit_room : (s : SeatOf) (acts : List Act) → length acts ≤ 2 → IsUndoable s → HasRoom (edit_seat s acts).0.chain
edit_room s acts k h = go (edit s.follower acts) refl
  where
    go : (r : Edited) → edit s.follower acts ≡ r → HasRoom (edited_as s acts r).0.chain
    go (Err x) e = (h.few, h.light)
    go (Ok g) e =
        let sound : IsSound g = (edit_is_sound s.follower g acts h.followed.sound e).0 in
        let runs : run s.chain.state acts ≡ Some sound.shown = sym (moves s g acts h.followed e) ∙ sound.is_shown in
        let back = inverse_acts s.chain.state acts in
        let d : ChainOf = record { state = sound.shown; entries = with_entry back s.chain.entries } in
        let is : edited s.chain acts ≡ Some d = edited_chain s.chain acts sound.shown runs in
        let small = screen_small s.follower s.chain.state h.followed.sound h.followed.shows in
        let room : most_shown + (most_shown + inserted acts) ≤ max_back = omega (arith, edit_inserts s.follower g acts h.followed.sound e) in
        subst HasRoom (value_is (edited s.chain acts) d s.chain is) (few_entries back s.chain.entries (nat_le (length back) 1000), edit_is_light most_shown max_back s.chain d acts small k room h.light is)

pub edit_undoable : (s : SeatOf) (acts : List Act) → length acts ≤ 2 → IsUndoable s → IsUndoable (edit_seat s acts).0
edit_undoable s acts k h = let r = edit_room s acts k h in record { followed = edit_is_followed s acts h.followed; few = r.0; light = r.1 }

undo_room : (c : ChainOf) → HasRoom c → HasRoom (after_undo c)
undo_room c h = by c.entries refl
  where
    ran : (back : List Act) (rest : List (List Act)) → c.entries ≡ back ∷ rest → (o : Option State) → HasRoom (unwrap_or (option_map (λ t. record { state = t; entries = rest }) o) c)
    ran back rest e None = h
    ran back rest e (Some t) =
        let few : length (back ∷ rest) ≤ max_entries = subst (λ (es : List (List Act)). length es ≤ max_entries) e h.0 in
        (omega (arith, few), (split_first (λ e. inserted e ≤ max_back) back rest (subst (λ (es : List (List Act)). All (λ e. inserted e ≤ max_back) es) e h.1)).1)

    by : (es : List (List Act)) → c.entries ≡ es → HasRoom (unwrap_or (undone_by c.state es) c)
    by [] e = h
    by (back ∷ rest) e = ran back rest e (run c.state back)

pub undo_undoable : (s : SeatOf) → IsUndoable s → IsUndoable (undo_seat s).0
undo_undoable s h = let r = by s.chain.entries in record { followed = undo_is_followed s h.followed; few = r.0; light = r.1 }
  where
    entered : (r : Edited) → HasRoom (undone_as s r).0.chain
    entered (Err x) = (h.few, h.light)
    entered (Ok g) = undo_room s.chain (h.few, h.light)

    by : (es : List (List Act)) → HasRoom (undo_by s es).0.chain
    by [] = (h.few, h.light)
    by (entry ∷ rest) = entered (edit s.follower entry)

pub new_undoable : (name : Key) (k : ClientOf) (created : Bool) → IsUndoable (new_seat name k created)
new_undoable name k created = record { followed = new_is_followed name k created; few = omega arith; light = All-nil (λ e. inserted e ≤ max_back) }

pub drop_undoable : (s : SeatOf) → IsUndoable s → IsUndoable (drop_seat s)
drop_undoable s h = record { followed = drop_is_followed s h.followed; few = omega arith; light = All-nil (λ e. inserted e ≤ max_back) }

pub submit_chain : (s : SeatOf) → (submit_seat s).0.chain ≡ s.chain
submit_chain s = go (submit s.follower)
  where
    go : (r : Submitted) → (submitted_as s r).0.chain ≡ s.chain
    go (Err x) = refl
    go (Ok r) = refl

pub submit_undoable : (s : SeatOf) → IsUndoable s → IsUndoable (submit_seat s).0
submit_undoable s h =
    let r = subst HasRoom (sym (submit_chain s)) (h.few, h.light) in
    record { followed = submit_is_followed s h.followed; few = r.0; light = r.1 }

pub refusal_undoable : (s : SeatOf) (i : IdOf) (t : Said) → IsUndoable s → IsUndoable (refuse_seat s i t).0
refusal_undoable s i t h = let r = by s.follower.flight in record { followed = refusal_is_followed s i t h.followed; few = r.0; light = r.1 }
  where
    decided : (b : Bool) → HasRoom (refused_told s t (refuse_if s.follower b)).0.chain
    decided false = (h.few, h.light)
    decided true = fresh_room (dropped s.follower)

    by : (o : Option Flight) → HasRoom (refused_told s t (refuse_flight s.follower i o)).0.chain
    by None = (h.few, h.light)
    by (Some g) = decided (same_id i g.sent.id)

asked_room : (s : SeatOf) (t : Said) (b : Bool) → HasRoom s.chain → HasRoom (ask_unless s t b).0.chain
asked_room s t true h = h
asked_room s t false h = h

pub snapshot_undoable : (s : SeatOf) (x : SnapshotOf) → IsPlace (point_of x) → IsWhole x.state → IsUndoable s → IsUndoable (snapshot_seat s x).0
snapshot_undoable s x place w h = let r = named (same_text x.name s.follower.name) in record { followed = snapshot_is_followed s x place w h.followed; few = r.0; light = r.1 }
  where
    newer : (b : Bool) → HasRoom (snapshot_told (answered s) (take_newer s.follower (point_of x) b)).0.chain
    newer false = (h.few, h.light)
    newer true = fresh_room (moved s.follower (point_of x) s.follower.flight s.follower.queue)

    settled : (es : List (List Act)) → HasRoom (snapshot_told (answered s) (take_settled s.follower (point_of x) es)).0.chain
    settled (acts ∷ rest) = asked_room (with_follower (answered s) s.follower s.chain) said.Nothing (is_asked (with_follower (answered s) s.follower s.chain)) (h.few, h.light)
    settled [] = newer (nat_lt s.follower.here.at.version x.at.version)

    named : (b : Bool) → HasRoom (snapshot_named s x b).0.chain
    named false = (h.few, h.light)
    named true = settled (pending s.follower)

-- ---- deltas

change_room : (f : FollowerOf) (s : SeatOf) (left : List Act) → IsUndoable s → HasRoom (after_change f s.chain left)
change_room f s left h = go (changed s.chain left) refl
  where
    go : (o : Option ChainOf) → changed s.chain left ≡ o → HasRoom (unwrap_or o (fresh_chain f))
    go None e = fresh_room f
    go (Some d) e = let l = change_long s.chain d left e in (omega (arith, l, h.few), change_is_light max_back s.chain d left h.followed.in_turn h.light e)

after_room : (f : FollowerOf) (s : SeatOf) (own : Bool) (r : Rebasing) → IsUndoable s → HasRoom (chain_after own s.chain f r)
after_room f s true r h = (h.few, h.light)
after_room f s false None h = fresh_room f
after_room f s false (Some p) h = change_room f s p.1 h

updated_room : (s : SeatOf) (d : DeltaOf) (r : Answered) → IsUndoable s → HasRoom (updated s d r).0.chain
updated_room s d (received.Old, f) h = (h.few, h.light)
updated_room s d (received.Gap, f) h = asked_room (with_follower s f s.chain) said.Nothing (is_asked (with_follower s f s.chain)) (h.few, h.light)
updated_room s d (received.Diverged mine theirs, f) h = asked_room (with_follower s f s.chain) said.Diverged (is_asked (with_follower s f s.chain)) (h.few, h.light)
updated_room s d (received.OtherFlight mine theirs, f) h = (h.few, h.light)
updated_room s d (received.NotNext index, f) h = (h.few, h.light)
updated_room s d (received.Advanced, f) h = after_room f s (flies s.follower d.id) (rebase (pending s.follower) (acts_of d)) h

pub update_undoable : (s : SeatOf) (d : DeltaOf) → AreOwn s.follower d → IsUndoable s → IsUndoable (update_seat s d).0
update_undoable s d own h = let r = updated_room s d (receive s.follower d) h in record { followed = update_is_followed s d own h.followed; few = r.0; light = r.1 }

-- ---- others' deltas pass

module _ (s : SeatOf) (d : DeltaOf) (h : IsUndoable s) (other : flies s.follower d.id ≡ false) where
  abbrev f : FollowerOf
  f = s.follower

  -- where the follower advances
  abbrev Passes : Answered → Type 0
  Passes (received.Old, g) = Unit {0}
  Passes (received.Gap, g) = Unit {0}
  Passes (received.Diverged mine theirs, g) = Unit {0}
  Passes (received.OtherFlight mine theirs, g) = Unit {0}
  Passes (received.NotNext index, g) = Unit {0}
  Passes (received.Advanced, g) = (left : List Act) × (c : ChainOf) × (rebase (pending s.follower) (acts_of d) ≡ Some (pending g, left)) × (changed s.chain left ≡ Some c)

  passes_on : (q : Point) → next_point f.here d ≡ Some q → is_within q d ≡ true → Passes (receive_other f d)
  passes_on q n w =
      let x = passing_is f d q h.followed.sound n w in
      let a = after_point f.here q d n in
      let b = bounded q d w in
      let g : FollowerOf = moved f q x.flight x.queue in
      let runs : run s.chain.state x.left ≡ Some x.sound.shown = sym (x.shows ∙ ap (option_and_then (λ t. run t x.left)) h.followed.shows) ∙ x.sound.is_shown in
      let less = (rebase_goes f.here.state a.state s.chain.state (pending f) (acts_of d) (pending g, x.left) a.goes h.followed.shows x.rebased).4 in
      let small = screen_small f s.chain.state h.followed.sound h.followed.shows in
      let sum = light_entries s.chain.entries h.light in
      let room : most_shown + (inserted_all s.chain.entries + inserted x.left) ≤ max_count = omega (arith, sum, h.few, less, a.count, b.held) in
      let taken = change_has_room most_shown s.chain x.left x.sound.shown small room h.followed.in_turn runs in
      subst Passes (sym x.is) (x.left, taken.0, x.rebased, taken.1)

  other_passes : Passes (receive_other f d)
  other_passes = go (next_point f.here d) refl
    where
      o : Option Over
      o = over f.flight f.queue (acts_of d)

      by : (q : Point) → next_point f.here d ≡ Some q → (b : Bool) → is_within q d ≡ b → Passes (receive_other f d)
      by q n false w = subst Passes (sym (ap (advance_to f d o) n ∙ ap (advance_within f d o q) w)) tt
      by q n true w = passes_on q n w

      go : (n : Option Point) → next_point f.here d ≡ n → Passes (receive_other f d)
      go None n = subst Passes (sym (ap (advance_to f d o) n)) tt
      go (Some q) n = by q n (is_within q d) refl

  flies_is : (x : Flight) (b : Bool) → f.flight ≡ Some x → same_id d.id x.sent.id ≡ b → flies f d.id ≡ b
  flies_is x b e i = ap (λ (o : Option Flight). flies_as d.id (option_map (λ (g : Flight). g.sent) o)) e ∙ i

  by_id : (x : Flight) → f.flight ≡ Some x → (b : Bool) → same_id d.id x.sent.id ≡ b → Passes (receive_id f d x b)
  by_id x e false i = other_passes
  by_id x e true i = absurd (both (flies_is x true e i) other)

  by_flight : (o : Option Flight) → f.flight ≡ o → Passes (receive_flight f d o)
  by_flight None e = other_passes
  by_flight (Some x) e = by_id x e (same_id d.id x.sent.id) refl

  by_hash : (b : Bool) → Passes (receive_hash f d b)
  by_hash false = tt
  by_hash true = by_flight f.flight refl

  by_gap : (b : Bool) → Passes (receive_gap f d b)
  by_gap true = tt
  by_gap false = by_hash (same_hash d.from.hash f.here.at.hash)

  by_old : (b : Bool) → Passes (receive_old f d b)
  by_old true = tt
  by_old false = by_gap (nat_lt f.here.at.version d.from.version)

  passes : Passes (receive f d)
  passes = by_old (nat_lt d.from.version f.here.at.version)

pub change_passes : ChangePasses
change_passes s d g h other e =
    let x = subst (Passes s d h other) e (passes s d h other) in
    record {
      left = x.0;
      rebased = x.2;
      chain = x.1;
      passed = x.3;
      kept = ap (λ (r : Answered). (updated s d r).0.chain) e ∙ ap (λ b. chain_after b s.chain g (rebase (pending s.follower) (acts_of d))) other ∙ ap (chain_after false s.chain g) x.2 ∙ ap (λ (o : Option ChainOf). unwrap_or o (fresh_chain g)) x.3;
    }

-- ---- refused undos

pub undo_is_said : UndoIsSaid
undo_is_said s h = by s.chain.entries refl
  where
    short : (entry : List Act) (rest : List (List Act)) (b : Bool) → IsUndone s (entry ∷ rest) (undone_as s (edit_short s.follower entry b))
    short entry rest false = inr (inr refl)
    short entry rest true = inl refl

    held : (entry : List Act) (rest : List (List Act)) (b : Bool) → IsUndone s (entry ∷ rest) (undone_as s (edit_held s.follower entry b))
    held entry rest false = inr (inl refl)
    held entry rest true = short entry rest (is_short entry)

    ran : (entry : List Act) (rest : List (List Act)) (o : Option State) → IsSome (option_and_then (λ t. run_all t rest) o) → IsUndone s (entry ∷ rest) (undone_as s (edit_run max_inserted s.follower entry s.chain.state o))
    ran entry rest None k = absurd (cc)
    ran entry rest (Some t) k = held entry rest (nat_le (inserted_all (pending s.follower) + inserted entry) max_inserted)

    by : (es : List (List Act)) → s.chain.entries ≡ es → IsUndone s es (undo_by s es)
    by [] c = refl
    by (entry ∷ rest) c =
        let turn : IsSome (run_all s.chain.state (entry ∷ rest)) = subst (λ (es : List (List Act)). IsSome (run_all s.chain.state es)) c h.in_turn in
        let is : edit s.follower entry ≡ edit_run max_inserted s.follower entry s.chain.state (run s.chain.state entry) = ap (edit_shown max_inserted s.follower entry) h.shows in
        subst (λ r. IsUndone s (entry ∷ rest) (undone_as s r)) (sym is) (ran entry rest (run s.chain.state entry) turn)
