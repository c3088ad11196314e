-- As many undos as edits lead back.
--     get_set, all_at, all_set      lists
--     built_few               an edit of a line has at most two acts
--     here_moved              a line that moves the current wavelet
--     line_here               and then a submission of it
--     edits_here, undos_here  such lines
--     undos_lead_back         the law
use Rattle.std.proofs.Common.{◌≡◌, inl, inr, ℕ, zero, suc, ◌+◌, ◌-◌, ◌≤◌, Bool, true, false, List, [], ◌∷◌, ◌++◌, length, take, slice_get, slice_set, Option, None, Some, Ok, Err, refl, sym, ap, subst, ◌∙◌, arith, nat_le, option_and_then}
use Rattle.std.specs.List.{All}
use Rattle.std.specs.Option.{option_map, option_map_or}
use Rattle.std.proofs.lemmas.List.{length-append}
use Rattle.std.proofs.lemmas.List.Elements.{All-cons}
use Rattle.doc_op.proofs.Applying.{no_value, same_Some}
use Rattle.wavelet_op.specs.Acts.{Act, Idle, Adds, Removes, Sets, Mutates, meanings, inserted}
use Rattle.wavelet_op.specs.States.{State, role_of, apply_act, run}
use Rattle.wavelet_op.specs.declared.op.WaveletOp.{WaveletOp}
use Rattle.wavelet_op.specs.declared.role.Role.{Role}
use Rattle.wavelet_op.specs.declared.role.Role.TheVariants.{Full, ReadOnly}
use Rattle.wavelet_op.proofs.Passes.{split_first}
use Rattle.wavelet_state.specs.Inverses.{readded, inverse_act, inverse_acts}
use Rattle.wavelet_state.specs.Snapshots.{max_inserted}
use Rattle.delta_history.proofs.Points.{and_then_is}
use Rattle.follower_rules.specs.Followers.{FollowerOf, inserted_all, pending, screen}
use Rattle.follower_rules.specs.Laws.{IsSound}
use Rattle.follower_rules.specs.Submitting.{Edited, is_short, edit_short, edit_held, edit_run, edit_shown, edit}
use Rattle.follower_rules.specs.declared.fault.FollowerFault.{FollowerFault}
use Rattle.follower_rules.specs.declared.fault.FollowerFault.TheVariants as fault
use Rattle.follower_rules.proofs.Sounds.{edit_is_sound}
use Rattle.undo_control.specs.Chains.{max_entries, ChainOf, with_entry, edited, undone_by, undone, edited_all, undone_times}
use Rattle.undo_control.specs.Laws.{AreShort}
use Rattle.undo_control.proofs.Undoing.{undos_take_back}
use Rattle.client_commands.specs.declared.command.Command.{Command}
use Rattle.client_commands.specs.declared.command.Command.TheVariants as command
use Rattle.client_commands.specs.declared.command.Edit.{Edit}
use Rattle.client_commands.specs.declared.command.Edit.TheVariants as edits
use Rattle.client_edits.specs.Asked.{IsBuilt}
use Rattle.client_edits.specs.declared.built.Built.{Built}
use Rattle.client_edits.specs.declared.built.Built.TheVariants.{Ops, Refused}
use Rattle.client_session.specs.Editing.{edited_as, edit_seat, edit_built, IsEdited, undone_as, undo_by, undo_seat, handed, submit_seat}
use Rattle.client_session.specs.Lines.{fault_said}
use Rattle.client_session.specs.Machine.{MachineOf, Acted, with_seats, seat_moved, on_found, saying, no_wavelet, IsHere, IsFoundHere, IsHereAt, IsCurrent, submitted, finished, finished_unless, IsFinished, seat_at}
use Rattle.client_session.specs.Seats.{SeatOf, shown}
use Rattle.client_session.specs.Taking.{Told}
use Rattle.client_session.specs.Undoing.{IsUndoable, AreUndoable, IsDoneLine, AreEdits, AreUndos, screen_here, UndosLeadBack}
use Rattle.client_session.specs.declared.acts.Acts.{Acts}
use Rattle.client_session.specs.declared.acts.Handed.{Handed}
use Rattle.client_session.specs.declared.said.Said.{Said}
use Rattle.client_session.specs.declared.said.Said.TheVariants as said
use Rattle.client_session.proofs.Following.{screen_whole, edited_chain, moves}
use Rattle.client_session.proofs.Noting.{value_is}
use Rattle.client_session.proofs.Seating.{shown_is}
use Rattle.client_session.proofs.Undoing.{edit_undoable, undo_undoable, submit_chain, submit_undoable}

-- ---- lists

module _ {X : Type 0} where
  pub get_set : (xs : List X) (i : ℕ) (x y : X) → slice_get xs i ≡ Some x → slice_get (slice_set xs i y) i ≡ Some y
  get_set [] zero x y e = absurd (cc)
  get_set [] (suc i) x y e = absurd (cc)
  get_set (z ∷ xs) zero x y e = refl
  get_set (z ∷ xs) (suc i) x y e = get_set xs i x y e

  pub all_at : (P : X → Type 0) (xs : List X) (i : ℕ) (x : X) → slice_get xs i ≡ Some x → All P xs → P x
  all_at P [] zero x e h = absurd (cc)
  all_at P [] (suc i) x e h = absurd (cc)
  all_at P (z ∷ xs) zero x e h = subst P (same_Some e) (split_first P z xs h).0
  all_at P (z ∷ xs) (suc i) x e h = all_at P xs i x e (split_first P z xs h).1

  pub all_set : (P : X → Type 0) (xs : List X) (i : ℕ) (y : X) → P y → All P xs → All P (slice_set xs i y)
  all_set P [] zero y k h = h
  all_set P [] (suc i) y k h = h
  all_set P (z ∷ xs) zero y k h = All-cons P y xs k (split_first P z xs h).1
  all_set P (z ∷ xs) (suc i) y k h = let x = split_first P z xs h in All-cons P z (slice_set xs i y) x.0 (all_set P xs i y k x.1)

-- ---- what is said

no_missing : {C : Type 0} → said.Nothing ≡ said.NoWavelet → C
no_missing e = absurd (cc)

no_refusal : {C : Type 0} (n : ℕ) → said.Refused n ≡ said.Nothing → C
no_refusal n e = absurd (cc)

no_lack : {C : Type 0} → said.NothingToUndo ≡ said.Nothing → C
no_lack e = absurd (cc)

no_memory : {C : Type 0} (f : FollowerOf) (acts : List Act) → edit f acts ≡ Err fault.Memory → C
no_memory f acts e = shown_of (screen f) e
  where
    short : {C : Type 0} (b : Bool) → edit_short f acts b ≡ Err fault.Memory → C
    short false q = absurd (cc)
    short true q = absurd (cc)

    held : {C : Type 0} (b : Bool) → edit_held f acts b ≡ Err fault.Memory → C
    held false q = absurd (cc)
    held true q = short (is_short acts) q

    ran : {C : Type 0} (s : State) (o : Option State) → edit_run max_inserted f acts s o ≡ Err fault.Memory → C
    ran s None q = absurd (cc)
    ran s (Some t) q = held (nat_le (inserted_all (pending f) + inserted acts) max_inserted) q

    shown_of : {C : Type 0} (o : Option State) → edit_shown max_inserted f acts o ≡ Err fault.Memory → C
    shown_of None q = absurd (cc)
    shown_of (Some s) q = ran s (run s acts) q

-- a refusal of the follower is said
no_silence : {C : Type 0} (f : FollowerOf) (acts : List Act) (x : FollowerFault) → edit f acts ≡ Err x → fault_said x ≡ said.Nothing → C
no_silence f acts (fault.OpInvalid k) e t = no_refusal 15 t
no_silence f acts fault.EditFull e t = no_refusal 22 t
no_silence f acts fault.TooBig e t = no_refusal 23 t
no_silence f acts fault.NumbersSpent e t = no_refusal 24 t
no_silence f acts fault.Memory e t = no_memory f acts e

-- ---- edits

abbrev count_of : Built → ℕ
count_of (Ops ops) = length (meanings ops)
count_of (Refused n) = 0

one_act : (ops : List WaveletOp) (o : WaveletOp) → Ops ops ≡ Ops (o ∷ []) → length (meanings ops) ≤ 2
one_act ops o e = let n : length (meanings ops) ≡ 1 = ap count_of e in omega (arith, n)

same_few : (ops : List WaveletOp) (acts : List Act) → length acts ≤ 2 → meanings ops ≡ acts → length (meanings ops) ≤ 2
same_few ops acts k e = subst (λ z. length z ≤ 2) (sym e) k

one_op : (ops : List WaveletOp) (o : WaveletOp) → ops ≡ o ∷ [] → length (meanings ops) ≤ 2
one_op ops o e = subst (λ z. length (meanings z) ≤ 2) (sym e) (omega arith)

pub built_few : (s : State) (e : Edit) (ops : List WaveletOp) → IsBuilt s e (Ops ops) → length (meanings ops) ≤ 2
built_few s (edits.Add a) ops h = one_act ops _ h
built_few s (edits.Remove a) ops h = one_act ops _ h
built_few s (edits.SetRole a r) ops h = one_act ops _ h
built_few s (edits.Write p t) ops h = same_few ops _ (omega arith) h.1
built_few s (edits.Erase r) ops h = same_few ops _ (omega arith) h.1
built_few s (edits.Note r k v) ops h = same_few ops _ (omega arith) h.1
built_few s (edits.Element p kind) ops h = same_few ops _ (omega arith) h.1
built_few s (edits.Reply b t n) ops h = one_op ops _ h.1
built_few s (edits.Inline p t n) ops (inl h) = same_few ops _ (omega arith) h.anchor.2.1
built_few s (edits.Inline p t n) ops (inr h) = absurd h
built_few s (edits.Next t n) ops h = one_op ops _ h.1
built_few s (edits.Delete b) ops h = one_op ops _ h.1

back_one : (s : State) (a : Act) → length (inverse_act s a) ≤ 2
back_one s Idle = omega arith
back_one s (Adds a) = omega arith
back_one s (Removes a) = go (role_of s a)
  where
    go : (o : Option Role) → length (readded a o) ≤ 2
    go None = omega arith
    go (Some Full) = omega arith
    go (Some ReadOnly) = omega arith
back_one s (Sets a old new) = omega arith
back_one s (Mutates d acts) = omega arith

back_few : (s : State) (acts : List Act) → length (inverse_acts s acts) ≤ length acts + length acts
back_few s [] = omega arith
back_few s (a ∷ more) = go (apply_act s a) (λ t. back_few t more)
  where
    go : (o : Option State) → ((t : State) → length (inverse_acts t more) ≤ length more + length more) → length (option_map_or (λ t. inverse_acts t more ++ inverse_act s a) o []) ≤ length (a ∷ more) + length (a ∷ more)
    go None f = omega arith
    go (Some t) f = omega (arith, length-append (inverse_acts t more) (inverse_act s a), f t, back_one s a)

pub record IsEditedSeat (s t : SeatOf) : Type 0 where
  pub acts : List Act
  pub few : length acts ≤ 2
  pub is : edited s.chain acts ≡ Some t.chain
  pub undoable : IsUndoable t

edit_silent : (s : SeatOf) (acts : List Act) → length acts ≤ 2 → IsUndoable s → (edit_seat s acts).1 ≡ said.Nothing → IsEditedSeat s (edit_seat s acts).0
edit_silent s acts k h t = go (edit s.follower acts) refl t
  where
    go : (r : Edited) → edit s.follower acts ≡ r → (edited_as s acts r).1 ≡ said.Nothing → IsEditedSeat s (edited_as s acts r).0
    go (Err x) e q = no_silence s.follower acts x e q
    go (Ok g) e q =
        let sound : IsSound g = (edit_is_sound s.follower g acts h.followed.sound e).0 in
        let runs : run s.chain.state acts ≡ Some sound.shown = sym (moves s g acts h.followed e) ∙ sound.is_shown in
        let d : ChainOf = record { state = sound.shown; entries = with_entry (inverse_acts s.chain.state acts) s.chain.entries } in
        let is : edited s.chain acts ≡ Some d = edited_chain s.chain acts sound.shown runs in
        record {
          acts = acts;
          few = k;
          is = is ∙ ap Some (value_is (edited s.chain acts) d s.chain is);
          undoable = subst (λ (r : Edited). IsUndoable (edited_as s acts r).0) e (edit_undoable s acts k h);
        }

edit_here : (s : SeatOf) (e : Edit) (r : SeatOf × Said) → IsUndoable s → IsEdited s e r → r.1 ≡ said.Nothing → IsEditedSeat s r.0
edit_here s e r h x t = go x.0 x.1 x.2
  where
    go : (b : Built) → IsBuilt (shown s.follower) e b → r ≡ edit_built s b → IsEditedSeat s r.0
    go (Ops ops) u is =
        let silent : (edit_seat s (meanings ops)).1 ≡ said.Nothing = sym (ap (λ (z : SeatOf × Said). z.1) is) ∙ t in
        subst (λ (z : SeatOf × Said). IsEditedSeat s z.0) (sym is) (edit_silent s (meanings ops) (built_few (shown s.follower) e ops u) h silent)
    go (Refused n) u is = no_refusal n (sym (ap (λ (z : SeatOf × Said). z.1) is) ∙ t)

-- ---- undos

undo_here : (s : SeatOf) → IsUndoable s → (undo_seat s).1 ≡ said.Nothing → undone s.chain ≡ Some (undo_seat s).0.chain
undo_here s h t = by s.chain.entries refl t
  where
    entered : (entry : List Act) (rest : List (List Act)) → s.chain.entries ≡ entry ∷ rest → (r : Edited) → edit s.follower entry ≡ r → (undone_as s r).1 ≡ said.Nothing → undone s.chain ≡ Some (undone_as s r).0.chain
    entered entry rest c (Err x) e q = no_silence s.follower entry x e q
    entered entry rest c (Ok g) e q =
        let sound : IsSound g = (edit_is_sound s.follower g entry h.followed.sound e).0 in
        let runs : run s.chain.state entry ≡ Some sound.shown = sym (moves s g entry h.followed e) ∙ sound.is_shown in
        let d : ChainOf = record { state = sound.shown; entries = rest } in
        let is : undone s.chain ≡ Some d = ap (undone_by s.chain.state) c ∙ ap (option_map (λ t. record { state = t; entries = rest })) runs in
        is ∙ ap Some (value_is (undone s.chain) d s.chain is)

    by : (es : List (List Act)) → s.chain.entries ≡ es → (undo_by s es).1 ≡ said.Nothing → undone s.chain ≡ Some (undo_by s es).0.chain
    by [] c q = no_lack q
    by (entry ∷ rest) c q = entered entry rest c (edit s.follower entry) refl q

-- ---- lines

record IsMovedHere (m : MachineOf) (c : Command) (p : Acted) : Type 0 where
  place : ℕ
  at : m.current ≡ Some place
  seat : SeatOf
  there : slice_get m.seats place ≡ Some seat
  told : Told
  is : IsHere seat c told
  moved : p ≡ (with_seats m (slice_set m.seats place told.0) m.current, told.1)

here_moved : (m : MachineOf) (c : Command) (p : Acted) → IsCurrent m c p → p.1.said ≡ said.Nothing → IsMovedHere m c p
here_moved m c p h t = by m.current refl h
  where
    lacks : p ≡ (m, no_wavelet) → IsMovedHere m c p
    lacks q = no_missing (sym t ∙ ap (λ (z : Acted). z.1.said) q)

    found : (i : ℕ) → m.current ≡ Some i → (o : Option SeatOf) → slice_get m.seats i ≡ o → IsFoundHere m i c o p → IsMovedHere m c p
    found i e None g q = lacks q
    found i e (Some s) g q = record { place = i; at = e; seat = s; there = g; told = q.0; is = q.1; moved = q.2 }

    by : (o : Option ℕ) → m.current ≡ o → IsHereAt m o c p → IsMovedHere m c p
    by None e q = lacks q
    by (Some i) e q = found i e (slice_get m.seats i) refl q

submitted_here : (n : MachineOf) (i : ℕ) (s : SeatOf) → n.current ≡ Some i → slice_get n.seats i ≡ Some s → seat_at (submitted n).0.seats (submitted n).0.current ≡ Some (submit_seat s).0
submitted_here n i s e g =
    let is : submitted n ≡ seat_moved n i (handed [] said.Nothing) (Some (submit_seat s)) =
    ap (λ o. on_found o submit_seat (handed [] said.Nothing) n) e ∙ ap (λ o. seat_moved n i (handed [] said.Nothing) (option_map submit_seat o)) g in
    ap (λ (z : MachineOf × Handed). seat_at z.0.seats z.0.current) is ∙ ap (seat_at (slice_set n.seats i (submit_seat s).0)) e ∙ get_set n.seats i s (submit_seat s).0 g

said_same : (b : Bool) (p r : Acted) → r ≡ finished_unless b p → r.1.said ≡ p.1.said
said_same true p r e = ap (λ (z : Acted). z.1.said) e
said_same false p r e = ap (λ (z : Acted). z.1.said) e

record IsLineHere (m : MachineOf) (c : Command) (n : MachineOf) : Type 0 where
  seat : SeatOf
  there : seat_at m.seats m.current ≡ Some seat
  told : Told
  is : IsHere seat c told
  silent : told.1.said ≡ said.Nothing
  after : seat_at n.seats n.current ≡ Some (submit_seat told.0).0

line_here : (m n : MachineOf) (c : Command) (a : Acts) (p : Acted) → ((s : SeatOf) (r : Told) → IsHere s c r → r.1.ends ≡ false) → IsCurrent m c p → IsFinished p (n, a) → a.said ≡ said.Nothing → IsLineHere m c n
line_here m n c a p goes done fin t =
    let silent : p.1.said ≡ said.Nothing = sym (said_same p.1.ends p (n, a) fin) ∙ t in
    let h = here_moved m c p done silent in
    let k : MachineOf = with_seats m (slice_set m.seats h.place h.told.0) m.current in
    let ends : p.1.ends ≡ false = ap (λ (z : Acted). z.1.ends) h.moved ∙ goes h.seat h.told h.is in
    let is : (n, a) ≡ finished true p = fin ∙ ap (λ b. finished_unless b p) ends in
    let next : n ≡ (submitted k).0 = ap (λ (z : Acted). z.0) is ∙ ap (λ (z : Acted). (submitted z.0).0) h.moved in
    record {
      seat = h.seat;
      there = ap (seat_at m.seats) h.at ∙ h.there;
      told = h.told;
      is = h.is;
      silent = sym (ap (λ (z : Acted). z.1.said) h.moved) ∙ silent;
      after = ap (λ (z : MachineOf). seat_at z.seats z.current) next ∙ submitted_here k h.place h.told.0 h.at (get_set m.seats h.place h.seat h.told.0 h.there);
    }

edit_goes : (e : Edit) (s : SeatOf) (r : Told) → IsHere s (command.Edit e) r → r.1.ends ≡ false
edit_goes e s r h = ap (λ (z : Told). z.1.ends) h.2

undo_goes : (s : SeatOf) (r : Told) → IsHere s command.Undo r → r.1.ends ≡ false
undo_goes s r h = ap (λ (z : Told). z.1.ends) h

edit_line : (m n : MachineOf) (e : Edit) → IsDoneLine m (command.Edit e) n → IsLineHere m (command.Edit e) n
edit_line m n e x = line_here m n (command.Edit e) x.0 x.1.0 (edit_goes e) x.1.1 x.1.2 x.2

undo_line : (m n : MachineOf) → IsDoneLine m command.Undo n → IsLineHere m command.Undo n
undo_line m n x = line_here m n command.Undo x.0 x.1.0 undo_goes x.1.1 x.1.2 x.2

-- ---- lines in turn

record IsEditedTo (s : SeatOf) (n : MachineOf) (k : ℕ) : Type 0 where
  seat : SeatOf
  there : seat_at n.seats n.current ≡ Some seat
  undoable : IsUndoable seat
  edits : List (List Act)
  long : length edits ≡ k
  is : edited_all s.chain edits ≡ Some seat.chain
  short : AreShort s.chain edits

-- what an edit of a line leaves, with its submission
record IsEditedOn (s : SeatOf) (n : MachineOf) : Type 0 where
  seat : SeatOf
  there : seat_at n.seats n.current ≡ Some seat
  undoable : IsUndoable seat
  acts : List Act
  few : length acts ≤ 2
  is : edited s.chain acts ≡ Some seat.chain

edit_on : (m n : MachineOf) (e : Edit) (s : SeatOf) → seat_at m.seats m.current ≡ Some s → IsUndoable s → IsDoneLine m (command.Edit e) n → IsEditedOn s n
edit_on m n e s there h line =
    let l = edit_line m n e line in
    let here = subst (λ z. IsHere z (command.Edit e) l.told) (same_Some (sym l.there ∙ there)) l.is in
    let x = edit_here s e here.0 h here.1 (sym (ap (λ (z : Told). z.1.said) here.2) ∙ l.silent) in
    record {
      seat = (submit_seat here.0.0).0;
      there = l.after ∙ ap (λ (z : Told). Some (submit_seat z.0).0) here.2;
      undoable = submit_undoable here.0.0 x.undoable;
      acts = x.acts;
      few = x.few;
      is = x.is ∙ ap Some (sym (submit_chain here.0.0));
    }

edits_here : (m n : MachineOf) (es : List Edit) (s : SeatOf) → seat_at m.seats m.current ≡ Some s → IsUndoable s → AreEdits m es n → IsEditedTo s n (length es)
edits_here m n [] s there h x = record { seat = s; there = ap (λ (z : MachineOf). seat_at z.seats z.current) x ∙ there; undoable = h; edits = []; long = refl; is = refl; short = tt }
edits_here m n (e ∷ es) s there h x =
    let o = edit_on m x.0 e s there h x.1 in
    let r = edits_here x.0 n es o.seat o.there o.undoable x.2 in
    record {
      seat = r.seat;
      there = r.there;
      undoable = r.undoable;
      edits = o.acts ∷ r.edits;
      long = ap suc r.long;
      is = and_then_is (edited s.chain o.acts) (λ d. edited_all d r.edits) o.seat.chain o.is ∙ r.is;
      short = (omega (arith, back_few s.chain.state o.acts, o.few), λ d q. subst (λ z. AreShort z r.edits) (same_Some (sym o.is ∙ q)) r.short);
    }

record IsUndoneTo (s : SeatOf) (n : MachineOf) (k : ℕ) : Type 0 where
  seat : SeatOf
  there : seat_at n.seats n.current ≡ Some seat
  undoable : IsUndoable seat
  is : undone_times k s.chain ≡ Some seat.chain

undos_here : (m n : MachineOf) (i : ℕ) (s : SeatOf) → seat_at m.seats m.current ≡ Some s → IsUndoable s → AreUndos m i n → IsUndoneTo s n i
undos_here m n zero s there h x = record { seat = s; there = ap (λ (z : MachineOf). seat_at z.seats z.current) x ∙ there; undoable = h; is = refl }
undos_here m n (suc i) s there h x =
    let b = undos_here m x.0 i s there h x.1 in
    let l = undo_line x.0 n x.2 in
    let told : l.told ≡ saying (undo_seat b.seat) = l.is ∙ ap (λ z. saying (undo_seat z)) (same_Some (sym l.there ∙ b.there)) in
    let silent : (undo_seat b.seat).1 ≡ said.Nothing = sym (ap (λ (z : Told). z.1.said) told) ∙ l.silent in
    let t = (undo_seat b.seat).0 in
    record {
      seat = (submit_seat t).0;
      there = l.after ∙ ap (λ (z : Told). Some (submit_seat z.0).0) told;
      undoable = submit_undoable t (undo_undoable b.seat b.undoable);
      is = ap (option_and_then undone) b.is ∙ undo_here b.seat b.undoable silent ∙ ap Some (sym (submit_chain t));
    }

-- ---- the law

pub here_undoable : (m : MachineOf) (s : SeatOf) → AreUndoable m → seat_at m.seats m.current ≡ Some s → IsUndoable s
here_undoable m s h e = by m.current e
  where
    by : (o : Option ℕ) → seat_at m.seats o ≡ Some s → IsUndoable s
    by None q = no_value q
    by (Some i) q = all_at IsUndoable m.seats i s q h

screen_is : (m : MachineOf) (s : SeatOf) → seat_at m.seats m.current ≡ Some s → IsUndoable s → screen_here m ≡ Some s.chain.state
screen_is m s e h = ap (option_map (λ (z : SeatOf). shown z.follower)) e ∙ ap Some (sym (shown_is s.follower s.chain.state h.followed.shows))

led_back : (m n k : MachineOf) (es : List Edit) (s : SeatOf) → seat_at m.seats m.current ≡ Some s → IsUndoable s → length es ≤ max_entries → AreEdits m es n → AreUndos n (length es) k → screen_here k ≡ screen_here m
led_back m n k es s there h few edits undos =
    let a = edits_here m n es s there h edits in
    let b = undos_here n k (length es) a.seat a.there a.undoable undos in
    let back = undos_take_back s.chain a.seat.chain a.edits (screen_whole s.follower s.chain.state h.followed.whole h.followed.shows) h.few (subst (λ z. z ≤ max_entries) (sym a.long) few) a.short a.is in
    let chain : b.seat.chain ≡ record { state = s.chain.state; entries = take (max_entries - length a.edits) s.chain.entries } = same_Some (sym b.is ∙ ap (λ z. undone_times z a.seat.chain) (sym a.long) ∙ back) in
    screen_is k b.seat b.there b.undoable ∙ ap (λ (c : ChainOf). Some c.state) chain ∙ sym (screen_is m s there h)

pub undos_lead_back : UndosLeadBack
undos_lead_back m n k [] h few edits undos = ap screen_here (undos ∙ edits)
undos_lead_back m n k (e ∷ es) h few edits undos =
    let l = edit_line m edits.0 e edits.1 in
    led_back m n k (e ∷ es) l.seat l.there (here_undoable m l.seat h l.there) few edits undos
