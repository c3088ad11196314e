-- Each call keeps a follower sound.
--     same_ok, no_ok        results
--     new_is_sound, edit_is_sound, refusal_is_sound, snapshot_is_sound
--     edited_is             what an edit makes of a follower
use Rattle.std.proofs.Common.{◌≡◌, ℕ, ◌+◌, ◌≤◌, Bool, true, false, nat_le, nat_lt, List, [], ◌∷◌, ◌++◌, length, Option, None, Some, Result, Ok, Err, refl, sym, ap, subst, ◌∙◌, arith, append_assoc, option_and_then, unwrap_or}
use Rattle.std.specs.Result.{result_ok}
use Rattle.std.proofs.lemmas.Bool.Decides.{nat_tests}
use Rattle.std.specs.FinMap.{get-empty}
use Rattle.std.specs.Ordering.{nat_cmp}
use Rattle.std.specs.Cmp.Lexicographic.{slice_cmp}
use Rattle.doc_op.proofs.Applying.{no_value, same_Some}
use Rattle.wave_base.specs.Versions.{same_id}
use Rattle.wavelet_op.specs.Acts.{Act, inserted}
use Rattle.wavelet_op.specs.States.{State, empty_state, document_of, run}
use Rattle.wavelet_op.proofs.Partial.{and_then_same}
use Rattle.wavelet_state.specs.Snapshots.{max_inserted}
use Rattle.delta_history.proofs.Points.{and_then_is}
use Rattle.follower_rules.specs.Followers.{Flight, FollowerOf, run_all, inserted_all, flying, pending, screen, dropped, refuse_if, refuse_flight, take_newer, take_settled}
use Rattle.follower_rules.specs.Submitting.{is_short, queued, edit_short, edit_held, edit_run, edit_shown, edit}
use Rattle.follower_rules.specs.Laws.{IsSmall, IsSound, NewIsSound, EditIsSound, RefusalIsSound, SnapshotIsSound}
use Rattle.follower_rules.proofs.Rebases.{run_all_append, inserted_all_append}

pub same_ok : {A E : Type 0} {x y : A} → ◌≡◌ {A = Result A E} (Ok x) (Ok y) → x ≡ y
same_ok e = same_Some (ap result_ok e)

pub no_ok : {A E C : Type 0} {x : A} {k : E} → ◌≡◌ {A = Result A E} (Err k) (Ok x) → C
no_ok e = no_value (ap result_ok e)

pub some_again : {A : Type 0} (o : Option A) → option_and_then (λ t. Some t) o ≡ o
some_again None = refl
some_again (Some x) = refl

pub le_true : (a b : ℕ) → nat_le a b ≡ true → a ≤ b
le_true a b h = grind (arith, nat_tests)

-- ---- a new follower

pub empty_is_small : IsSmall 0 empty_state
empty_is_small d =
    let e : length (document_of empty_state d) ≡ 0 = ap (λ o. length (unwrap_or o [])) (get-empty (slice_cmp nat_cmp) d) in
    omega (arith, e)

pub new_is_sound : NewIsSound
new_is_sound name k = record { place = record { count = omega arith; small = empty_is_small }; shown = empty_state; is_shown = refl; held = omega arith }

-- ---- an edit

pub edit_is_sound : EditIsSound
edit_is_sound f g acts s e = ran (run s.shown acts) refl (sym (ap (edit_shown max_inserted f acts) s.is_shown) ∙ e)
  where
    longer : pending (queued f acts) ≡ pending f ++ acts ∷ []
    longer = sym (append_assoc (flying f.flight) f.queue (acts ∷ []))

    moves : screen (queued f acts) ≡ option_and_then (λ z. run z acts) (screen f)
    moves = ap (run_all f.here.state) longer ∙ run_all_append f.here.state (pending f) (acts ∷ []) ∙ and_then_same (screen f) (λ z. run_all z (acts ∷ [])) (λ z. run z acts) (λ z. some_again (run z acts))

    done : (t : State) → run s.shown acts ≡ Some t → inserted_all (pending f) + inserted acts ≤ max_inserted → IsSound (queued f acts)
    done t r held =
        let shows = moves ∙ and_then_is (screen f) (λ z. run z acts) s.shown s.is_shown ∙ r in
        let sum = inserted_all_append (pending f) (acts ∷ []) in
        let all : inserted_all (pending f ++ acts ∷ []) ≤ max_inserted = omega (arith, sum, held) in
        record { place = s.place; shown = t; is_shown = shows; held = subst (λ z. inserted_all z ≤ max_inserted) (sym longer) all }

    short : (t : State) → run s.shown acts ≡ Some t → inserted_all (pending f) + inserted acts ≤ max_inserted → (b : Bool) → edit_short f acts b ≡ Ok g → IsSound g × (screen g ≡ option_and_then (λ z. run z acts) (screen f))
    short t r held false q = no_ok q
    short t r held true q = subst (λ z. IsSound z × (screen z ≡ option_and_then (λ y. run y acts) (screen f))) (same_ok q) (done t r held, moves)

    counted : (t : State) → run s.shown acts ≡ Some t → (b : Bool) → nat_le (inserted_all (pending f) + inserted acts) max_inserted ≡ b → edit_held f acts b ≡ Ok g → IsSound g × (screen g ≡ option_and_then (λ z. run z acts) (screen f))
    counted t r false h q = no_ok q
    counted t r true h q = short t r (le_true _ _ h) (is_short acts) q

    ran : (o : Option State) → run s.shown acts ≡ o → edit_run max_inserted f acts s.shown o ≡ Ok g → IsSound g × (screen g ≡ option_and_then (λ z. run z acts) (screen f))
    ran None r q = no_ok q
    ran (Some t) r q = counted t r (nat_le (inserted_all (pending f) + inserted acts) max_inserted) refl q

pub edited_is : (f g : FollowerOf) (acts : List Act) → edit f acts ≡ Ok g → queued f acts ≡ g
edited_is f g acts e = shown (screen f) e
  where
    short : (b : Bool) → edit_short f acts b ≡ Ok g → queued f acts ≡ g
    short false q = no_ok q
    short true q = same_ok q

    held : (b : Bool) → edit_held f acts b ≡ Ok g → queued f acts ≡ g
    held false q = no_ok q
    held true q = short (is_short acts) q

    ran : (s : State) (o : Option State) → edit_run max_inserted f acts s o ≡ Ok g → queued f acts ≡ g
    ran s None q = no_ok q
    ran s (Some t) q = held (nat_le (inserted_all (pending f) + inserted acts) max_inserted) q

    shown : (o : Option State) → edit_shown max_inserted f acts o ≡ Ok g → queued f acts ≡ g
    shown None q = no_ok q
    shown (Some s) q = ran s (run s acts) q

-- ---- what is dropped, and snapshots

pub dropped_is_sound : (f : FollowerOf) → IsSound f → IsSound (dropped f)
dropped_is_sound f s = record { place = s.place; shown = f.here.state; is_shown = refl; held = omega arith }

pub refusal_is_sound : RefusalIsSound
refusal_is_sound f i s = (go f.flight, dropped_is_sound f s)
  where
    decided : (b : Bool) → IsSound (refuse_if f b).1
    decided false = s
    decided true = dropped_is_sound f s

    go : (m : Option Flight) → IsSound (refuse_flight f i m).1
    go None = s
    go (Some g) = decided (same_id i g.sent.id)

pub snapshot_is_sound : SnapshotIsSound
snapshot_is_sound f p s h = go (pending f) refl
  where
    newer : pending f ≡ [] → (b : Bool) → IsSound (take_newer f p b).1
    newer e false = s
    newer e true = record { place = h; shown = p.state; is_shown = ap (run_all p.state) e; held = subst (λ z. inserted_all z ≤ max_inserted) (sym e) (omega arith) }

    go : (es : List (List Act)) → pending f ≡ es → IsSound (take_settled f p es).1
    go (x ∷ xs) e = s
    go [] e = newer e (nat_lt f.here.at.version p.at.version)
