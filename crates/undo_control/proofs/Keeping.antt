-- The entries stay valid in turn at the state.
--     some_value               a value that is there
--     take_few                 at most so many of a list
--     take_turn                the first entries are valid in turn too
--     kept_turn                with one entry more in front, or with none
--     light_next               an entry past a change inserts no more
--     IsPastTo, rebase_goes    past a change
--     rebase_long              and as many
--     edit_keeps, change_keeps, undo_keeps     after each step
use Rattle.std.proofs.Common.{◌≡◌, ◌≤◌, ℕ, zero, suc, Bool, true, false, cond, List, [], ◌∷◌, length, take, refl, sym, ap, subst, ◌∙◌, arith, le_refl, Option, None, Some, IsSome, is_some, true≢false, nat_le, option_and_then}
use Rattle.std.specs.List.{All}
use Rattle.std.specs.Option.{option_map}
use Rattle.std.proofs.lemmas.List.Elements.{All-cons}
use Rattle.doc_op.proofs.Applying.{no_value, same_Some, mapped}
use Rattle.wavelet_op.specs.Acts.{Act, inserted}
use Rattle.wavelet_op.specs.Grids.{Lists, bounded_grid}
use Rattle.wavelet_op.specs.States.{State, run}
use Rattle.wavelet_op.proofs.Grids.{delta_square, bounded_is_exact}
use Rattle.wavelet_op.proofs.Partial.{and_then_some, ok_some}
use Rattle.wavelet_op.proofs.Passes.{split_first}
use Rattle.wavelet_state.specs.Inverses.{inverse_acts}
use Rattle.wavelet_state.proofs.Inverses.{acts_back_law}
use Rattle.delta_history.proofs.Points.{and_then_is}
use Rattle.follower_rules.specs.Followers.{run_all}
use Rattle.follower_rules.specs.Receiving.{past, rebase}
use Rattle.undo_control.specs.Chains.{max_entries, ChainOf, with_entry, undone_by, IsInTurn}
use Rattle.undo_control.specs.Laws.{EditKeeps, ChangeKeeps, UndoKeeps}

pub some_value : {X : Type 0} (o : Option X) → IsSome o → (x : X) × (o ≡ Some x)
some_value None h = absurd (true≢false (sym h))
some_value (Some x) h = (x, refl)

-- ---- an edit

module _ {X : Type 0} where
  pub take_few : (n : ℕ) (xs : List X) → length (take n xs) ≤ n
  take_few zero xs = omega arith
  take_few (suc n) [] = omega arith
  take_few (suc n) (x ∷ xs) = omega (arith, take_few n xs)

pub take_turn : (n : ℕ) (s : State) (entries : List (List Act)) → IsSome (run_all s entries) → IsSome (run_all s (take n entries))
take_turn zero s entries h = refl
take_turn (suc n) s [] h = refl
take_turn (suc n) s (entry ∷ rest) h = go (run s entry) (λ t. take_turn n t rest) h
  where
    go : (o : Option State) → ((t : State) → IsSome (run_all t rest) → IsSome (run_all t (take n rest))) → IsSome (option_and_then (λ t. run_all t rest) o) → IsSome (option_and_then (λ t. run_all t (take n rest)) o)
    go None f k = k
    go (Some t) f k = f t k

pub kept_turn : (s t : State) (back : List Act) (entries : List (List Act)) (b : Bool) → run t back ≡ Some s → IsSome (run_all s entries) → IsSome (run_all t (cond b (take max_entries (back ∷ entries)) []))
kept_turn s t back entries false e h = refl
kept_turn s t back entries true e h = subst (λ (o : Option State). IsSome (option_and_then (λ u. run_all u (take 99 entries)) o)) (sym e) (take_turn 99 s entries h)

pub edit_keeps : EditKeeps
edit_keeps c d acts w k e =
    let x = mapped (λ t. record { state = t; entries = with_entry (inverse_acts c.state acts) c.entries }) (run c.state acts) d e in
    let back = inverse_acts c.state acts in
    subst IsInTurn x.gives (kept_turn c.state x.value back c.entries (nat_le (length back) 1000) (acts_back_law c.state x.value acts w x.had) k)

-- ---- a change

light_next : (n : ℕ) (entry past : List Act) (rest later : List (List Act)) → inserted past ≤ inserted entry → All (λ e. inserted e ≤ n) (entry ∷ rest) → (All (λ e. inserted e ≤ n) rest → All (λ e. inserted e ≤ n) later) → All (λ e. inserted e ≤ n) (past ∷ later)
light_next n entry past rest later small h f =
    let x = split_first (λ e. inserted e ≤ n) entry rest h in
    All-cons (λ e. inserted e ≤ n) past later (omega (arith, small, x.0)) (f x.1)

-- the entries past a change are valid in turn after it, and none of them inserts more than before; nor does what is left of the change
abbrev pub IsPastTo : State → State → List (List Act) → List Act → List (List Act) × List Act → Type 0
IsPastTo t u entries acts p = (end : State) × (run_all t p.0 ≡ Some end) × (run u p.1 ≡ Some end) × ((m : ℕ) → All (λ e. inserted e ≤ m) entries → All (λ e. inserted e ≤ m) p.0) × (inserted p.1 ≤ inserted acts)

pub rebase_goes : (s t u : State) (entries : List (List Act)) (acts : List Act) (p : List (List Act) × List Act) → run s acts ≡ Some t → run_all s entries ≡ Some u → rebase entries acts ≡ Some p → IsPastTo t u entries acts p
rebase_goes s t u [] acts p r q e = subst (IsPastTo t u [] acts) (same_Some e) (t, refl, subst (λ x. run x acts ≡ Some t) (same_Some q) r, (λ m h. h), le_refl _)
rebase_goes s t u (entry ∷ rest) acts p r q e =
    let m = and_then_some (run s entry) (λ x. run_all x rest) u q in
    let x = and_then_some (past entry acts) (λ z. option_map (λ more. (z.0 ∷ more.0, more.1)) (rebase rest z.1)) p e in
    let y = mapped (λ (more : List (List Act) × List Act). (x.0.0 ∷ more.0, more.1)) (rebase rest x.0.1) p x.2 in
    let g = delta_square s t m.0 entry acts r m.1 in
    let same : (g.later', g.earlier') ≡ x.0 = same_Some (sym g.defined ∙ bounded_is_exact entry acts x.0 (ok_some (bounded_grid entry acts) x.0 x.1)) in
    let later = subst (λ (z : Lists). run t z.0 ≡ Some g.end) same g.later_goes in
    let earlier = subst (λ (z : Lists). run m.0 z.1 ≡ Some g.end) same g.earlier_goes in
    let small = subst (λ (z : Lists). inserted z.0 ≤ inserted entry) same g.later_small in
    let less = subst (λ (z : Lists). inserted z.1 ≤ inserted acts) same g.earlier_small in
    let more = rebase_goes m.0 g.end u rest x.0.1 y.value earlier m.2 y.had in
    let kept : inserted y.value.1 ≤ inserted acts = omega (arith, less, more.4) in
    subst (IsPastTo t u (entry ∷ rest) acts) y.gives
    (more.0, and_then_is (run t x.0.0) (λ z. run_all z y.value.0) g.end later ∙ more.1, more.2, (λ n h. light_next n entry x.0.0 rest y.value.0 small h (more.3 n)), kept)

pub rebase_long : (entries : List (List Act)) (acts : List Act) (p : List (List Act) × List Act) → rebase entries acts ≡ Some p → length p.0 ≡ length entries
rebase_long [] acts p e = ap (λ (z : List (List Act) × List Act). length z.0) (sym (same_Some e))
rebase_long (entry ∷ rest) acts p e =
    let x = and_then_some (past entry acts) (λ z. option_map (λ more. (z.0 ∷ more.0, more.1)) (rebase rest z.1)) p e in
    let y = mapped (λ (more : List (List Act) × List Act). (x.0.0 ∷ more.0, more.1)) (rebase rest x.0.1) p x.2 in
    ap (λ (z : List (List Act) × List Act). length z.0) (sym y.gives) ∙ ap suc (rebase_long rest x.0.1 y.value y.had)

pub change_keeps : ChangeKeeps
change_keeps c d acts k e =
    let x = and_then_some (run c.state acts) (λ t. option_map (λ p. record { state = t; entries = p.0 }) (rebase c.entries acts)) d e in
    let y = mapped (λ (p : List (List Act) × List Act). record { state = x.0; entries = p.0 }) (rebase c.entries acts) d x.2 in
    let u = some_value (run_all c.state c.entries) k in
    let g = rebase_goes c.state x.0 u.0 c.entries acts y.value x.1 u.1 y.had in
    subst IsInTurn y.gives (ap is_some g.1)

-- ---- an undo

undo_by_keeps : (s : State) (entries : List (List Act)) (d : ChainOf) → IsSome (run_all s entries) → undone_by s entries ≡ Some d → IsInTurn d
undo_by_keeps s [] d k e = no_value e
undo_by_keeps s (back ∷ rest) d k e =
    let x = mapped (λ t. record { state = t; entries = rest }) (run s back) d e in
    subst IsInTurn x.gives (subst (λ (o : Option State). IsSome (option_and_then (λ u. run_all u rest) o)) x.had k)

pub undo_keeps : UndoKeeps
undo_keeps c d k e = undo_by_keeps c.state c.entries d k e
