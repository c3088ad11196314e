-- Why the entries can't pass a change.
--     pass_bounded, grid_bounded    with the bound on counts there is the same result as without it, or too many items
--     crowded                       entries that are valid in turn and can't pass are over too many items
--     crowded_is                    and then there is no pass
--     change_is_taken, crowd_is_refused, change_has_room     the laws
use Rattle.std.proofs.Common.{◌≡◌, ◌⊎◌, inl, inr, ℕ, suc, Bool, true, false, cond, List, [], ◌∷◌, Option, None, Some, Result, Ok, Err, refl, sym, ap, ◌∙◌, option_and_then}
use Rattle.std.specs.Option.{option_map}
use Rattle.std.specs.Result.{result_ok}
use Rattle.doc_op.proofs.Applying.{no_value}
use Rattle.wavelet_op.specs.Acts.{Act}
use Rattle.wavelet_op.specs.Grids.{Lists, and_next, earlier_front, later_front, at_index, pass_one, grid_by}
use Rattle.wavelet_op.specs.States.{State, run}
use Rattle.wavelet_op.specs.Transform.{Both, Refusal, TooLarge, is_within, exact, bounded}
use Rattle.wavelet_op.proofs.Grids.{delta_square}
use Rattle.wavelet_op.proofs.Partial.{and_then_some, next_ok, ok_some}
use Rattle.delta_history.proofs.Points.{and_then_is}
use Rattle.follower_rules.specs.Followers.{run_all}
use Rattle.follower_rules.specs.Receiving.{past, rebase}
use Rattle.follower_rules.proofs.Rebases.{rebase_room}
use Rattle.undo_control.specs.Chains.{ChainOf, changed, IsCrowded}
use Rattle.undo_control.specs.Laws.{ChangeIsTaken, CrowdIsRefused, ChangeHasRoom}
use Rattle.undo_control.proofs.Keeping.{some_value}

-- ---- the bound on counts

bounded_or : (b : Bool) (r : Result Both Refusal) (p : Both) → r ≡ Ok p → (cond b r (Err TooLarge) ≡ Ok p) ⊎ (cond b r (Err TooLarge) ≡ Err TooLarge)
bounded_or true r p e = inl e
bounded_or false r p e = inr refl

step_bounded : (l e : Act) (p : Both) → exact l e ≡ Ok p → (bounded l e ≡ Ok p) ⊎ (bounded l e ≡ Err TooLarge)
unfolding bounded
step_bounded l e p h = bounded_or (is_within l e) (exact l e) p h

front_is : (e : Act) (r : Result (Act × List Act) Refusal) (p : Act × List Act) → earlier_front e r ≡ Ok p → (q : Act × List Act) × (r ≡ Ok q) × (earlier_front {E = Refusal} e (Ok q) ≡ Ok p)
front_is e (Ok q) p h = (q, refl, h)
front_is e (Err k) p h = absurd (cc)

later_is : (l : Act) (r : Result Lists (ℕ × Refusal)) (p : Lists) → later_front l r ≡ Ok p → (q : Lists) × (r ≡ Ok q) × (later_front {E = ℕ × Refusal} l (Ok q) ≡ Ok p)
later_is l (Ok q) p h = (q, refl, h)
later_is l (Err k) p h = absurd (cc)

index_is : (k : ℕ) (r : Result (Act × List Act) Refusal) (x : Act × List Act) → at_index k r ≡ Ok x → r ≡ Ok x
index_is k (Ok y) x h = cc
index_is k (Err j) x h = absurd (cc)

-- one act more
abbrev IsPassedOr : Act → List Act → Act × List Act → Type 0
IsPassedOr l es p = (pass_one bounded l es ≡ Ok p) ⊎ (pass_one bounded l es ≡ Err TooLarge)

pass_next : (l e : Act) (es : List Act) (x : Both) (y p : Act × List Act) → earlier_front {E = Refusal} x.1 (Ok y) ≡ Ok p → (bounded l e ≡ Ok x) ⊎ (bounded l e ≡ Err TooLarge) → IsPassedOr x.0 es y → IsPassedOr l (e ∷ es) p
pass_next l e es x y p h (inr b) r = inr (ap (and_next (λ p. earlier_front p.1 (pass_one bounded p.0 es))) b)
pass_next l e es x y p h (inl b) (inl r) = inl (ap (and_next (λ p. earlier_front p.1 (pass_one bounded p.0 es))) b ∙ ap (earlier_front x.1) r ∙ h)
pass_next l e es x y p h (inl b) (inr r) = inr (ap (and_next (λ p. earlier_front p.1 (pass_one bounded p.0 es))) b ∙ ap (earlier_front x.1) r)

pass_bounded : (l : Act) (es : List Act) (p : Act × List Act) → pass_one exact l es ≡ Ok p → IsPassedOr l es p
pass_bounded l [] p h = inl h
pass_bounded l (e ∷ es) p h =
    let x = next_ok (λ p. earlier_front p.1 (pass_one exact p.0 es)) (exact l e) p h in
    let y = front_is x.0.1 (pass_one exact x.0.0 es) p x.2 in
    pass_next l e es x.0 y.0 p y.2 (step_bounded l e x.0 x.1) (pass_bounded x.0.0 es y.0 y.1)

abbrev IsGridOr : ℕ → List Act → List Act → Lists → Type 0
IsGridOr k ls es p = (grid_by bounded k ls es ≡ Ok p) ⊎ ((j : ℕ) × (grid_by bounded k ls es ≡ Err (j, TooLarge)))

grid_next : (k : ℕ) (l : Act) (ls es : List Act) (x : Act × List Act) (y p : Lists) → later_front {E = ℕ × Refusal} x.0 (Ok y) ≡ Ok p → IsPassedOr l es x → IsGridOr (suc k) ls x.1 y → IsGridOr k (l ∷ ls) es p
grid_next k l ls es x y p h (inr b) r = inr (k, ap (λ r. and_next (λ p. later_front p.0 (grid_by bounded (suc k) ls p.1)) (at_index k r)) b)
grid_next k l ls es x y p h (inl b) (inl r) = inl (ap (λ r. and_next (λ p. later_front p.0 (grid_by bounded (suc k) ls p.1)) (at_index k r)) b ∙ ap (later_front x.0) r ∙ h)
grid_next k l ls es x y p h (inl b) (inr r) = inr (r.0, ap (λ r. and_next (λ p. later_front p.0 (grid_by bounded (suc k) ls p.1)) (at_index k r)) b ∙ ap (later_front x.0) r.1)

grid_bounded : (k : ℕ) (ls es : List Act) (p : Lists) → grid_by exact k ls es ≡ Ok p → IsGridOr k ls es p
grid_bounded k [] es p h = inl h
grid_bounded k (l ∷ ls) es p h =
    let x = next_ok (λ p. later_front p.0 (grid_by exact (suc k) ls p.1)) (at_index k (pass_one exact l es)) p h in
    let y = later_is x.0.0 (grid_by exact (suc k) ls x.0.1) p x.2 in
    grid_next k l ls es x.0 y.0 p y.2 (pass_bounded l es x.0 (index_is k (pass_one exact l es) x.0 x.1)) (grid_bounded (suc k) ls x.0.1 y.0 y.1)

-- ---- entries

mapped_none : {A B : Type 0} (f : A → B) (o : Option A) → option_map f o ≡ None → o ≡ None
mapped_none f None e = refl
mapped_none f (Some x) e = no_value (sym e)

-- the other entries
abbrev Rebasing : Type 0
Rebasing = Option (List (List Act) × List Act)

abbrev rest_after : List (List Act) → Lists → Rebasing
rest_after rest p = option_map (λ (more : List (List Act) × List Act). (p.0 ∷ more.0, more.1)) (rebase rest p.1)

crowded_next : (entry acts : List Act) (rest : List (List Act)) (p : Lists) → IsGridOr 0 entry acts p → rebase (entry ∷ rest) acts ≡ None → (rebase rest p.1 ≡ None → IsCrowded rest p.1) → IsCrowded (entry ∷ rest) acts
crowded_next entry acts rest p (inr x) e f = inl x
crowded_next entry acts rest p (inl b) e f =
    let is : past entry acts ≡ Some p = ap result_ok b in
    inr (p, is, f (mapped_none (λ (more : List (List Act) × List Act). (p.0 ∷ more.0, more.1)) (rebase rest p.1) (sym (and_then_is (past entry acts) (rest_after rest) p is) ∙ e)))

pub crowded : (s t u : State) (entries : List (List Act)) (acts : List Act) → run s acts ≡ Some t → run_all s entries ≡ Some u → rebase entries acts ≡ None → IsCrowded entries acts
crowded s t u [] acts r q e = no_value (sym e)
crowded s t u (entry ∷ rest) acts r q e =
    let m = and_then_some (run s entry) (λ x. run_all x rest) u q in
    let g = delta_square s t m.0 entry acts r m.1 in
    let p : Lists = (g.later', g.earlier') in
    crowded_next entry acts rest p (grid_bounded 0 entry acts p (ok_some (grid_by exact 0 entry acts) p g.defined)) e (crowded m.0 g.end u rest g.earlier' g.earlier_goes m.2)

pub crowded_is : (entries : List (List Act)) (acts : List Act) → IsCrowded entries acts → rebase entries acts ≡ None
crowded_is [] acts h = absurd h
crowded_is (entry ∷ rest) acts (inl x) = ap (λ r. option_and_then (rest_after rest) (result_ok r)) x.1
crowded_is (entry ∷ rest) acts (inr x) = and_then_is (past entry acts) (rest_after rest) x.0 x.1 ∙ ap (option_map (λ (more : List (List Act) × List Act). (x.0.0 ∷ more.0, more.1))) (crowded_is rest x.0.1 x.2)

-- ---- the laws

abbrev after : State → Rebasing → Option ChainOf
after t o = option_map (λ p. record { state = t; entries = p.0 }) o

changed_is : (c : ChainOf) (acts : List Act) (t : State) → run c.state acts ≡ Some t → changed c acts ≡ after t (rebase c.entries acts)
changed_is c acts t e = and_then_is (run c.state acts) (λ t. after t (rebase c.entries acts)) t e

pub change_is_taken : ChangeIsTaken
change_is_taken c acts t k e = go (rebase c.entries acts) refl
  where
    go : (o : Rebasing) → rebase c.entries acts ≡ o → ((d : ChainOf) × (changed c acts ≡ Some d)) ⊎ IsCrowded c.entries acts
    go (Some p) h = inl (record { state = t; entries = p.0 }, changed_is c acts t e ∙ ap (after t) h)
    go None h = let u = some_value (run_all c.state c.entries) k in inr (crowded c.state t u.0 c.entries acts e u.1 h)

pub crowd_is_refused : CrowdIsRefused
crowd_is_refused c acts h = go (run c.state acts)
  where
    go : (o : Option State) → option_and_then (λ t. after t (rebase c.entries acts)) o ≡ None
    go None = refl
    go (Some t) = ap (after t) (crowded_is c.entries acts h)

pub change_has_room : ChangeHasRoom
change_has_room n c acts t small room k e =
    let u = some_value (run_all c.state c.entries) k in
    let r = rebase_room n c.state c.entries acts t u.0 small room e u.1 in
    (record { state = t; entries = r.later }, changed_is c acts t e ∙ ap (after t) r.defined)
