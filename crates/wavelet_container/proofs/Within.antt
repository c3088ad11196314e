-- Where no count is too large, the transform with the bound on counts gives what the one without it gives.
--     step_within        two acts
--     one_within         one later act through earlier ones
--     grid_within        lists
--     CanCross           two lists that are valid at one state, with room for all that they insert
--     crossed, no_refusal      so their transform is given, and not refused
use Rattle.std.proofs.Common.{◌≡◌, ℕ, suc, ◌+◌, ◌≤◌, Bool, true, false, cond, not, ◌||◌, nat_le, List, [], ◌∷◌, Some, Result, Ok, Err, refl, sym, ap, ◌∙◌, arith}
use Rattle.std.specs.Option.{ok_or}
use Rattle.std.proofs.lemmas.Bool.Decides.{nat_tests}
use Rattle.doc_items.specs.Limits.{max_count}
use Rattle.doc_items.specs.Maps.{Key, same_text}
use Rattle.doc_op.specs.Actions.{Action}
use Rattle.doc_op.specs.Lengths.{input_len, inserted_len}
use Rattle.op_transform.specs.Results.{together}
use Rattle.wavelet_op.specs.Acts.{Act, Idle, Adds, Removes, Sets, Mutates, inserted_act, inserted}
use Rattle.wavelet_op.specs.Grids.{and_next, earlier_front, later_front, at_index, pass_one, grid_by, grid, bounded_grid}
use Rattle.wavelet_op.specs.Results.{Refuses}
use Rattle.wavelet_op.specs.States.{State, document_of, with_document, mutate, apply_act, run}
use Rattle.wavelet_op.specs.Transform.{Both, TooLarge, Clash, act_transform, is_within, exact, bounded}
use Rattle.wavelet_op.specs.declared.fault.WaveletFault.{WaveletFault}
use Rattle.wavelet_op.specs.declared.fault.WaveletFault.TheVariants.{OpInvalid, CountTooLarge, Conflict, DontFit, Memory}
use Rattle.wavelet_op.proofs.Grids.{square_one, delta_square}
use Rattle.wavelet_op.proofs.Partial.{and_then_some, ok_some}
use Rattle.wavelet_op.proofs.Squares.{act_square}
use Rattle.wavelet_container.specs.Passing.{AreSmall, CanCross}
use Rattle.wavelet_container.proofs.Sizes.{mutated, act_sized}

-- ---- two acts

true_le : (a b : ℕ) → a ≤ b → nat_le a b ≡ true
true_le a b h = grind (arith, nat_tests)

or_true : (b c : Bool) → (b ≡ true → c ≡ true) → (not b || c) ≡ true
or_true true c h = h refl
or_true false c h = refl

input_small : (s u : State) (d : Key) (x : List Action) (n : ℕ) → AreSmall s n → apply_act s (Mutates d x) ≡ Some u → input_len x ≤ n
unfolding apply_act
input_small s u d x n small e =
    let v = and_then_some (mutate x (document_of s d)) (λ items. Some (with_document s d items)) u e in
    let m = mutated x (document_of s d) v.0 v.1 in
    let k = small d in
    omega (arith, m.input, k)

mutations_within : (s t u : State) (d c : Key) (x y : List Action) (n : ℕ) → AreSmall s n → apply_act s (Mutates c y) ≡ Some t → apply_act s (Mutates d x) ≡ Some u → n + (inserted_len x + inserted_len y) ≤ max_count → is_within (Mutates d x) (Mutates c y) ≡ true
unfolding is_within
mutations_within s t u d c x y n small p q room =
    let a = input_small s u d x n small q in
    let b = input_small s t c y n small p in
    or_true (same_text d c) (nat_le (together x y) max_count) (λ same. true_le (together x y) max_count (omega (arith, a, b, room)))

is_wide : (s t u : State) (l e : Act) (n : ℕ) → AreSmall s n → apply_act s e ≡ Some t → apply_act s l ≡ Some u → n + (inserted_act l + inserted_act e) ≤ max_count → is_within l e ≡ true
unfolding is_within inserted_act
is_wide s t u Idle e n small p q room = refl
is_wide s t u (Adds a) e n small p q room = refl
is_wide s t u (Removes a) e n small p q room = refl
is_wide s t u (Sets a old new) e n small p q room = refl
is_wide s t u (Mutates d x) Idle n small p q room = refl
is_wide s t u (Mutates d x) (Adds a) n small p q room = refl
is_wide s t u (Mutates d x) (Removes a) n small p q room = refl
is_wide s t u (Mutates d x) (Sets a old new) n small p q room = refl
is_wide s t u (Mutates d x) (Mutates c y) n small p q room = mutations_within s t u d c x y n small p q room

pub step_within : (s t u : State) (l e : Act) (n : ℕ) → AreSmall s n → apply_act s e ≡ Some t → apply_act s l ≡ Some u → n + (inserted_act l + inserted_act e) ≤ max_count → bounded l e ≡ exact l e
unfolding bounded
step_within s t u l e n small p q room = ap (λ b. cond b (exact l e) (Err TooLarge)) (is_wide s t u l e n small p q room)

-- ---- lists

is_exact : (l e : Act) (p : Both) → act_transform l e ≡ Some p → exact l e ≡ Ok p
unfolding exact
is_exact l e p h = ap (λ o. ok_or o Clash) h

pub one_within : (s t u : State) (l : Act) (es : List Act) (n : ℕ) → AreSmall s n → run s es ≡ Some t → apply_act s l ≡ Some u → n + (inserted_act l + inserted es) ≤ max_count → pass_one bounded l es ≡ pass_one exact l es
one_within s t u l [] n small p q room = refl
one_within s t u l (e ∷ es) n small p q room =
    let m = and_then_some (apply_act s e) (λ x. run x es) t p in
    let sq = act_square s m.0 u l e m.1 q in
    let step : bounded l e ≡ exact l e = step_within s m.0 u l e n small m.1 q (omega (arith, room)) in
    let is : exact l e ≡ Ok (sq.later', sq.earlier') = is_exact l e (sq.later', sq.earlier') sq.defined in
    let rest = one_within m.0 t sq.end sq.later' es (n + inserted_act e) (act_sized s m.0 e n small m.1) m.2 sq.later_goes (let k = sq.later_small in omega (arith, k, room)) in
    ap (and_next (λ p. earlier_front p.1 (pass_one bounded p.0 es))) (step ∙ is) ∙ ap (earlier_front sq.earlier') rest ∙ sym (ap (and_next (λ p. earlier_front p.1 (pass_one exact p.0 es))) is)

pub grid_within : (s t u : State) (k : ℕ) (ls es : List Act) (n : ℕ) → AreSmall s n → run s es ≡ Some t → run s ls ≡ Some u → n + (inserted ls + inserted es) ≤ max_count → grid_by bounded k ls es ≡ grid_by exact k ls es
grid_within s t u k [] es n small p q room = refl
grid_within s t u k (l ∷ ls) es n small p q room =
    let m = and_then_some (apply_act s l) (λ x. run x ls) u q in
    let one = square_one s l es t m.0 p m.1 in
    let step : pass_one bounded l es ≡ pass_one exact l es = one_within s t m.0 l es n small p m.1 (omega (arith, room)) in
    let rest = grid_within m.0 one.end u (suc k) ls one.earlier (n + inserted_act l) (act_sized s m.0 l n small m.1) one.earlier_goes m.2 (let w = one.earlier_small in omega (arith, w, room)) in
    ap (λ r. and_next (λ p. later_front p.0 (grid_by bounded (suc k) ls p.1)) (at_index k r)) (step ∙ one.defined) ∙ ap (later_front one.later) rest ∙ sym (ap (λ r. and_next (λ p. later_front p.0 (grid_by exact (suc k) ls p.1)) (at_index k r)) one.defined)

-- ---- lists that are valid at one state

pub record IsCrossed (acts earlier : List Act) : Type 0 where
  pub later' : List Act
  pub earlier' : List Act
  pub end : State
  pub defined : grid acts earlier ≡ Some (later', earlier')
  pub is : bounded_grid acts earlier ≡ Ok (later', earlier')

pub crossed : (acts earlier : List Act) → CanCross acts earlier → IsCrossed acts earlier
crossed acts earlier c =
    let g = delta_square c.state c.after_earlier c.after acts earlier c.earlier_goes c.goes in
    let w = grid_within c.state c.after_earlier c.after 0 acts earlier c.items c.small c.earlier_goes c.goes c.room in
    record { later' = g.later'; earlier' = g.earlier'; end = g.end; defined = g.defined; is = w ∙ ok_some (grid_by exact 0 acts earlier) (g.later', g.earlier') g.defined }

ok_err : {A E : Type 0} {C : Type 0} (r : Result A E) (x : A) (e : E) → r ≡ Ok x → r ≡ Err e → C
ok_err r x e p q = absurd (cc)

pub no_refusal : (acts earlier : List Act) (f : WaveletFault) → CanCross acts earlier → Refuses (bounded_grid acts earlier) f → f ≡ Memory
no_refusal acts earlier (OpInvalid k) c r = absurd r
no_refusal acts earlier CountTooLarge c r = let w = crossed acts earlier c in ok_err (bounded_grid acts earlier) (w.later', w.earlier') (r.0, TooLarge) w.is r.1
no_refusal acts earlier (Conflict k) c r = let w = crossed acts earlier c in ok_err (bounded_grid acts earlier) (w.later', w.earlier') (k, Clash) w.is r
no_refusal acts earlier (DontFit place) c r = absurd r
no_refusal acts earlier Memory c r = refl
