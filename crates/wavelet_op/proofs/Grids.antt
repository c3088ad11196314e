-- The square of lists of acts, over the grid.
--     square_one          one later act over earlier ones
--     delta_square        two lists
--     run_append, inserted_append, pass_appends      lists in a row
--     grid_refines        what a stricter step gives, a looser one gives
--     bounded_is_exact
use Rattle.std.proofs.Common.{◌≡◌, ℕ, suc, ◌+◌, ◌≤◌, Bool, true, false, cond, List, [], ◌∷◌, ◌++◌, length, Some, Result, Ok, Err, refl, sym, ap, subst, ◌∙◌, arith, le_refl, option_and_then}
use Rattle.std.specs.Option.{ok_or}
use Rattle.std.specs.Result.{result_ok}
use Rattle.doc_op.proofs.Applying.{same_Some}
use Rattle.wavelet_op.specs.Acts.{Act, inserted_act, inserted}
use Rattle.wavelet_op.specs.States.{State, apply_act, run}
use Rattle.wavelet_op.specs.Transform.{Both, Refusal, Clash, TooLarge, act_transform, is_within, exact, bounded}
use Rattle.wavelet_op.specs.Grids.{and_next, earlier_front, later_front, at_index, pass_one, grid_by, grid, pass}
use Rattle.wavelet_op.specs.Laws.{DeltaSquare, BoundedIsExact, PassAppends}
use Rattle.wavelet_op.proofs.Partial.{and_then_some, and_then_same, and_then_twice, next_ok}
use Rattle.wavelet_op.proofs.Squares.{act_square}

pub run_append : (s : State) (xs ys : List Act) → run s (xs ++ ys) ≡ option_and_then (λ t. run t ys) (run s xs)
run_append s [] ys = refl
run_append s (x ∷ xs) ys = and_then_same (apply_act s x) (λ t. run t (xs ++ ys)) (λ t. option_and_then (λ r. run r ys) (run t xs)) (λ t. run_append t xs ys) ∙ sym (and_then_twice (apply_act s x) (λ t. run t xs) (λ r. run r ys))

pub inserted_append : (xs ys : List Act) → inserted (xs ++ ys) ≡ inserted xs + inserted ys
inserted_append [] ys = omega arith
inserted_append (x ∷ xs) ys = omega (arith, inserted_append xs ys)

pub pass_appends : PassAppends
pass_appends acts [] ys = refl
pass_appends acts (x ∷ xs) ys = and_then_same (grid acts x) (λ p. pass p.0 (xs ++ ys)) (λ p. option_and_then (λ o. pass o ys) (pass p.0 xs)) (λ p. pass_appends p.0 xs ys) ∙ sym (and_then_twice (grid acts x) (λ p. pass p.0 xs) (λ o. pass o ys))

-- ---- the square

exactly : (l e : Act) (p : Both) → act_transform l e ≡ Some p → exact l e ≡ Ok p
unfolding exact
exactly l e p h = ap (λ o. ok_or o Clash) h

pub record IsOne (l : Act) (es : List Act) (t u : State) : Type 0 where
  pub later : Act
  pub earlier : List Act
  pub end : State
  pub defined : pass_one exact l es ≡ Ok (later, earlier)
  pub later_goes : apply_act t later ≡ Some end
  pub earlier_goes : run u earlier ≡ Some end
  pub later_small : inserted_act later ≤ inserted_act l
  pub earlier_small : inserted earlier ≤ inserted es
  pub earlier_long : length earlier ≡ length es

pub square_one : (s : State) (l : Act) (es : List Act) (t u : State) → run s es ≡ Some t → apply_act s l ≡ Some u → IsOne l es t u
square_one s l [] t u p q = record {
  later = l;
  earlier = [];
  end = u;
  defined = refl;
  later_goes = subst (λ x. apply_act x l ≡ Some u) (same_Some p) q;
  earlier_goes = refl;
  later_small = le_refl _;
  earlier_small = le_refl _;
  earlier_long = refl;
}
square_one s l (e ∷ es) t u p q =
    let m = and_then_some (apply_act s e) (λ x. run x es) t p in
    let sq = act_square s m.0 u l e m.1 q in
    let rest = square_one m.0 sq.later' es t sq.end m.2 sq.later_goes in
    record {
      later = rest.later;
      earlier = sq.earlier' ∷ rest.earlier;
      end = rest.end;
      defined = ap (and_next (λ p. earlier_front p.1 (pass_one exact p.0 es))) (exactly l e (sq.later', sq.earlier') sq.defined) ∙ ap (earlier_front sq.earlier') rest.defined;
      later_goes = rest.later_goes;
      earlier_goes = ap (option_and_then (λ x. run x rest.earlier)) sq.earlier_goes ∙ rest.earlier_goes;
      later_small = omega (arith, sq.later_small, rest.later_small);
      earlier_small = omega (arith, sq.earlier_small, rest.earlier_small);
      earlier_long = ap suc rest.earlier_long;
    }

pub record IsGridBy (k : ℕ) (ls es : List Act) (t u : State) : Type 0 where
  pub later : List Act
  pub earlier : List Act
  pub end : State
  pub defined : grid_by exact k ls es ≡ Ok (later, earlier)
  pub later_goes : run t later ≡ Some end
  pub earlier_goes : run u earlier ≡ Some end
  pub later_small : inserted later ≤ inserted ls
  pub earlier_small : inserted earlier ≤ inserted es
  pub later_long : length later ≡ length ls
  pub earlier_long : length earlier ≡ length es

lists : (s : State) (k : ℕ) (ls es : List Act) (t u : State) → run s es ≡ Some t → run s ls ≡ Some u → IsGridBy k ls es t u
lists s k [] es t u p q = record {
  later = [];
  earlier = es;
  end = t;
  defined = refl;
  later_goes = refl;
  earlier_goes = subst (λ x. run x es ≡ Some t) (same_Some q) p;
  later_small = le_refl _;
  earlier_small = le_refl _;
  later_long = refl;
  earlier_long = refl;
}
lists s k (l ∷ ls) es t u p q =
    let m = and_then_some (apply_act s l) (λ x. run x ls) u q in
    let one = square_one s l es t m.0 p m.1 in
    let rest = lists m.0 (suc k) ls one.earlier one.end u one.earlier_goes m.2 in
    record {
      later = one.later ∷ rest.later;
      earlier = rest.earlier;
      end = rest.end;
      defined = ap (λ r. and_next (λ p. later_front p.0 (grid_by exact (suc k) ls p.1)) (at_index k r)) one.defined ∙ ap (later_front one.later) rest.defined;
      later_goes = ap (option_and_then (λ x. run x rest.later)) one.later_goes ∙ rest.later_goes;
      earlier_goes = rest.earlier_goes;
      later_small = omega (arith, one.later_small, rest.later_small);
      earlier_small = omega (arith, one.earlier_small, rest.earlier_small);
      later_long = ap suc rest.later_long;
      earlier_long = rest.earlier_long ∙ one.earlier_long;
    }

pub delta_square : DeltaSquare
delta_square s t u ls es p q =
    let x = lists s 0 ls es t u p q in
    record { later' = x.later; earlier' = x.earlier; end = x.end; defined = ap result_ok x.defined; later_goes = x.later_goes; earlier_goes = x.earlier_goes; later_small = x.later_small; earlier_small = x.earlier_small; later_long = x.later_long; earlier_long = x.earlier_long }

-- ---- a step that refuses more

module _ {A E : Type 0} (f g : A → A → Result (A × A) E) (h : (l e : A) (p : A × A) → f l e ≡ Ok p → g l e ≡ Ok p) where
  front_ok : (e : A) (r q : Result (A × List A) E) (p : A × List A) → earlier_front e r ≡ Ok p → ((x : A × List A) → r ≡ Ok x → q ≡ Ok x) → earlier_front e q ≡ Ok p
  front_ok e (Ok x) q p is rest = ap (earlier_front e) (rest x refl) ∙ is
  front_ok e (Err k) q p is rest = absurd (cc)

  later_ok : {F : Type 0} (l : A) (r q : Result (List A × List A) F) (p : List A × List A) → later_front l r ≡ Ok p → ((x : List A × List A) → r ≡ Ok x → q ≡ Ok x) → later_front l q ≡ Ok p
  later_ok l (Ok x) q p is rest = ap (later_front l) (rest x refl) ∙ is
  later_ok l (Err k) q p is rest = absurd (cc)

  index_ok : {B : Type 0} (k : ℕ) (r : Result B E) (x : B) → at_index k r ≡ Ok x → r ≡ Ok x
  index_ok k (Ok y) x e = cc
  index_ok k (Err j) x e = absurd (cc)

  pass_refines : (l : A) (es : List A) (p : A × List A) → pass_one f l es ≡ Ok p → pass_one g l es ≡ Ok p
  pass_refines l [] p is = is
  pass_refines l (e ∷ es) p is =
      let x = next_ok (λ p. earlier_front p.1 (pass_one f p.0 es)) (f l e) p is in
      ap (and_next (λ p. earlier_front p.1 (pass_one g p.0 es))) (h l e x.0 x.1) ∙ front_ok (x.0).1 (pass_one f (x.0).0 es) (pass_one g (x.0).0 es) p x.2 (pass_refines (x.0).0 es)

  pub grid_refines : (k : ℕ) (ls es : List A) (p : List A × List A) → grid_by f k ls es ≡ Ok p → grid_by g k ls es ≡ Ok p
  grid_refines k [] es p is = is
  grid_refines k (l ∷ ls) es p is =
      let x = next_ok (λ p. later_front p.0 (grid_by f (suc k) ls p.1)) (at_index k (pass_one f l es)) p is in
      let one = pass_refines l es x.0 (index_ok k (pass_one f l es) x.0 x.1) in
      ap (λ r. and_next (λ p. later_front p.0 (grid_by g (suc k) ls p.1)) (at_index k r)) one ∙ later_ok (x.0).0 (grid_by f (suc k) ls (x.0).1) (grid_by g (suc k) ls (x.0).1) p x.2 (grid_refines (suc k) ls (x.0).1)

within : (b : Bool) (r : Result Both Refusal) (p : Both) → cond b r (Err TooLarge) ≡ Ok p → r ≡ Ok p
within true r p e = e
within false r p e = absurd (cc)

bounded_step : (l e : Act) (p : Both) → bounded l e ≡ Ok p → exact l e ≡ Ok p
unfolding bounded
bounded_step l e p h = within (is_within l e) (exact l e) p h

pub bounded_is_exact : BoundedIsExact
bounded_is_exact ls es p h = ap result_ok (grid_refines bounded exact bounded_step 0 ls es p h)
