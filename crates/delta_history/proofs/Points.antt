-- Points, one after the other.
--     IsBehind p q d, after_point    what is known of the point after a delta
--     replay_append, replay_more      deltas in a row
--     rises                           versions only rise
--     run_some, run_front             the states alone, of the whole and of its front
--     IsThrough acts ds q, pass_through   acts that are valid at a point pass through the deltas after it, and are valid there
use Rattle.std.proofs.Common.{◌≡◌, ℕ, zero, suc, ◌+◌, ◌≤◌, List, [], ◌∷◌, ◌++◌, length, take, Option, Some, refl, sym, ap, subst, ◌∙◌, arith, le_refl, option_and_then}
use Rattle.doc_op.proofs.Applying.{same_Some, mapped}
use Rattle.wavelet_op.specs.Acts.{Act, inserted}
use Rattle.wavelet_op.specs.Deltas.{DeltaOf}
use Rattle.wavelet_op.specs.Grids.{grid, pass}
use Rattle.wavelet_op.specs.States.{State, run}
use Rattle.wavelet_op.proofs.Grids.{delta_square}
use Rattle.wavelet_op.proofs.Partial.{and_then_some, and_then_same, and_then_twice}
use Rattle.delta_history.specs.Points.{Point, acts_of, point_behind, next_point, replay, run_all}
use Rattle.delta_history.specs.Passing.{all_acts}

pub and_then_is : {A B : Type 0} (m : Option A) (f : A → Option B) (x : A) → m ≡ Some x → option_and_then f m ≡ f x
and_then_is m f x e = ap (option_and_then f) e

pub record IsBehind (p q : Point) (d : DeltaOf) : Type 0 where
  pub state : State
  pub goes : run p.state (acts_of d) ≡ Some state
  pub is : q ≡ point_behind p d state
  pub same : q.state ≡ state
  pub version : q.at.version ≡ p.at.version + length d.ops
  pub count : q.count ≡ p.count + inserted (acts_of d)

pub after_point : (p q : Point) (d : DeltaOf) → next_point p d ≡ Some q → IsBehind p q d
after_point p q d e =
    let m = mapped (point_behind p d) (run p.state (acts_of d)) q e in
    let is : q ≡ point_behind p d m.value = sym m.gives in
    record {
      state = m.value;
      goes = m.had;
      is = is;
      same = ap (λ (x : Point). x.state) is;
      version = ap (λ (x : Point). x.at.version) is;
      count = ap (λ (x : Point). x.count) is;
    }

pub replay_append : (p : Point) (xs ys : List DeltaOf) → replay p (xs ++ ys) ≡ option_and_then (λ q. replay q ys) (replay p xs)
replay_append p [] ys = refl
replay_append p (x ∷ xs) ys = and_then_same (next_point p x) (λ q. replay q (xs ++ ys)) (λ q. option_and_then (λ r. replay r ys) (replay q xs)) (λ q. replay_append q xs ys) ∙ sym (and_then_twice (next_point p x) (λ q. replay q xs) (λ r. replay r ys))

pub replay_more : (p q r : Point) (xs : List DeltaOf) (d : DeltaOf) → replay p xs ≡ Some q → next_point q d ≡ Some r → replay p (xs ++ d ∷ []) ≡ Some r
replay_more p q r xs d e n = replay_append p xs (d ∷ []) ∙ and_then_is (replay p xs) (λ z. replay z (d ∷ [])) q e ∙ and_then_is (next_point q d) (λ z. Some z) r n

pub rises : (p q : Point) (xs : List DeltaOf) → replay p xs ≡ Some q → p.at.version ≤ q.at.version
rises p q [] e = subst (λ (z : Point). p.at.version ≤ z.at.version) (same_Some e) (le_refl _)
rises p q (x ∷ xs) e =
    let m = and_then_some (next_point p x) (λ z. replay z xs) q e in
    let a = after_point p m.0 x m.1 in
    let h : m.0.at.version ≤ q.at.version = rises m.0 q xs m.2 in
    omega (arith, a.version)

pub run_some : (p q : Point) (xs : List DeltaOf) → replay p xs ≡ Some q → run_all p.state xs ≡ Some q.state
run_some p q [] e = ap (λ (z : Point). Some z.state) (same_Some e)
run_some p q (x ∷ xs) e =
    let m = and_then_some (next_point p x) (λ z. replay z xs) q e in
    let a = after_point p m.0 x m.1 in
    and_then_is (run p.state (acts_of x)) (λ s. run_all s xs) a.state a.goes ∙ ap (λ s. run_all s xs) (sym a.same) ∙ run_some m.0 q xs m.2

pub run_front : (s t : State) (n : ℕ) (xs : List DeltaOf) → run_all s xs ≡ Some t → (u : State) × (run_all s (take n xs) ≡ Some u)
run_front s t zero xs e = (s, refl)
run_front s t (suc n) [] e = (s, refl)
run_front s t (suc n) (x ∷ xs) e =
    let m = and_then_some (run s (acts_of x)) (λ z. run_all z xs) t e in
    let r = run_front m.0 t n xs m.2 in
    (r.0, and_then_is (run s (acts_of x)) (λ z. run_all z (take n xs)) m.0 m.1 ∙ r.1)

-- ---- acts on their way

pub record IsThrough (acts : List Act) (ds : List DeltaOf) (q : Point) : Type 0 where
  pub acts' : List Act
  pub end : State
  pub defined : pass acts (all_acts ds) ≡ Some acts'
  pub goes : run q.state acts' ≡ Some end
  pub small : inserted acts' ≤ inserted acts
  pub long : length acts' ≡ length acts

pub pass_through : (p q : Point) (acts : List Act) (ds : List DeltaOf) (x : State) → run p.state acts ≡ Some x → replay p ds ≡ Some q → IsThrough acts ds q
pass_through p q acts [] x v r = record {
  acts' = acts;
  end = x;
  defined = refl;
  goes = subst (λ (z : Point). run z.state acts ≡ Some x) (same_Some r) v;
  small = le_refl _;
  long = refl;
}
pass_through p q acts (d ∷ ds) x v r =
    let m = and_then_some (next_point p d) (λ z. replay z ds) q r in
    let step = after_point p m.0 d m.1 in
    let g = delta_square p.state step.state x acts (acts_of d) step.goes v in
    let goes : run m.0.state g.later' ≡ Some g.end = subst (λ z. run z g.later' ≡ Some g.end) (sym step.same) g.later_goes in
    let rest = pass_through m.0 q g.later' ds g.end goes m.2 in
    record {
      acts' = rest.acts';
      end = rest.end;
      defined = and_then_is (grid acts (acts_of d)) (λ z. pass z.0 (all_acts ds)) (g.later', g.earlier') g.defined ∙ rest.defined;
      goes = rest.goes;
      small = omega (arith, rest.small, g.later_small);
      long = rest.long ∙ g.later_long;
    }
