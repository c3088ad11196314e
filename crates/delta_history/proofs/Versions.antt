-- A version names one point of a legal history, and two versions one pass.
--     cut_at, point_is          the point that is found at a version
--     IsCut, cut_is, point_there    what is found, the history leads through
--     pass_is                   the pass
--     begins                    the beginning of a history
use Rattle.std.proofs.Common.{◌≡◌, ℕ, ◌<◌, ◌≤◌, Bool, true, false, cond, ◌==◌, List, [], ◌∷◌, ◌++◌, Some, None, refl, sym, ap, subst, ◌∙◌, arith, option_and_then}
use Rattle.std.specs.Option.{option_map}
use Rattle.std.proofs.lemmas.Bool.Decides.{nat_tests, Decides-eqb}
use Rattle.doc_op.proofs.Applying.{same_Some, mapped, passed}
use Rattle.wave_base.specs.Versions.{VersionAt}
use Rattle.wavelet_op.specs.Acts.{Act}
use Rattle.wavelet_op.specs.Deltas.{DeltaOf}
use Rattle.wavelet_op.specs.Grids.{grid, pass}
use Rattle.wavelet_op.proofs.Partial.{and_then_some}
use Rattle.delta_history.specs.Points.{Point, start, acts_of, next_point, replay, cut, point_at}
use Rattle.delta_history.specs.Passing.{all_acts, pass_to, pass_between}
use Rattle.delta_history.specs.Legal.{IsLegalFrom, IsLegal}
use Rattle.delta_history.specs.Laws.{PointIs, PointThere, PassIs, Begins}
use Rattle.delta_history.proofs.Points.{and_then_is, after_point, replay_more, rises}
use Rattle.delta_history.proofs.Chains.{legal_front, legal_after, some_ops, at_longer}

eq_false : (a b : ℕ) → a < b → (a == b) ≡ false
eq_false a b h = grind (arith, nat_tests)

eq_true : (a b : ℕ) → a ≡ b → (a == b) ≡ true
eq_true a b e = (Decides-eqb a b).1 e

true_eq : (a b : ℕ) → (a == b) ≡ true → a ≡ b
true_eq a b e = (Decides-eqb a b).0 e

-- a part that isn't empty leads to a higher version
climbs : (name : List ℕ) (b ds : List DeltaOf) (d : DeltaOf) (p q : Point) → IsLegalFrom name b (d ∷ ds) → replay (start name) b ≡ Some p → replay p (d ∷ ds) ≡ Some q → p.at.version < q.at.version
climbs name b ds d p q l e r =
    let m = and_then_some (next_point p d) (λ z. replay z ds) q r in
    let a = after_point p m.0 d m.1 in
    let u : m.0.at.version ≤ q.at.version = rises m.0 q ds m.2 in
    let some = some_ops name b d l.0 in
    omega (arith, a.version, u, some)

-- ---- points

cut_here : (p : Point) (ds : List DeltaOf) → cut p p.at.version ds ≡ Some (p, ds)
cut_here p [] = ap (λ b. cond b (Some (p, [])) None) (eq_true p.at.version p.at.version refl)
cut_here p (d ∷ ds) = ap (λ b. cond b (Some (p, d ∷ ds)) (option_and_then (λ q. cut q p.at.version ds) (next_point p d))) (eq_true p.at.version p.at.version refl)

pub cut_at : (name : List ℕ) (b xs ys : List DeltaOf) (p q : Point) → IsLegalFrom name b (xs ++ ys) → replay (start name) b ≡ Some p → replay p xs ≡ Some q → cut p q.at.version (xs ++ ys) ≡ Some (q, ys)
cut_at name b [] ys p q l e r = subst (λ (z : Point). cut p z.at.version ys ≡ Some (z, ys)) (same_Some r) (cut_here p ys)
cut_at name b (d ∷ xs) ys p q l e r =
    let front = legal_front name b (d ∷ xs) ys l in
    let up = eq_false _ _ (climbs name b xs d p q front e r) in
    let m = and_then_some (next_point p d) (λ z. replay z xs) q r in
    ap (λ t. cond t (Some (p, d ∷ (xs ++ ys))) (option_and_then (λ z. cut z q.at.version (xs ++ ys)) (next_point p d))) up
    ∙ and_then_is (next_point p d) (λ z. cut z q.at.version (xs ++ ys)) m.0 m.1
    ∙ cut_at name (b ++ d ∷ []) xs ys m.0 q l.1 (replay_more (start name) p m.0 b d e m.1) m.2

-- the deltas of a history in two parts, the first of which leads to p
pub cut_whole : (name : List ℕ) (ds before behind : List DeltaOf) (p : Point) → IsLegal name ds → before ++ behind ≡ ds → replay (start name) before ≡ Some p → cut (start name) p.at.version ds ≡ Some (p, behind)
cut_whole name ds before behind p l w e = subst (λ z. cut (start name) p.at.version z ≡ Some (p, behind)) w (cut_at name [] before behind (start name) p (subst (λ z. IsLegalFrom name [] z) (sym w) l) refl e)

pub point_is : PointIs
point_is name ds p l a = ap (option_map (λ c. c.0)) (cut_whole name ds a.before a.behind p l a.whole a.leads)

pub record IsCut (p : Point) (v : ℕ) (ds : List DeltaOf) (b : Point) (rest : List DeltaOf) : Type 0 where
  pub before : List DeltaOf
  pub whole : before ++ rest ≡ ds
  pub leads : replay p before ≡ Some b
  pub version : b.at.version ≡ v

pub cut_is : (p : Point) (v : ℕ) (ds : List DeltaOf) (b : Point) (rest : List DeltaOf) → cut p v ds ≡ Some (b, rest) → IsCut p v ds b rest
cut_is p v [] b rest e =
    let c = passed (p.at.version == v) (Some (p, [])) (b, rest) e in
    let s : (p, []) ≡ (b, rest) = same_Some c.rest in
    record {
      before = [];
      whole = sym (ap (λ (z : Point × List DeltaOf). z.1) s);
      leads = ap (λ (z : Point × List DeltaOf). Some z.0) s;
      version = sym (ap (λ (z : Point × List DeltaOf). z.0.at.version) s) ∙ true_eq _ _ c.test;
    }
cut_is p v (d ∷ ds) b rest e = go (λ q f. cut_is q v ds b rest f) (p.at.version == v) refl e
  where
    go : ((q : Point) → cut q v ds ≡ Some (b, rest) → IsCut q v ds b rest) → (t : Bool) → (p.at.version == v) ≡ t → cond t (Some (p, d ∷ ds)) (option_and_then (λ q. cut q v ds) (next_point p d)) ≡ Some (b, rest) → IsCut p v (d ∷ ds) b rest
    go again true h c =
        let s : (p, d ∷ ds) ≡ (b, rest) = same_Some c in
        record {
          before = [];
          whole = sym (ap (λ (z : Point × List DeltaOf). z.1) s);
          leads = ap (λ (z : Point × List DeltaOf). Some z.0) s;
          version = sym (ap (λ (z : Point × List DeltaOf). z.0.at.version) s) ∙ true_eq _ _ h;
        }
    go again false h c =
        let m = and_then_some (next_point p d) (λ q. cut q v ds) (b, rest) c in
        let f = again m.0 m.2 in
        record {
          before = d ∷ f.before;
          whole = ap (λ z. d ∷ z) f.whole;
          leads = and_then_is (next_point p d) (λ q. replay q f.before) m.0 m.1 ∙ f.leads;
          version = f.version;
        }

pub point_there : PointThere
point_there name ds v p e =
    let m = mapped (λ (c : Point × List DeltaOf). c.0) (cut (start name) v ds) p e in
    let c = cut_is (start name) v ds m.value.0 m.value.1 m.had in
    (record { before = c.before; behind = m.value.1; whole = c.whole; leads = c.leads ∙ ap Some m.gives }, ap (λ (z : Point). z.at.version) (sym m.gives) ∙ c.version)

-- ---- passes

pass_here : (p : Point) (acts : List Act) (ds : List DeltaOf) → pass_to p p.at.version acts ds ≡ Some acts
pass_here p acts [] = ap (λ b. cond b (Some acts) None) (eq_true p.at.version p.at.version refl)
pass_here p acts (d ∷ ds) = ap (λ b. cond b (Some acts) (option_and_then (λ q. option_and_then (λ g. pass_to q p.at.version g.0 ds) (grid acts (acts_of d))) (next_point p d))) (eq_true p.at.version p.at.version refl)

pass_to_is : (name : List ℕ) (b xs ys : List DeltaOf) (p q : Point) (acts acts' : List Act) → IsLegalFrom name b (xs ++ ys) → replay (start name) b ≡ Some p → replay p xs ≡ Some q → pass acts (all_acts xs) ≡ Some acts' → pass_to p q.at.version acts (xs ++ ys) ≡ Some acts'
pass_to_is name b [] ys p q acts acts' l e r s = subst (λ (z : Point). pass_to p z.at.version acts ys ≡ Some acts') (same_Some r) (pass_here p acts ys ∙ s)
pass_to_is name b (d ∷ xs) ys p q acts acts' l e r s =
    let front = legal_front name b (d ∷ xs) ys l in
    let up = eq_false _ _ (climbs name b xs d p q front e r) in
    let m = and_then_some (next_point p d) (λ z. replay z xs) q r in
    let g = and_then_some (grid acts (acts_of d)) (λ z. pass z.0 (all_acts xs)) acts' s in
    ap (λ t. cond t (Some acts) (option_and_then (λ z. option_and_then (λ y. pass_to z q.at.version y.0 (xs ++ ys)) (grid acts (acts_of d))) (next_point p d))) up
    ∙ and_then_is (next_point p d) (λ z. option_and_then (λ y. pass_to z q.at.version y.0 (xs ++ ys)) (grid acts (acts_of d))) m.0 m.1
    ∙ and_then_is (grid acts (acts_of d)) (λ y. pass_to m.0 q.at.version y.0 (xs ++ ys)) g.0 g.1
    ∙ pass_to_is name (b ++ d ∷ []) xs ys m.0 q g.0.0 acts' l.1 (replay_more (start name) p m.0 b d e m.1) m.2 g.2

pub pass_is : PassIs
pass_is name ds b e acts acts' l x =
    let l' = subst (λ z. IsLegalFrom name [] z) (sym x.whole) l in
    let c = cut_whole name ds x.before (x.between ++ x.behind) x.base l x.whole x.is_base in
    let t = pass_to_is name x.before x.between x.behind x.base x.end acts acts' (legal_after name [] x.before (x.between ++ x.behind) l') x.is_base x.is_end x.passed in
    subst (λ (z : VersionAt). pass_between name ds z.version e.version acts ≡ Some acts') x.at_base
    (and_then_is (cut (start name) x.base.at.version ds) (λ y. pass_to y.0 e.version acts y.1) (x.base, x.between ++ x.behind) c
    ∙ subst (λ (z : VersionAt). pass_to x.base z.version acts (x.between ++ x.behind) ≡ Some acts') x.at_end t)

-- ---- beginnings

pub begins : Begins
begins name before behind l = record {
  legal = legal_front name [] before behind l;
  points = λ v p e.
      let x = point_there name before v p e in
      subst (λ z. point_at name (before ++ behind) z ≡ Some p) x.1 (point_is name (before ++ behind) p l (at_longer name before behind p x.0));
}
