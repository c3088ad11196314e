-- Operations on their way through deltas, one delta after the other.
--     can_cross        the first delta can be passed
--     goes_on          what comes of it can pass the others
--     passed_one       the way through the first and then through the others
--     past_is          what one delta makes of operations
--     past_none, past_first      the way through no delta, and through a first one and the others
--     spelled          operations in normal form are those of their acts
use Rattle.std.proofs.Common.{◌≡◌, ℕ, ◌⊎◌, inl, inr, ◌+◌, ◌≤◌, ◌<◌, drop, get_or, List, [], ◌∷◌, length, Some, refl, sym, ap, subst, ◌∙◌, arith}
use Rattle.std.specs.List.{AllByRecursion}
use Rattle.std.proofs.lemmas.List.{length-map, drop_more}
use Rattle.std.proofs.lemmas.List.Elements.{recursion_from_All}
use Rattle.doc_op.proofs.Applying.{same_Some}
use Rattle.wavelet_op.specs.Acts.{Act, meaning, meanings, inserted, IsNormal, AreNormal}
use Rattle.wavelet_op.specs.Deltas.{DeltaOf}
use Rattle.wavelet_op.specs.Grids.{grid, pass}
use Rattle.wavelet_op.specs.States.{State, run}
use Rattle.wavelet_op.specs.Results.{IsOpsPair}
use Rattle.wavelet_op.specs.declared.op.WaveletOp.{WaveletOp}
use Rattle.wavelet_op.specs.declared.op.WaveletOp.TheVariants.{NoOp, Add, Remove, Mutate, SetRole}
use Rattle.wavelet_op.specs.declared.pair.OpsPair.{OpsPair}
use Rattle.wavelet_op.proofs.Grids.{delta_square, bounded_is_exact}
use Rattle.wavelet_op.proofs.Partial.{and_then_some}
use Rattle.delta_history.specs.Points.{Point, acts_of, next_point, replay}
use Rattle.delta_history.specs.Passing.{all_acts}
use Rattle.delta_history.specs.Verdicts.{op_of, ops_of}
use Rattle.delta_history.proofs.Points.{and_then_is, after_point}
use Rattle.wavelet_container.specs.Passing.{CanCross, CanPass, IsPast, Passes}
use Rattle.wavelet_container.proofs.Sizes.{next_sized, counts_rise}

record IsFirst (acts : List Act) (d : DeltaOf) (ds : List DeltaOf) (c : CanPass acts (d ∷ ds)) : Type 0 where
  middle : Point
  step : next_point c.base d ≡ Some middle
  rest : replay middle ds ≡ Some c.end
  behind : State
  goes : run c.base.state (acts_of d) ≡ Some behind
  is : middle.state ≡ behind
  count : middle.count ≡ c.base.count + inserted (acts_of d)

first : (acts : List Act) (d : DeltaOf) (ds : List DeltaOf) (c : CanPass acts (d ∷ ds)) → IsFirst acts d ds c
first acts d ds c =
    let m = and_then_some (next_point c.base d) (λ z. replay z ds) c.end c.leads in
    let b = after_point c.base m.0 d m.1 in
    record { middle = m.0; step = m.1; rest = m.2; behind = b.state; goes = b.goes; is = b.same; count = b.count }

pub can_cross : (acts : List Act) (d : DeltaOf) (ds : List DeltaOf) → CanPass acts (d ∷ ds) → CanCross acts (acts_of d)
can_cross acts d ds c =
    let f = first acts d ds c in
    let up : f.middle.count ≤ c.end.count = counts_rise f.middle c.end ds f.rest in
    record { state = c.base.state; items = c.base.count; small = c.small; after = c.after; goes = c.valid; after_earlier = f.behind; earlier_goes = f.goes; room = let r = c.room in let k = f.count in omega (arith, r, k, up) }

pub goes_on : (acts acts' e' : List Act) (d : DeltaOf) (ds : List DeltaOf) → CanPass acts (d ∷ ds) → grid acts (acts_of d) ≡ Some (acts', e') → CanPass acts' ds
goes_on acts acts' e' d ds c is =
    let f = first acts d ds c in
    let g = delta_square c.base.state f.behind c.after acts (acts_of d) f.goes c.valid in
    let same : g.later' ≡ acts' = ap (λ (p : List Act × List Act). p.0) (same_Some (sym g.defined ∙ is)) in
    let valid : run f.middle.state acts' ≡ Some g.end = ap (λ z. run z acts') f.is ∙ ap (run f.behind) (sym same) ∙ g.later_goes in
    let few : inserted acts' ≤ inserted acts = subst (λ z. inserted z ≤ inserted acts) same g.later_small in
    record { base = f.middle; end = c.end; leads = f.rest; after = g.end; valid = valid; small = next_sized c.base f.middle d c.small f.step; room = let r = c.room in omega (arith, r, few) }

pub passed_one : (acts acts' e' : List Act) (d : DeltaOf) (ds : List DeltaOf) → grid acts (acts_of d) ≡ Some (acts', e') → pass acts' (all_acts ds) ≡ pass acts (all_acts (d ∷ ds))
passed_one acts acts' e' d ds is = sym (and_then_is (grid acts (acts_of d)) (λ p. pass p.0 (all_acts ds)) (acts', e') is)

op_spelled : (o : WaveletOp) → IsNormal o → op_of (meaning o) ≡ o
op_spelled NoOp n = refl
op_spelled (Add address) n = refl
op_spelled (Remove address) n = refl
op_spelled (Mutate document op) n = ap (Mutate document) (sym n)
op_spelled (SetRole address old new) n = refl

spelled_by : (ops : List WaveletOp) → AllByRecursion IsNormal ops → ops_of (meanings ops) ≡ ops
spelled_by [] n = refl
spelled_by (o ∷ ops) n = λ i. op_spelled o n.0 i ∷ spelled_by ops n.1 i

pub spelled : (ops : List WaveletOp) → AreNormal ops → ops_of (meanings ops) ≡ ops
spelled ops n = spelled_by ops (recursion_from_All IsNormal ops n)

-- ---- through operations

pub past_is : (ops earlier : List WaveletOp) (p : OpsPair) → IsOpsPair ops earlier p → IsPast ops earlier p.later
past_is ops earlier p h = record { earlier' = meanings p.earlier; is = bounded_is_exact (meanings ops) (meanings earlier) (meanings p.later, meanings p.earlier) h.is; normal = h.later_normal; long = h.later_long }

pub past_none : (ops o : List WaveletOp) → meanings o ≡ meanings ops → AreNormal o → Passes (meanings ops) [] o
past_none ops o same normal = record { is = ap Some (sym same); normal = normal; long = sym (length-map o meaning) ∙ ap length same }

pub rest_can : (ops o : List WaveletOp) (d : DeltaOf) (rest : List DeltaOf) → CanPass (meanings ops) (d ∷ rest) → IsPast ops d.ops o → CanPass (meanings o) rest
rest_can ops o d rest c p = goes_on (meanings ops) (meanings o) p.earlier' d rest c p.is

pub past_first : (ops o os : List WaveletOp) (d : DeltaOf) (rest : List DeltaOf) → IsPast ops d.ops o → Passes (meanings o) rest os → Passes (meanings ops) (d ∷ rest) os
past_first ops o os d rest p r = record {
  is = sym (passed_one (meanings ops) (meanings o) p.earlier' d rest p.is) ∙ r.is;
  normal = r.normal;
  long = r.long ∙ length-map o meaning ∙ p.long ∙ sym (length-map ops meaning);
}

pub at_delta : (since : List DeltaOf) (i : ℕ) (x : DeltaOf) → i < length since → x ≡ get_or since i x → drop i since ≡ x ∷ drop (i + 1) since
at_delta since i x h e = drop_more since i x h ∙ ap (λ z. z ∷ drop (i + 1) since) (sym e)

pub not_none : (acts : List Act) (since rest : List DeltaOf) (x : DeltaOf) → (since ≡ []) ⊎ CanPass acts since → since ≡ x ∷ rest → CanPass acts (x ∷ rest)
not_none acts since rest x (inl none) e = absurd (no_cons (sym none ∙ e))
  where
    no_cons : {y : DeltaOf} {ys : List DeltaOf} → [] ≡ y ∷ ys → ⊥
    no_cons q = cc
not_none acts since rest x (inr can) e = subst (CanPass acts) e can
