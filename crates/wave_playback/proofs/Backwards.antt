-- The law of playing backwards.
use Rattle.std.proofs.Common.{◌≡◌, List, [], ◌∷◌, ◌++◌, Option, Some, refl, sym, ap, subst, ◌∙◌, option_and_then, unwrap_or}
use Rattle.std.specs.Cmp.Lexicographic.{slice_cmp}
use Rattle.std.specs.FinMap.{get-empty}
use Rattle.std.specs.Option.{option_map_or}
use Rattle.std.specs.Ordering.{nat_cmp}
use Rattle.doc_items.specs.Balance.{Balanced}
use Rattle.doc_items.specs.declared.item.Item.{Item}
use Rattle.doc_op.proofs.Applying.{same_Some}
use Rattle.wavelet_op.specs.Acts.{Act}
use Rattle.wavelet_op.specs.Deltas.{DeltaOf}
use Rattle.wavelet_op.specs.Laws.{IsWhole}
use Rattle.wavelet_op.specs.States.{State, empty_state, kept, run}
use Rattle.wavelet_op.proofs.Partial.{and_then_some, and_then_same, and_then_twice}
use Rattle.wavelet_op.proofs.Wholes.{states_hold}
use Rattle.wavelet_state.specs.Inverses.{inverse_acts}
use Rattle.wavelet_state.proofs.Inverses.{acts_back_law}
use Rattle.delta_history.specs.Points.{Point, start, acts_of, next_point, replay, end_of}
use Rattle.delta_history.proofs.Finding.{legal_end}
use Rattle.delta_history.proofs.Points.{after_point, replay_append}
use Rattle.wave_playback.specs.Laws.{inverses, run_each, LeadBack}

each_append : (s : State) (xs ys : List (List Act)) → run_each s (xs ++ ys) ≡ option_and_then (λ t. run_each t ys) (run_each s xs)
each_append s [] ys = refl
each_append s (x ∷ xs) ys = and_then_same (run s x) (λ t. run_each t (xs ++ ys)) (λ t. option_and_then (λ u. run_each u ys) (run_each t xs)) (λ t. each_append t xs ys) ∙ sym (and_then_twice (run s x) (λ t. run_each t xs) (λ u. run_each u ys))

-- ---- the states are whole

start_whole : IsWhole empty_state
start_whole = record {
  balanced = λ d. subst (λ (o : Option (List Item)). Balanced (unwrap_or o [])) (sym (get-empty (slice_cmp nat_cmp) d)) refl;
  some_items = λ d. subst (λ (o : Option (List Item)). o ≡ kept (unwrap_or o [])) (sym (get-empty (slice_cmp nat_cmp) d)) refl;
}

whole_behind : (p q : Point) (ds : List DeltaOf) → IsWhole p.state → replay p ds ≡ Some q → IsWhole q.state
whole_behind p q [] w e = subst (λ (z : Point). IsWhole z.state) (same_Some e) w
whole_behind p q (d ∷ ds) w e =
    let m = and_then_some (next_point p d) (λ z. replay z ds) q e in
    let a = after_point p m.0 d m.1 in
    whole_behind m.0 q ds (subst IsWhole (sym a.same) (states_hold p.state a.state (acts_of d) w a.goes)) m.2

-- ---- from a point to the one before

led_back : (p q : Point) (ds : List DeltaOf) → IsWhole p.state → replay p ds ≡ Some q → run_each q.state (inverses p.state ds) ≡ Some p.state
led_back p q [] w e = ap (λ (z : Point). Some z.state) (sym (same_Some e))
led_back p q (d ∷ ds) w e =
    let m = and_then_some (next_point p d) (λ z. replay z ds) q e in
    let a = after_point p m.0 d m.1 in
    let goes : run p.state (acts_of d) ≡ Some m.0.state = a.goes ∙ ap (λ s. Some s) (sym a.same) in
    let whole = states_hold p.state m.0.state (acts_of d) w goes in
    let rest = led_back m.0 q ds whole m.2 in
    let one = acts_back_law p.state m.0.state (acts_of d) w goes in
    let last : run_each m.0.state (inverse_acts p.state (acts_of d) ∷ []) ≡ Some p.state = ap (option_and_then (λ t. Some t)) one in
    ap (λ o. run_each q.state (option_map_or (λ t. inverses t ds) o [] ++ inverse_acts p.state (acts_of d) ∷ [])) goes
    ∙ each_append q.state (inverses m.0.state ds) (inverse_acts p.state (acts_of d) ∷ [])
    ∙ ap (option_and_then (λ t. run_each t (inverse_acts p.state (acts_of d) ∷ []))) rest
    ∙ last

pub lead_back : LeadBack
lead_back name before behind p l e =
    let end : replay (start name) (before ++ behind) ≡ Some (end_of name (before ++ behind)) = legal_end name (before ++ behind) l in
    let rest : replay p behind ≡ Some (end_of name (before ++ behind)) = sym (ap (option_and_then (λ q. replay q behind)) e) ∙ sym (replay_append (start name) before behind) ∙ end in
    led_back p (end_of name (before ++ behind)) behind (whole_behind (start name) p before start_whole e) rest
