-- States that go forward and back with deltas.
--     trail_at           a state at a place
--     trail_grown        more deltas came
--     went_forward       a delta was applied, and what takes it back was kept
--     went_back          a delta was taken back
--     can_go_back        it can be
--     kept_either        what a history keeps beside its deltas stays so when it grows
use Rattle.std.proofs.Common.{◌≡◌, ⊎_elim, ℕ, zero, suc, ◌+◌, ◌<◌, ◌≤◌, List, [], ◌∷◌, ◌++◌, length, take, drop, slice_get, Option, Some, None, IsSome, is_some, true≢false, sym, ap, subst, ◌∙◌, arith, length-append, option_and_then, IfSome, Result, Ok, Err, OnOk, OnErr, append_assoc, append-nil}
use Rattle.std.proofs.lemmas.List.{take-append-le, take-append-drop}
use Rattle.doc_op.proofs.Applying.{no_value, same_Some}
use Rattle.wavelet_op.specs.Acts.{meanings}
use Rattle.wavelet_op.specs.Deltas.{DeltaOf}
use Rattle.wavelet_op.specs.States.{State, empty_state, run}
use Rattle.wavelet_op.specs.declared.op.WaveletOp.{WaveletOp}
use Rattle.delta_history.specs.Points.{run_all}
use Rattle.delta_history.specs.Histories.{HistoryOf, IsGrown, IsSameHistory}
use Rattle.state_cache.specs.States.{state_after, IsBegun}
use Rattle.state_cache.proofs.Runs.{split, stretch_leads, stretch_valid}
use Rattle.wavelet_container.specs.Trails.{LeadsBack, AllLeadBack, IsTrail, IsKeptBack, place_of}
use Rattle.wavelet_container.specs.declared.trail.Trail.{Trail}

after_front : (ds more : List DeltaOf) (n : ℕ) → n ≤ length ds → state_after (ds ++ more) n ≡ state_after ds n
after_front ds more n h = ap (run_all empty_state) (take-append-le n ds more h)

-- ---- more deltas

all_grown : (ds more : List DeltaOf) (n : ℕ) (bs : List (List WaveletOp)) → n + length bs ≤ length ds → AllLeadBack ds n bs → AllLeadBack (ds ++ more) n bs
all_grown ds more n [] h a = tt
all_grown ds more n (b ∷ bs) h a = (
  λ s e. a.0 s (sym (after_front ds more (n + 1) (omega (arith, h))) ∙ e) ∙ sym (after_front ds more n (omega (arith, h))),
  all_grown ds more (n + 1) bs (omega (arith, h)) a.1,
)

pub trail_grown : (ds more : List DeltaOf) (t : Trail) → IsTrail ds t → IsTrail (ds ++ more) t
trail_grown ds more t i = record {
  inside = omega (arith, i.inside, length-append ds more);
  leads = after_front ds more (place_of t) i.inside ∙ i.leads;
  backs = all_grown ds more t.first t.backs.items i.inside i.backs;
}

-- ---- what is kept

all_pushed : (ds : List DeltaOf) (n : ℕ) (bs : List (List WaveletOp)) (b : List WaveletOp) → AllLeadBack ds n bs → LeadsBack ds (n + length bs) b → AllLeadBack ds n (bs ++ b ∷ [])
all_pushed ds n [] b a l = let e : n + 0 ≡ n = omega arith in (subst (λ k. LeadsBack ds k b) e l, tt)
all_pushed ds n (x ∷ bs) b a l = let e : n + length (x ∷ bs) ≡ (n + 1) + length bs = omega arith in (a.0, all_pushed ds (n + 1) bs b a.1 (subst (λ k. LeadsBack ds k b) e l))

all_front : (ds : List DeltaOf) (n : ℕ) (bs : List (List WaveletOp)) (b : List WaveletOp) → AllLeadBack ds n (bs ++ b ∷ []) → AllLeadBack ds n bs
all_front ds n [] b a = tt
all_front ds n (x ∷ bs) b a = (a.0, all_front ds (n + 1) bs b a.1)

all_last : (ds : List DeltaOf) (n : ℕ) (bs : List (List WaveletOp)) (b : List WaveletOp) → AllLeadBack ds n (bs ++ b ∷ []) → LeadsBack ds (n + length bs) b
all_last ds n [] b a = let e : n ≡ n + 0 = omega arith in subst (λ k. LeadsBack ds k b) e a.0
all_last ds n (x ∷ bs) b a = let e : (n + 1) + length bs ≡ n + length (x ∷ bs) = omega arith in subst (λ k. LeadsBack ds k b) e (all_last ds (n + 1) bs b a.1)

-- ---- forward

pub one_at : (ds : List DeltaOf) (n : ℕ) (d : DeltaOf) → slice_get ds n ≡ Some d → take 1 (drop n ds) ≡ d ∷ []
one_at [] n d e = no_value e
one_at (x ∷ ds) zero d e = ap (λ y. y ∷ []) (same_Some e)
one_at (x ∷ ds) (suc n) d e = one_at ds n d e

one_leads : (ds : List DeltaOf) (n : ℕ) (d : DeltaOf) (s t : State) → take 1 (drop n ds) ≡ d ∷ [] → state_after ds n ≡ Some s → run s (meanings d.ops) ≡ Some t → state_after ds (n + 1) ≡ Some t
one_leads ds n d s t one behind goes = stretch_leads ds n 1 s t behind (ap (run_all s) one ∙ ap (option_and_then (λ u. run_all u [])) goes)

pub can_go : (ds : List DeltaOf) (n : ℕ) (d : DeltaOf) (s : State) → IsSome (run_all empty_state ds) → take 1 (drop n ds) ≡ d ∷ [] → state_after ds n ≡ Some s → run s (meanings d.ops) ≡ None → ⊥
can_go ds n d s valid one behind none =
    let some = subst (λ l. IsSome (run_all s l)) one (stretch_valid ds n 1 s valid behind) in
    true≢false (sym some ∙ ap (λ o. is_some (option_and_then (λ u. run_all u []) o)) none)

back_leads : (ds : List DeltaOf) (n : ℕ) (s t : State) (b : List WaveletOp) → state_after ds n ≡ Some s → state_after ds (n + 1) ≡ Some t → run t (meanings b) ≡ Some s → LeadsBack ds n b
back_leads ds n s t b here there back = λ u e. subst (λ v. run v (meanings b) ≡ state_after ds n) (same_Some (sym there ∙ e)) (back ∙ sym here)

pub went_forward : (ds : List DeltaOf) (d : DeltaOf) (t m u : Trail) (b : List WaveletOp) → IsTrail ds t → place_of t < length ds → take 1 (drop (place_of t) ds) ≡ d ∷ [] → run t.state (meanings d.ops) ≡ Some m.state → run m.state (meanings b) ≡ Some t.state
    → m.first ≡ t.first → m.backs ≡ t.backs → u.state ≡ m.state → IsKeptBack (place_of t) b m u → IsTrail ds u × (place_of u ≡ place_of t + 1)
went_forward ds d t m u b i before one goes back first backs state kept =
    let there = one_leads ds (place_of t) d t.state m.state one i.leads goes in
    ⊎_elim
    (λ next.
    let items : u.backs.items ≡ t.backs.items ++ b ∷ [] = next.backs ∙ ap (λ (v : _). v.items ++ b ∷ []) backs in
    let begins : u.first ≡ t.first = next.first ∙ first in
    let long : length u.backs.items ≡ length t.backs.items + 1 = ap length items ∙ length-append t.backs.items (b ∷ []) in
    let place : place_of u ≡ place_of t + 1 = omega (arith, begins, long) in (
      record {
        inside = omega (arith, place, before);
        leads = ap (state_after ds) place ∙ there ∙ ap (λ s. Some s) (sym state);
        backs = subst (λ n. AllLeadBack ds n u.backs.items) (sym begins) (subst (λ l. AllLeadBack ds t.first l) (sym items) (all_pushed ds t.first t.backs.items b i.backs (back_leads ds (place_of t) t.state m.state b i.leads there back)));
      },
      place,
    ))
    (λ barred.
    let long : length u.backs.items ≡ 0 = ap length barred.backs in
    let place : place_of u ≡ place_of t + 1 = let f = barred.first in omega (arith, f, long) in (
      record {
        inside = omega (arith, place, before);
        leads = ap (state_after ds) place ∙ there ∙ ap (λ s. Some s) (sym state);
        backs = subst (AllLeadBack ds u.first) (sym barred.backs) tt;
      },
      place,
    ))
    kept

-- ---- back

last_run : (ds : List DeltaOf) (t : Trail) (bs : List (List WaveletOp)) (b : List WaveletOp) → IsTrail ds t → t.backs.items ≡ bs ++ b ∷ [] → run t.state (meanings b) ≡ state_after ds (t.first + length bs)
last_run ds t bs b i is =
    let long : length t.backs.items ≡ length bs + 1 = ap length is ∙ length-append bs (b ∷ []) in
    let place : t.first + length bs + 1 ≡ place_of t = omega (arith, long) in
    all_last ds t.first bs b (subst (AllLeadBack ds t.first) is i.backs) t.state (ap (state_after ds) place ∙ i.leads)

pub can_go_back : (ds : List DeltaOf) (t : Trail) (bs : List (List WaveletOp)) (b : List WaveletOp) → IsSome (run_all empty_state ds) → IsTrail ds t → t.backs.items ≡ bs ++ b ∷ [] → run t.state (meanings b) ≡ None → ⊥
can_go_back ds t bs b valid i is none =
    let n = t.first + length bs in
    let a = split empty_state (take n ds) (drop n ds) (subst (λ z. IsSome (run_all empty_state z)) (sym (take-append-drop n ds)) valid) in
    no_value (sym none ∙ last_run ds t bs b i is ∙ a.leads)

pub went_back : (ds : List DeltaOf) (t u : Trail) (b : List WaveletOp) → IsTrail ds t → t.backs.items ≡ u.backs.items ++ b ∷ [] → u.first ≡ t.first → run t.state (meanings b) ≡ Some u.state → IsTrail ds u × (place_of u + 1 ≡ place_of t)
went_back ds t u b i is first goes =
    let long : length t.backs.items ≡ length u.backs.items + 1 = ap length is ∙ length-append u.backs.items (b ∷ []) in
    let place : place_of u + 1 ≡ place_of t = omega (arith, long, first) in
    let here : t.first + length u.backs.items ≡ place_of u = omega (arith, first) in (
      record {
        inside = let n = i.inside in omega (arith, n, place);
        leads = ap (state_after ds) (sym here) ∙ sym (last_run ds t u.backs.items b i is) ∙ goes;
        backs = subst (λ n. AllLeadBack ds n u.backs.items) (sym first) (all_front ds t.first u.backs.items b (subst (AllLeadBack ds t.first) is i.backs));
      },
      place,
    )

pub same_trail : (ds : List DeltaOf) (t u : Trail) → u.state ≡ t.state → u.first ≡ t.first → u.backs ≡ t.backs → IsTrail ds t → IsTrail ds u
same_trail ds t u state first backs i =
    let place : place_of u ≡ place_of t = λ j. first j + length (backs j).items in
    record {
      inside = subst (λ n. n ≤ length ds) (sym place) i.inside;
      leads = ap (state_after ds) place ∙ i.leads ∙ ap (λ s. Some s) (sym state);
      backs = subst (λ n. AllLeadBack ds n u.backs.items) (sym first) (subst (λ v. AllLeadBack ds t.first v.items) (sym backs) i.backs);
    }

-- ---- what a history keeps beside its deltas

abbrev AreKeptOf : List DeltaOf → Option (List State) → Option Trail → Type 0
AreKeptOf ds cache trail = IfSome cache (λ states. IsBegun ds states) × IfSome trail (IsTrail ds)

begun_grown : (ds more : List DeltaOf) (o : Option (List State)) → IfSome o (λ states. IsBegun ds states) → IfSome o (λ states. IsBegun (ds ++ more) states)
begun_grown ds more None b = tt
begun_grown ds more (Some states) b = record { front = b.front; rest = b.rest ++ more; whole = sym (append_assoc b.front b.rest more) ∙ ap (λ l. l ++ more) b.whole; cached = b.cached }

trails_grown : (ds more : List DeltaOf) (o : Option Trail) → IfSome o (IsTrail ds) → IfSome o (IsTrail (ds ++ more))
trails_grown ds more None t = tt
trails_grown ds more (Some trail) t = trail_grown ds more trail t

pub kept_grown : (ds es more : List DeltaOf) (cache : Option (List State)) (trail : Option Trail) → es ≡ ds ++ more → AreKeptOf ds cache trail → AreKeptOf es cache trail
kept_grown ds es more cache trail e k = subst (λ l. AreKeptOf l cache trail) (sym e) (begun_grown ds more cache k.0, trails_grown ds more trail k.1)

pub kept_either : {T E : Type 0} (r : Result T E) (g h : HistoryOf) (d : DeltaOf) (cache : Option (List State)) (trail : Option Trail) → OnOk r (IsGrown g d h) → OnErr r (IsSameHistory g h) → AreKeptOf g.deltas cache trail → AreKeptOf h.deltas cache trail
kept_either (Ok x) g h d cache trail grown same k = kept_grown g.deltas h.deltas (d ∷ []) cache trail grown.deltas k
kept_either (Err e) g h d cache trail grown same k = kept_grown g.deltas h.deltas [] cache trail (same.deltas ∙ sym (append-nil g.deltas)) k
