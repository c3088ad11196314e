-- Kept states.
--     begun_kept        those of a beginning are those of the whole
--     looked_up         a state that is read from the kept ones
--     kept_more         one more
--     begun_long, cached     how many there are
use Rattle.std.proofs.Common.{◌≡◌, ℕ, zero, suc, ◌+◌, ◌*◌, ◌<◌, ◌≤◌, List, [], ◌∷◌, ◌++◌, length, take, get_or, slice_get, Some, refl, sym, ap, subst, ◌∙◌, arith}
use Rattle.std.proofs.lemmas.List.{take-append-le, length-append}
use Rattle.std.proofs.lemmas.Option.{slice_get_within, slice_get_read}
use Rattle.doc_op.proofs.Applying.{same_Some, no_value}
use Rattle.wavelet_op.specs.Deltas.{DeltaOf}
use Rattle.wavelet_op.specs.States.{State, empty_state}
use Rattle.delta_history.specs.Points.{run_all}
use Rattle.state_cache.specs.States.{state_after, AreKept, IsCacheOf, IsBegun}

pub begun_kept : (ds : List DeltaOf) (states : List State) → IsBegun ds states → AreKept ds states
begun_kept ds states b k s at =
    let inside : k < length states = slice_get_within states k s at in
    let few : k * 64 ≤ length b.front = omega (arith, inside, b.cached.none_more) in
    ap (run_all empty_state) (sym (ap (take (k * 64)) b.whole) ∙ take-append-le (k * 64) b.front b.rest few) ∙ b.cached.kept k s at

last_of : (states : List State) (s t : State) (k : ℕ) → slice_get (states ++ s ∷ []) k ≡ Some t → (P : ℕ → State → Type 0) → ((j : ℕ) (u : State) → slice_get states j ≡ Some u → P j u) → P (length states) s → P k t
last_of [] s t zero e P h l = subst (P 0) (same_Some e) l
last_of [] s t (suc k) e P h l = no_value e
last_of (x ∷ states) s t zero e P h l = h zero t e
last_of (x ∷ states) s t (suc k) e P h l = last_of states s t k e (λ j. P (suc j)) (λ j u g. h (suc j) u g) l

pub kept_more : (ds : List DeltaOf) (states : List State) (s : State) → AreKept ds states → state_after ds (length states * 64) ≡ Some s → AreKept ds (states ++ s ∷ [])
kept_more ds states s kept at k t e = last_of states s t k e (λ j u. state_after ds (j * 64) ≡ Some u) kept at

pub looked_up : (ds : List DeltaOf) (states held : List State) (k : ℕ) (x s : State) → AreKept ds states → held ≡ states → k < length held → x ≡ get_or held k x → s ≡ x → state_after ds (k * 64) ≡ Some s
looked_up ds states held k x s kept same inside is e =
    kept k s (ap (λ z. slice_get z k) (sym same) ∙ slice_get_read held (length held) k x refl inside is ∙ ap Some (sym e))

pub begun_long : (ds : List DeltaOf) (states : List State) → IsBegun ds states → (0 < length states) × (64 * length states ≤ length ds + 64)
begun_long ds states b =
    let long : length ds ≡ length b.front + length b.rest = sym (ap length b.whole) ∙ length-append b.front b.rest in
    (omega (arith, b.cached.all), omega (arith, long, b.cached.none_more))

pub cached : (ds : List DeltaOf) (states : List State) → AreKept ds states → 64 * length states ≤ length ds + 64 → length ds < 64 * length states → IsCacheOf ds states
cached ds states kept few all = record { kept = kept; all = all; none_more = few }
