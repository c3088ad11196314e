-- The transform of lists, from that of two: each later one passes in order through all earlier ones, as the later ones before it
-- left them.
--     and_next, at_index      a second step after a result; a refusal with the index at which it is met
--     earlier_front, later_front      one more in front of the results
--     pass_one step l es      one later through the earlier ones: its result, and theirs
--     grid_by step k ls es    the later ones, of which the first has the index k, through the earlier ones; or the index of the
--                             one whose pass first meets a refusal, and that refusal
--     grid ls es, bounded_grid ls es      the transform of lists of acts: without the bound on counts, and with it
--     pass as deltas          acts as later ones through lists of earlier ones, one list after the other
use Rattle.std.specs.Prelude.{ℕ, suc, List, [], ◌∷◌, Option, Some, Result, Ok, Err, option_and_then}
use Rattle.std.specs.Result.{result_ok}
use Rattle.wavelet_op.specs.Acts.{Act}
use Rattle.wavelet_op.specs.Transform.{Refusal, exact, bounded}

-- the second step, where the first gives a value
abbrev pub and_next : {A B E : Type 0} → (A → Result B E) → Result A E → Result B E
and_next f (Ok x) = f x
and_next f (Err e) = Err e

abbrev pub earlier_front : {A E : Type 0} → A → Result (A × List A) E → Result (A × List A) E
earlier_front e (Ok p) = Ok (p.0, e ∷ p.1)
earlier_front e (Err r) = Err r

abbrev pub later_front : {A E : Type 0} → A → Result (List A × List A) E → Result (List A × List A) E
later_front l (Ok p) = Ok (l ∷ p.0, p.1)
later_front l (Err r) = Err r

abbrev pub at_index : {B E : Type 0} → ℕ → Result B E → Result B (ℕ × E)
at_index k (Ok x) = Ok x
at_index k (Err e) = Err (k, e)

abbrev pub pass_one : {A E : Type 0} → (A → A → Result (A × A) E) → A → List A → Result (A × List A) E
pass_one step l [] = Ok (l, [])
pass_one step l (e ∷ es) = and_next (λ p. earlier_front p.1 (pass_one step p.0 es)) (step l e)

abbrev pub grid_by : {A E : Type 0} → (A → A → Result (A × A) E) → ℕ → List A → List A → Result (List A × List A) (ℕ × E)
grid_by step k [] es = Ok ([], es)
grid_by step k (l ∷ ls) es = and_next (λ p. later_front p.0 (grid_by step (suc k) ls p.1)) (at_index k (pass_one step l es))

abbrev pub Lists : Type 0
Lists = List Act × List Act

abbrev pub grid : List Act → List Act → Option Lists
grid later earlier = result_ok (grid_by exact 0 later earlier)

abbrev pub bounded_grid : List Act → List Act → Result Lists (ℕ × Refusal)
bounded_grid later earlier = grid_by bounded 0 later earlier

abbrev pub pass : List Act → List (List Act) → Option (List Act)
pass acts [] = Some acts
pass acts (earlier ∷ more) = option_and_then (λ p. pass p.0 more) (grid acts earlier)
