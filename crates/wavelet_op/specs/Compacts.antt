-- Acts in a row with fewer of them: neighbouring mutations of one document become one, from the left.
--     Unfit                   two neighbours are over too many items together; or the second doesn't apply after the first,
--                             with the number of items before the first at which they don't agree
--     mutation d r            the mutation of a document that composition gives
--     join a b                one mutation for two of one document, or why there is none; None for other acts
--     bounded_join a b        the same with the bound on counts
--     act_front, go_on        an act in front of a result; what follows a step of `join`
--     compact_by join a as    the acts a ∷ as, where neighbours that join are joined
--     all_compact_by join as  the same of a list, which may be empty
--     compact as, bounded_compact as      the acts compacted: without the bound on counts, and with it
use Rattle.std.specs.Prelude.{ℕ, cond, nat_le, List, [], ◌∷◌, Option, None, Some, Result, Ok, Err}
use Rattle.std.specs.Result.{result_ok}
use Rattle.doc_items.specs.Limits.{max_count}
use Rattle.doc_items.specs.Maps.{Key, same_text}
use Rattle.op_compose.specs.Compose.{Composed, compose}
use Rattle.op_compose.specs.Steps.{together}
use Rattle.wavelet_op.specs.Acts.{Act, Mutates}

pub data Unfit : Type 0 where
  OverLimit : Unfit
  Misfit : ℕ → Unfit

abbrev pub mutation : Key → Composed → Result Act Unfit
mutation d (Ok acts) = Ok (Mutates d acts)
mutation d (Err place) = Err (Misfit place)

unfoldable pub join : Act → Act → Option (Result Act Unfit)
join (Mutates d f) (Mutates c s) = cond (same_text d c) (Some (mutation d (compose f s))) None
join a b = None

unfoldable pub bounded_join : Act → Act → Option (Result Act Unfit)
bounded_join (Mutates d f) (Mutates c s) = cond (same_text d c)
    (Some (cond (nat_le (together f s) max_count) (mutation d (compose f s)) (Err OverLimit))) None
bounded_join a b = None

abbrev pub act_front : {A E : Type 0} → A → Result (List A) E → Result (List A) E
act_front a (Ok more) = Ok (a ∷ more)
act_front a (Err e) = Err e

abbrev pub go_on : {A E : Type 0} → A → A → (A → Result (List A) E) → Option (Result A E) → Result (List A) E
go_on a b rest None = act_front a (rest b)
go_on a b rest (Some (Ok c)) = rest c
go_on a b rest (Some (Err e)) = Err e

abbrev pub compact_by : {A E : Type 0} → (A → A → Option (Result A E)) → A → List A → Result (List A) E
compact_by join a [] = Ok (a ∷ [])
compact_by join a (b ∷ more) = go_on a b (λ c. compact_by join c more) (join a b)

abbrev pub all_compact_by : {A E : Type 0} → (A → A → Option (Result A E)) → List A → Result (List A) E
all_compact_by join [] = Ok []
all_compact_by join (a ∷ more) = compact_by join a more

abbrev pub compact : List Act → Option (List Act)
compact acts = result_ok (all_compact_by join acts)

abbrev pub bounded_compact : List Act → Result (List Act) Unfit
bounded_compact acts = all_compact_by bounded_join acts
