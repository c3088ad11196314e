-- A chain of undo: a state, and what takes the newest edits back that led there.
--     max_entries              the most entries
--     ChainOf                  the state, and the acts of each entry, the newest first
--     with_entry back es       one entry more, in front; the last one beyond the most is dropped, and an entry of more than 1,000
--                              acts empties the list
--     edited c acts            after an edit of one's own
--     changed c acts           after a change made by others, which passes through the entries as through a queue
--     undone c                 after the first entry took its edit back
--     IsInTurn c               the entries are valid in turn at the state
--     IsCrowded es acts        some entry and what is left of the acts for it are over too many items together
--     edited_all c edits       after edits of one's own in turn
--     undone_times n c         after so many undos
use Rattle.std.specs.Prelude.{◌≡◌, ◌⊎◌, ℕ, zero, suc, cond, nat_le, List, [], ◌∷◌, length, take, Option, None, Some, IsSome, Err, option_and_then}
use Rattle.std.specs.Option.{option_map}
use Rattle.wavelet_op.specs.Acts.{Act}
use Rattle.wavelet_op.specs.Grids.{Lists, bounded_grid}
use Rattle.wavelet_op.specs.States.{State, run}
use Rattle.wavelet_op.specs.Transform.{TooLarge}
use Rattle.wavelet_state.specs.Inverses.{inverse_acts}
use Rattle.follower_rules.specs.Followers.{run_all}
use Rattle.follower_rules.specs.Receiving.{past, rebase}

abbrev pub max_entries : ℕ
max_entries = 100

pub record ChainOf : Type 0 where
  pub state : State
  pub entries : List (List Act)

-- ---- an edit of one's own

abbrev pub with_entry : List Act → List (List Act) → List (List Act)
with_entry back entries = cond (nat_le (length back) 1000) (take max_entries (back ∷ entries)) []

abbrev pub edited : ChainOf → List Act → Option ChainOf
edited c acts = option_map (λ t. record { state = t; entries = with_entry (inverse_acts c.state acts) c.entries }) (run c.state acts)

-- ---- a change made by others

abbrev pub changed : ChainOf → List Act → Option ChainOf
changed c acts = option_and_then (λ t. option_map (λ p. record { state = t; entries = p.0 }) (rebase c.entries acts)) (run c.state acts)

-- the first entry that can't pass what is left of the acts meets too many items there
abbrev pub IsCrowded : List (List Act) → List Act → Type 0
IsCrowded [] acts = ⊥
IsCrowded (entry ∷ rest) acts = ((k : ℕ) × (bounded_grid entry acts ≡ Err (k, TooLarge))) ⊎
    ((p : Lists) × (past entry acts ≡ Some p) × IsCrowded rest p.1)

-- ---- an undo

abbrev pub undone_by : State → List (List Act) → Option ChainOf
undone_by s [] = None
undone_by s (back ∷ rest) = option_map (λ t. record { state = t; entries = rest }) (run s back)

abbrev pub undone : ChainOf → Option ChainOf
undone c = undone_by c.state c.entries

-- ---- what is kept

abbrev pub IsInTurn : ChainOf → Type 0
IsInTurn c = IsSome (run_all c.state c.entries)

-- ---- in turn

abbrev pub edited_all : ChainOf → List (List Act) → Option ChainOf
edited_all c [] = Some c
edited_all c (acts ∷ more) = option_and_then (λ d. edited_all d more) (edited c acts)

abbrev pub undone_times : ℕ → ChainOf → Option ChainOf
undone_times zero c = Some c
undone_times (suc n) c = option_and_then undone (undone_times n c)
