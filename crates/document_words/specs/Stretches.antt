-- Stretches of letters that cut no word.
--     has_letter ls k       whether there is a letter of a word at a place
--     begin_of ls n         where the word that reaches up to a place begins; the place itself where none does
--     reach ls              how many letters of a word stand at the front
--     end_of ls n           where the word that goes on from a place ends
--     fits p s ls           there are so many at the front and at the back
--     widened p s ls        the letters but for the first p and the last s, with the words that reach into them
--     stretch p s ls        these, or all where there aren't so many
--     IsSplit p s ls ms     the first p and the last s of both are the same
use Rattle.std.specs.Prelude.{◌≡◌, ℕ, zero, suc, ◌+◌, ◌-◌, ◌≤◌, Bool, false, cond, nat_le, List, [], ◌∷◌, length, take, drop, slice_get, Option, Some, None, is_some}
use Rattle.std.specs.Option.{option_map_or}

abbrev pub has_letter : List (Option ℕ) → ℕ → Bool
has_letter ls k = option_map_or is_some (slice_get ls k) false

abbrev pub begin_of : List (Option ℕ) → ℕ → ℕ
begin_of ls zero = 0
begin_of ls (suc n) = cond (has_letter ls n) (begin_of ls n) (suc n)

abbrev pub reach : List (Option ℕ) → ℕ
reach [] = 0
reach (None ∷ ls) = 0
reach (Some c ∷ ls) = suc (reach ls)

abbrev pub end_of : List (Option ℕ) → ℕ → ℕ
end_of ls n = n + reach (drop n ls)

abbrev pub fits : ℕ → ℕ → List (Option ℕ) → Bool
fits p s ls = nat_le (p + s) (length ls)

abbrev pub widened : ℕ → ℕ → List (Option ℕ) → List (Option ℕ)
widened p s ls = drop (begin_of ls p) (take (end_of ls (length ls - s)) ls)

abbrev pub stretch : ℕ → ℕ → List (Option ℕ) → List (Option ℕ)
stretch p s ls = cond (fits p s ls) (widened p s ls) ls

pub record IsSplit (p s : ℕ) (ls ms : List (Option ℕ)) : Type 0 where
  pub fits : p + s ≤ length ls
  pub also : p + s ≤ length ms
  pub front : take p ls ≡ take p ms
  pub back : drop (length ls - s) ls ≡ drop (length ms - s) ms
