-- Messages that wait to be sent: `cost`, what one takes of the room for them, in bytes; `waiting`, what all of a list take.
use Rattle.std.specs.Prelude.{ℕ, ◌+◌, List, [], ◌∷◌, length}

-- a message takes its bytes, and 64 for its place and the head of its frame
abbrev pub cost : List ℕ → ℕ
cost message = length message + 64

-- what these messages take
abbrev pub waiting : List (List ℕ) → ℕ
waiting [] = 0
waiting (m ∷ ms) = cost m + waiting ms
