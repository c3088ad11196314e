-- What the echo writes: `echoes`, each line after the last digit of its time, with a line feed.
use Rattle.std.specs.Prelude.{ℕ, ◌+◌, ◌%◌, List, [], ◌∷◌, ◌++◌}
use Rattle.line_loop.specs.Turns.{Turn}

abbrev pub echo : Turn → List ℕ
echo t = (48 + t.time % 10) ∷ t.line ++ 10 ∷ []

abbrev pub echoes : List Turn → List ℕ
echoes [] = []
echoes (t ∷ ts) = echo t ++ echoes ts
