-- Bytes cut at line feeds.
--     lines bytes            the lines; after the last line feed there is one more, which may have no bytes
--     ended_lines bytes      those whose line feed has come
--     some_lines all bytes   all lines, or those that have ended
--     has_line_feed bytes    whether there is a line feed
--     max_line               the most bytes of a line that is given to a machine whole
--     kept line              what of a line it is given: one that is longer is cut, but stays longer
--     given ls               what it is given of lines: nothing of those without bytes
--     turned all bytes       what it is given of some bytes
--     IsPrefix xs ys         the list begins so
--     IsCutInto a bs b ls    where a line is open that begins with a, these bytes give these lines, and leave one open that begins with b
--     Begins bytes ls        these lines are the first that is given of these bytes, whatever follows
use Rattle.std.specs.Prelude.{◌≡◌, ℕ, ◌+◌, ◌==◌, List, [], ◌∷◌, ◌++◌, take, Bool, true, false}
use Rattle.std.specs.List.{slice_split, list_any}

abbrev pub is_line_feed : ℕ → Bool
is_line_feed b = b == 10

abbrev pub has_line_feed : List ℕ → Bool
has_line_feed bytes = list_any is_line_feed bytes

abbrev pub lines : List ℕ → List (List ℕ)
lines bytes = slice_split is_line_feed bytes

-- all but the last
abbrev pub but_last : List (List ℕ) → List (List ℕ)
but_last [] = []
but_last (line ∷ []) = []
but_last (line ∷ next ∷ rest) = line ∷ but_last (next ∷ rest)

abbrev pub ended_lines : List ℕ → List (List ℕ)
ended_lines bytes = but_last (lines bytes)

abbrev pub some_lines : Bool → List ℕ → List (List ℕ)
some_lines true bytes = lines bytes
some_lines false bytes = ended_lines bytes

abbrev pub max_line : ℕ
max_line = 1048576

abbrev pub kept : List ℕ → List ℕ
kept line = take (max_line + 1) line

abbrev pub given : List (List ℕ) → List (List ℕ)
given [] = []
given ([] ∷ ls) = given ls
given ((b ∷ line) ∷ ls) = kept (b ∷ line) ∷ given ls

abbrev pub turned : Bool → List ℕ → List (List ℕ)
turned all bytes = given (some_lines all bytes)

abbrev pub IsPrefix : {A : Type 0} → List A → List A → Type 0
IsPrefix {A} xs ys = (more : List A) × (xs ++ more ≡ ys)

abbrev pub IsCutInto : List ℕ → List ℕ → List ℕ → List (List ℕ) → Type 0
IsCutInto a bytes b ls = (all : Bool) (rest : List ℕ) → turned all (a ++ (bytes ++ rest)) ≡ ls ++ turned all (b ++ rest)

abbrev pub Begins : List ℕ → List (List ℕ) → Type 0
Begins bytes ls = (rest : List ℕ) → IsPrefix ls (turned true (bytes ++ rest))
