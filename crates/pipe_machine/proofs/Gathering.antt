-- Lines, one list after the other.
--     lines_append     the lines of two lists
use Rattle.std.proofs.Common.{◌≡◌, List, [], ◌∷◌, ◌++◌, refl, sym, ap, ◌∙◌, append_assoc}
use Rattle.pipe_machine.specs.Lines.{Sent, line_of, lines_of}

pub lines_append : (xs ys : List Sent) → lines_of (xs ++ ys) ≡ lines_of xs ++ lines_of ys
lines_append [] ys = refl
lines_append (x ∷ xs) ys = ap (λ l. line_of x ++ l) (lines_append xs ys) ∙ sym (append_assoc (line_of x) (lines_of xs) (lines_of ys))
