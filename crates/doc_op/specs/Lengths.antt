-- How many items an operation takes, gives and inserts.
--     input_len      each action but an insertion takes an item
--     output_len     each action but a deletion gives an item
--     inserted_len   each insertion inserts one
use Rattle.std.specs.Prelude.{ℕ, ◌+◌, List, [], ◌∷◌}
use Rattle.doc_op.specs.Actions.{Action, Keep, Ins, Del}

abbrev pub input_len : List Action → ℕ
input_len [] = 0
input_len (Keep u a ∷ rest) = input_len rest + 1
input_len (Ins i ∷ rest) = input_len rest
input_len (Del c n ∷ rest) = input_len rest + 1

abbrev pub output_len : List Action → ℕ
output_len [] = 0
output_len (Keep u a ∷ rest) = output_len rest + 1
output_len (Ins i ∷ rest) = output_len rest + 1
output_len (Del c n ∷ rest) = output_len rest

abbrev pub inserted_len : List Action → ℕ
inserted_len [] = 0
inserted_len (Keep u a ∷ rest) = inserted_len rest
inserted_len (Ins i ∷ rest) = inserted_len rest + 1
inserted_len (Del c n ∷ rest) = inserted_len rest
