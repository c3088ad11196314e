-- Room in an output.
--     HasRoomFor acts n     an output of these actions may take and give n items more
use Rattle.std.specs.Prelude.{ℕ, ◌+◌, ◌≤◌, List}
use Rattle.doc_items.specs.Limits.{max_count}
use Rattle.doc_op.specs.Actions.{Action}
use Rattle.doc_op.specs.Lengths.{input_len, output_len}

abbrev pub HasRoomFor : List Action → ℕ → Type 0
HasRoomFor acts n = (input_len acts + n ≤ max_count) × (output_len acts + n ≤ max_count)
