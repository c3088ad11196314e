-- The seats of a pipe in runs, of which a new seat moves those after it in its own run alone.
--     seats_in rs         all seats of the runs, in order
use Rattle.std.specs.Prelude.{List, [], ◌∷◌, ◌++◌}
use Rattle.pipe_machine.specs.declared.runs.Run.{Run}
use Rattle.pipe_machine.specs.declared.seats.Seat.{Seat}

abbrev pub seats_in : List Run → List Seat
seats_in [] = []
seats_in (r ∷ rs) = r.seats.items ++ seats_in rs
