use Rattle.std.proofs.Common.{refl, sym, subst}
use Rattle.std.specs.Prelude.{IfOk, List, ℕ}
use Rattle.session_core.specs.Access.{Shown}
use Rattle.pipe_machine.specs.Due.{IsDueAlone, AreTheDue}
use Rattle.pipe_machine.specs.Runs.{seats_in}
use Rattle.pipe_machine.proofs.Placing.{due_none}
use Rattle.pipe_machine.proofs.due.places_due.Goals as goal

pub returns-in-Nobody : goal.returns-in-Nobody
returns-in-Nobody c shown alone =
    let ss = seats_in c.args.seats.now.runs.items in
    subst (λ (ps : List ℕ). AreTheDue shown 0 ps ss) (sym c.new.ensures.items) (due_none shown ss (subst (λ d. IsDueAlone shown d ss) c.in-Nobody.is alone))

pub returns-in-Seat : goal.returns-in-Seat
returns-in-Seat c =
    let ss = seats_in c.args.seats.now.runs.items in
    subst (λ d. IfOk c.place_alone.result (λ places. (shown : Shown) → IsDueAlone shown d ss → AreTheDue shown 0 places.items ss)) (sym c.in-Seat.is) c.place_alone.ensures
