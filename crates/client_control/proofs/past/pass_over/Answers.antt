use Rattle.client_control.proofs.Pending.{flight_structured}
use Rattle.client_control.proofs.past.pass_over.Goals as goal

pub past-requires-clause-later : goal.past-requires-clause-later
past-requires-clause-later c = flight_structured c.args.flight.now c.in-Some.flight c.in-Some.is c.requires.flight
