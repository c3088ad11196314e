use Rattle.std.proofs.Common.{ap}
use Rattle.client_session.specs.Seats.{seat_of}
use Rattle.client_session.proofs.seat.Seat.edit_here.Goals as goal

pub returns-clause-ok : goal.returns-clause-ok
returns-clause-ok c = ((seat_of c.obey.new.self, c.in_ok-said.said), c.in_ok-said.ensures.ok, ap (λ a. (seat_of c.obey.new.self, a)) c.says.ensures)
