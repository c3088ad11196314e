use Rattle.std.proofs.Common.{refl}
use Rattle.client_session.specs.Seats.{seat_of}
use Rattle.client_session.proofs.Seating.{undo_step, undo_failed}
use Rattle.client_session.proofs.seat.Seat.undo.Goals as goal

pub returns-in-Ok-clause-ok : goal.returns-in-Ok-clause-ok
returns-in-Ok-clause-ok c = undo_step c.keep_chain.new.self (seat_of c.args.self.now) c.in_ok-keep_chain.ensures.same c.in_ok-keep_chain.ensures.note c.edit.new.self c.keep_chain.new.self.chain.entries c.in-Some.front.now c.in_ok-ops.ops refl c.in-Some.ensures.value c.in_ok-ops.ensures c.in-Ok.ensures.ok

pub returns-in-Err-clause-ok : goal.returns-in-Err-clause-ok
returns-in-Err-clause-ok c = undo_failed c.keep_chain.new.self (seat_of c.args.self.now) c.in_ok-keep_chain.ensures.same c.in_ok-keep_chain.ensures.note c.fault_said.result c.edit.new.self c.keep_chain.new.self.chain.entries c.in-Some.front.now c.in_ok-ops.ops c.in-Err.fault refl c.in-Some.ensures.value c.in_ok-ops.ensures c.in-Err.ensures.same c.in-Err.ensures.refused c.fault_said.ensures
