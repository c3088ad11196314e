use Rattle.std.proofs.Common.{◌+◌, ◌≤◌, length, take, ap, subst, ◌∙◌, arith, length-take}
use Rattle.client_session.specs.Machine.{machine_of}
use Rattle.client_terminal.specs.Pumping.{IsOfRoom, IsPumped, pumped_closed}
use Rattle.client_terminal.specs.Whole.{IsRunAs, stop_status}
use Rattle.client_terminal.specs.declared.mood.Pumped.{Pumped}
use Rattle.client_terminal.specs.declared.stop.Stop.{Stop}
use Rattle.client_terminal.proofs.Ending.{gone_on, ran_left, ran_closed, ran_end, ran_limit, ran_cut, err_same}
use Rattle.client_terminal.proofs.run.obey_lines.Goals as goal

pub returns-in_err-count-clause-stopped : goal.returns-in_err-count-clause-stopped
returns-in_err-count-clause-stopped g c = λ o h.
    let u = c.loop-taken.invariant.goes o h in
    let size = length (take c.min-room.result c.loop-taken.buffer) in
    let room = c.min-room.ensures in
    let low = c.loop-taken-test.true in
    let fits : c.loop-taken.taken + size ≤ 4611686018427387904 = omega (arith, room, low, length-take c.min-room.result c.loop-taken.buffer) in
    err_same c.from_residual.result c.in_err-count.field-0.0
    (λ (e : Stop). IsRunAs g.L.Link.tells o (g.L.Link.events c.pump.new.link) (g.S.Source.left c.args.source.now) (g.S.Source.left c.pump.new.source) (g.W.Sink.written c.pump.new.sink) (stop_status e))
    c.from_residual.ensures.1
    (ran_cut g.L.Link.tells o _ _ _ _ _ _ c.loop-taken.taken u _ _ _ _ _ size fits (omega (arith, low)) c.in_err-count.field-0.0 (c.in_err-count.ensures.halts o u.read u.reading))

pub overflow_add-taken : goal.overflow_add-taken
overflow_add-taken g c =
    let size = length (take c.min-room.result c.loop-taken.buffer) in
    let room = c.min-room.ensures in
    let low = c.loop-taken-test.true in
    let bound = subst (λ (z : Pumped). IsOfRoom size z) c.in-Read.is c.in_ok-count.ensures.bound in
    let most = bound.1 in
    omega (arith, room, low, most, length-take c.min-room.result c.loop-taken.buffer)

pub loop-taken-smaller : goal.loop-taken-smaller
loop-taken-smaller g c =
    let size = length (take c.min-room.result c.loop-taken.buffer) in
    let low = c.loop-taken-test.true in
    let bound = subst (λ (z : Pumped). IsOfRoom size z) c.in-Read.is c.in_ok-count.ensures.bound in
    let some = bound.0 in
    omega (arith, low, some)

pub loop-taken-preserved : goal.loop-taken-preserved
loop-taken-preserved g c =
    let was = c.loop-taken.invariant in
    let size = length (take c.min-room.result c.loop-taken.buffer) in
    let room = c.min-room.ensures in
    let low = c.loop-taken-test.true in
    let bound = subst (λ (z : Pumped). IsOfRoom size z) c.in-Read.is c.in_ok-count.ensures.bound in
    let most = bound.1 in
    let later = c.in_ok-count.ensures.later in
    record {
      goes = λ o h.
          let u = was.goes o h in
          gone_on g.L.Link.tells o _ _ _ _ _ _ c.loop-taken.taken u _ _ _ _ _ size c.in-Read.count
          (subst (λ (z : Pumped). IsPumped g.L.Link.tells o size z (machine_of c.pump.new.client) u.read c.pump.new.line.items (g.S.Source.left c.loop-taken.source) (g.S.Source.left c.pump.new.source) (g.L.Link.events c.pump.new.link) (g.W.Sink.written c.pump.new.sink))
          c.in-Read.is (c.in_ok-count.ensures.goes o u.read u.reading));
      unclosed = c.in_ok-count.ensures.closed ∙ ap pumped_closed c.in-Read.is;
      small = omega (arith, room, low, most, length-take c.min-room.result c.loop-taken.buffer);
      source_later = let l = later.0 in omega (arith, l, was.source_later);
      link_later = let l = later.1.0 in omega (arith, l, was.link_later);
      sink_later = let l = later.1.1 in omega (arith, l, was.sink_later);
    }

pub returns-in-Left-clause-edited : goal.returns-in-Left-clause-edited
returns-in-Left-clause-edited g c = λ o h.
    let u = c.loop-taken.invariant.goes o h in
    let size = length (take c.min-room.result c.loop-taken.buffer) in
    let room = c.min-room.ensures in
    let low = c.loop-taken-test.true in
    let fits : c.loop-taken.taken + size ≤ 4611686018427387904 = omega (arith, room, low, length-take c.min-room.result c.loop-taken.buffer) in
    ran_left g.L.Link.tells o _ _ _ _ _ _ c.loop-taken.taken u _ c.pump.new.line.items _ _ _ size fits (omega (arith, low))
    (subst (λ (z : Pumped). IsPumped g.L.Link.tells o size z (machine_of c.pump.new.client) u.read c.pump.new.line.items (g.S.Source.left c.loop-taken.source) (g.S.Source.left c.pump.new.source) (g.L.Link.events c.pump.new.link) (g.W.Sink.written c.pump.new.sink))
    c.in-Left.is (c.in_ok-count.ensures.goes o u.read u.reading))

pub returns-in-Ended-clause-edited : goal.returns-in-Ended-clause-edited
returns-in-Ended-clause-edited g c = λ o h.
    let u = c.loop-taken.invariant.goes o h in
    let size = length (take c.min-room.result c.loop-taken.buffer) in
    let room = c.min-room.ensures in
    let low = c.loop-taken-test.true in
    let fits : c.loop-taken.taken + size ≤ 4611686018427387904 = omega (arith, room, low, length-take c.min-room.result c.loop-taken.buffer) in
    ran_end g.L.Link.tells o _ _ _ _ _ _ c.loop-taken.taken u _ c.pump.new.line.items _ _ _ size fits (omega (arith, low))
    (subst (λ (z : Pumped). IsPumped g.L.Link.tells o size z (machine_of c.pump.new.client) u.read c.pump.new.line.items (g.S.Source.left c.loop-taken.source) (g.S.Source.left c.pump.new.source) (g.L.Link.events c.pump.new.link) (g.W.Sink.written c.pump.new.sink))
    c.in-Ended.is (c.in_ok-count.ensures.goes o u.read u.reading))

pub returns-in-Closed-clause-edited : goal.returns-in-Closed-clause-edited
returns-in-Closed-clause-edited g c = λ o h.
    let u = c.loop-taken.invariant.goes o h in
    let size = length (take c.min-room.result c.loop-taken.buffer) in
    let room = c.min-room.ensures in
    let low = c.loop-taken-test.true in
    let fits : c.loop-taken.taken + size ≤ 4611686018427387904 = omega (arith, room, low, length-take c.min-room.result c.loop-taken.buffer) in
    ran_closed g.L.Link.tells o _ _ _ _ _ _ c.loop-taken.taken u _ c.pump.new.line.items _ _ _ size fits (omega (arith, low))
    (subst (λ (z : Pumped). IsPumped g.L.Link.tells o size z (machine_of c.pump.new.client) u.read c.pump.new.line.items (g.S.Source.left c.loop-taken.source) (g.S.Source.left c.pump.new.source) (g.L.Link.events c.pump.new.link) (g.W.Sink.written c.pump.new.sink))
    c.in-Closed.is (c.in_ok-count.ensures.goes o u.read u.reading))

pub returns-clause-edited : goal.returns-clause-edited
returns-clause-edited g c = λ o h.
    let u = c.loop-taken.invariant.goes o h in
    let high = c.loop-taken-test.false in
    let small = c.loop-taken.invariant.small in
    ran_limit g.L.Link.tells o _ _ _ _ _ _ c.loop-taken.taken u (omega (arith, high, small))
