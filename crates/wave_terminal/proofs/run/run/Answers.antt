use Rattle.std.proofs.Common.{◌+◌, ◌≤◌, ◌<◌, length, take, arith, sym, subst, length-take}
use Rattle.wave_terminal.specs.Runs.{IsObeyed}
use Rattle.wave_terminal.proofs.Obeying.{status_is, gone_on, at_the_end, at_quit, at_cut}
use Rattle.wave_terminal.proofs.run.run.Goals as goal
use Rattle.wave_terminal.proofs.run.run.Goals.{then-count-eq0-via-then-count-eq0, then-count-eq0-via-else-count-eq0+then-begun}

pub returns-in_err-count-clause-obeyed : goal.returns-in_err-count-clause-obeyed
returns-in_err-count-clause-obeyed g c =
    let u = c.loop-taken.invariant in
    let m = g.M.CommandMachine.machine in
    let size = length (take c.min-room.result c.loop-taken.buffer) in
    let room = c.min-room.ensures in
    let low = c.loop-taken-test.true in
    let fits : c.loop-taken.taken + size ≤ 4611686018427387904 = omega (arith, room, low, length-take c.min-room.result c.loop-taken.buffer) in
    let chunk : size ≤ 65536 = omega (arith, room, length-take c.min-room.result c.loop-taken.buffer) in
    subst (λ s. IsObeyed m (g.M.CommandMachine.state c.args.machine.now) (g.S.Source.left c.args.source.now) (g.S.Source.left c.pump.new.source) (g.W.Sink.written c.args.sink.now) (g.W.Sink.written c.pump.new.sink) s)
    (sym (status_is c.from_residual.result c.in_err-count.field-0.0 c.from_residual.ensures.1))
    (at_cut m _ _ _ _ _ _ c.loop-taken.taken u.under_way _ _ size c.in_err-count.field-0.0 low fits chunk u.awake c.in_err-count.ensures.err)

pub returns-then-count-eq0-clause-obeyed : goal.returns-then-count-eq0-clause-obeyed
returns-then-count-eq0-clause-obeyed g c =
    let u = c.loop-taken.invariant in
    let m = g.M.CommandMachine.machine in
    let low = c.loop-taken-test.true in
    let most = c.in_ok-count.ensures.small in
    let room = c.min-room.ensures in
    let small : c.loop-taken.taken + c.in_ok-count.count ≤ 4611686018427387904 = omega (arith, low, most, room, length-take c.min-room.result c.loop-taken.buffer) in
    let chunk : c.in_ok-count.count ≤ 65536 = omega (arith, most, room, length-take c.min-room.result c.loop-taken.buffer) in
    elim c.then-count-eq0.branch [
      | then-count-eq0-via-then-count-eq0 w ↦ at_the_end m _ _ _ _ _ _ c.loop-taken.taken u.under_way _ _ _ c.in_ok-count.count w.if-count-eq0.true low u.awake c.in_ok-count.ensures.ok
      | then-count-eq0-via-else-count-eq0+then-begun w ↦
          at_quit m _ _ _ _ _ _ c.loop-taken.taken u.under_way _ _ _ c.in_ok-count.count (omega (arith, w.if-count-eq0.false)) chunk small u.awake w.if-begun.true c.in_ok-count.ensures.ok
    ]

pub loop-taken-preserved : goal.loop-taken-preserved
loop-taken-preserved g c =
    let u = c.loop-taken.invariant in
    let some : 0 < c.in_ok-count.count = omega (arith, c.if-count-eq0.false) in
    let low = c.loop-taken-test.true in
    let most = c.in_ok-count.ensures.small in
    let room = c.min-room.ensures in
    record {
      under_way = gone_on g.M.CommandMachine.machine _ _ _ _ _ _ c.loop-taken.taken u.under_way _ _ _ c.in_ok-count.count some c.in_ok-count.ensures.ok;
      awake = c.if-begun.false;
      small = omega (arith, low, most, room, length-take c.min-room.result c.loop-taken.buffer);
      source_later = let later = c.in_ok-count.ensures.source_later in omega (arith, u.source_later, later);
      sink_later = let later = c.in_ok-count.ensures.sink_later in omega (arith, u.sink_later, later);
    }
