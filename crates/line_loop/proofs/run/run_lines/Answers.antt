use Rattle.std.proofs.Common.{ℕ, ap, arith, Err}
use Rattle.std.proofs.lemmas.List.{length-take-le}
use Rattle.std.proofs.lemmas.Result.{err_from_is_err_and}
use Rattle.line_loop.proofs.Serving.{under_way_start, under_way, served_whole, served_part, served_limit}
use Rattle.line_loop.proofs.run.run_lines.Goals as goal

pub loop-taken-init : goal.loop-taken-init
loop-taken-init g c = record {
  served = under_way_start g.M.LineMachine g.C.Clock _ _ _ _ c.new-begun.result.bytes.items c.new-begun.ensures;
  small = omega arith;
  source_later = omega arith;
  sink_later = omega arith;
  machine_later = omega arith;
}

pub loop-taken-preserved : goal.loop-taken-preserved
loop-taken-preserved g c = record {
  served = under_way g.M.LineMachine g.C.Clock c.args.machine.now c.loop-taken.machine c.pump.new.machine c.args.clock.now c.loop-taken.clock c.pump.new.clock _ _ _ _ _ _ c.loop-taken.begun.bytes.items c.pump.new.begun.bytes.items
      c.loop-taken.taken c.in_ok-count.count c.if-count-eq0.false c.loop-taken.invariant.served c.in_ok-count.ensures.ok;
  small = omega (arith, c.in_ok-count.ensures.small, c.min-room.ensures, length-take-le {A = ℕ});
  source_later = omega (arith, c.in_ok-count.ensures.source_later);
  sink_later = omega (arith, c.in_ok-count.ensures.sink_later);
  machine_later = omega (arith, c.in_ok-count.ensures.machine_later);
}

pub returns-in_err-count-clause-served : goal.returns-in_err-count-clause-served
returns-in_err-count-clause-served g c =
    let p = err_from_is_err_and c.from_residual.result c.from_residual.ensures.1 in
    let met = g.met.M.LineMachine in
    rw (p.1, p.2)
    (served_part g.M.LineMachine g.C.Clock met.silent met.at_start met.unmoved c.args.machine.now c.loop-taken.machine c.pump.new.machine c.args.clock.now c.loop-taken.clock _ _ _ _ _ _ c.loop-taken.begun.bytes.items
    c.loop-taken.taken _ _ c.loop-taken.begun.unended c.loop-taken-test.true (omega (arith, c.min-room.ensures, length-take-le {A = ℕ})) (λ q. c.in_err-count.ensures.limit (ap Err q))
    c.loop-taken.invariant.served c.in_err-count.ensures.err)

pub returns-clause-served : goal.returns-clause-served
returns-clause-served g c =
    let met = g.met.M.LineMachine in
    served_limit g.M.LineMachine g.C.Clock met.silent met.at_start met.unmoved c.args.machine.now c.loop-taken.machine c.args.clock.now c.loop-taken.clock _ _ _ _ c.loop-taken.begun.bytes.items
    c.loop-taken.taken c.loop-taken.begun.unended (omega (arith, c.loop-taken-test.false, c.loop-taken.invariant.small)) c.loop-taken.invariant.served

pub returns-then-count-eq0-clause-served : goal.returns-then-count-eq0-clause-served
returns-then-count-eq0-clause-served g c =
    let met = g.met.M.LineMachine in
    served_whole g.M.LineMachine g.C.Clock met.silent met.at_start met.unmoved c.args.machine.now c.loop-taken.machine c.pump.new.machine c.args.clock.now c.loop-taken.clock c.pump.new.clock _ _ _ _ _ _ c.loop-taken.begun.bytes.items c.pump.new.begun.bytes.items
    c.loop-taken.taken c.in_ok-count.count c.loop-taken-test.true c.if-count-eq0.true c.loop-taken.invariant.served c.in_ok-count.ensures.ok
