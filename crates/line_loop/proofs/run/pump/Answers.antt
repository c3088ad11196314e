use Rattle.std.proofs.Common.{take, arith}
use Rattle.std.proofs.lemmas.List.{length-take}
use Rattle.line_loop.specs.declared.run.Stop.TheVariants as stop
use Rattle.line_loop.proofs.Serving.{cut_unread, cut_fed}
use Rattle.line_loop.proofs.run.pump.Goals as goal

pub returns-in_default-clause-err : goal.returns-in_default-clause-err
returns-in_default-clause-err g c =
    cut_unread g.M.LineMachine g.C.Clock _ c.args.machine.now c.args.clock.now _ _ _ c.args.begun.now.bytes.items c.in_default.ensures.bytes

pub returns-in-Err-Sink-clause-err : goal.returns-in-Err-Sink-clause-err
returns-in-Err-Sink-clause-err g c =
    cut_fed g.M.LineMachine g.C.Clock c.in-Err-Sink.field-0 stop.Sink (λ e. absurd (cc)) (λ e. c.in-Err-Sink.field-0-is) _ c.args.machine.now c.feed.new.machine c.args.clock.now _ _ _ _ c.args.begun.now.bytes.items (take c.in-Ok.count c.read.new.into)
    (omega (arith, length-take c.in-Ok.count c.read.new.into, c.read.auto.into)) c.in-Ok.ensures.bytes.0 c.in-Err-Sink.ensures.err

pub returns-in-Err-Store-clause-err : goal.returns-in-Err-Store-clause-err
returns-in-Err-Store-clause-err g c =
    cut_fed g.M.LineMachine g.C.Clock c.in-Err-Store.field-0 stop.Store (λ e. absurd (cc)) (λ e. absurd (cc)) _ c.args.machine.now c.feed.new.machine c.args.clock.now _ _ _ _ c.args.begun.now.bytes.items (take c.in-Ok.count c.read.new.into)
    (omega (arith, length-take c.in-Ok.count c.read.new.into, c.read.auto.into)) c.in-Ok.ensures.bytes.0 c.in-Err-Store.ensures.err

pub returns-in-Err-Memory-clause-err : goal.returns-in-Err-Memory-clause-err
returns-in-Err-Memory-clause-err g c =
    cut_fed g.M.LineMachine g.C.Clock c.in-Err-Memory.field-0 stop.Memory (λ e. absurd (cc)) (λ e. absurd (cc)) _ c.args.machine.now c.feed.new.machine c.args.clock.now _ _ _ _ c.args.begun.now.bytes.items (take c.in-Ok.count c.read.new.into)
    (omega (arith, length-take c.in-Ok.count c.read.new.into, c.read.auto.into)) c.in-Ok.ensures.bytes.0 c.in-Err-Memory.ensures.err
