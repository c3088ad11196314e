use Rattle.std.proofs.Common.{◌++◌, take, drop}
use Rattle.std.proofs.lemmas.List.{take-append-drop}
use Rattle.line_loop.specs.Lines.{Begins}
use Rattle.line_loop.specs.declared.feed.FeedFault.TheVariants.{Store, Memory}
use Rattle.line_loop.proofs.Feeding.{fed, unfed, stopped_in}
use Rattle.line_loop.proofs.feed.feed_some.Goals as goal

pub returns-in-Ok-write_all-clause-ok : goal.returns-in-Ok-write_all-clause-ok
returns-in-Ok-write_all-clause-ok g c =
    fed g.M.LineMachine g.C.Clock c.args.machine.now c.take.new.machine c.args.clock.now c.take.new.clock _ _ c.take.new.out.items c.args.begun.now.bytes.items (take c.in-Ok.used c.args.bytes.now) c.take.new.begun.bytes.items
    (rw (← c.new-out.ensures.items) c.in-Ok.ensures.ok) (rw (← c.as_slice.ensures.value) c.in-Ok-write_all.ensures.ok)

pub returns-in-Ok-clause-err : goal.returns-in-Ok-clause-err
returns-in-Ok-clause-err g c =
    let bytes = c.args.bytes.now in
    unfed g.M.LineMachine g.C.Clock c.args.machine.now c.take.new.machine c.args.clock.now c.take.new.clock _ _ c.take.new.out.items c.args.begun.now.bytes.items
    (take c.in-Ok.used bytes) (drop c.in-Ok.used bytes) bytes c.take.new.begun.bytes.items c.in-Err.ensures.err.0 (take-append-drop c.in-Ok.used bytes)
    (rw (← c.new-out.ensures.items) c.in-Ok.ensures.ok) (rw (← c.as_slice.ensures.value) c.in-Err.ensures.err.1) (rw (← c.as_slice.ensures.value) c.in-Err.ensures.err.2)

pub returns-in-Err-Store-clause-err : goal.returns-in-Err-Store-clause-err
returns-in-Err-Store-clause-err g c =
    stopped_in g.M.LineMachine g.C.Clock Store (λ e. absurd (cc)) c.args.machine.now c.take.new.machine c.args.clock.now _ (Begins (c.args.begun.now.bytes.items ++ c.args.bytes.now)) (rw (← c.new-out.ensures.items) c.in-Err-Store.ensures.err)

pub returns-clause-err : goal.returns-clause-err
returns-clause-err g c =
    stopped_in g.M.LineMachine g.C.Clock Memory (λ e. absurd (cc)) c.args.machine.now c.take.new.machine c.args.clock.now _ (Begins (c.args.begun.now.bytes.items ++ c.args.bytes.now)) (rw (← c.new-out.ensures.items) c.in-Err-Memory.ensures.err)
