use Rattle.line_loop.specs.declared.feed.FeedFault.TheVariants.{Store, Memory}
use Rattle.line_loop.proofs.Feeding.{unfed_line, tried_in}
use Rattle.line_loop.proofs.feed.feed_last.Goals as goal

pub returns-in-Ok-clause-err : goal.returns-in-Ok-clause-err
returns-in-Ok-clause-err g c =
    unfed_line g.M.LineMachine g.C.Clock c.args.machine.now c.give.new.machine c.args.clock.now c.give.new.clock _ _ c.give.new.out.items c.args.line.now
    c.in-Err.ensures.err.0 (rw (← c.new-out.ensures.items) c.in-Ok.ensures.ok) (rw (← c.as_slice.ensures.value) c.in-Err.ensures.err.1) (rw (← c.as_slice.ensures.value) c.in-Err.ensures.err.2)

pub returns-in-Err-Store-clause-err : goal.returns-in-Err-Store-clause-err
returns-in-Err-Store-clause-err g c =
    tried_in g.M.LineMachine g.C.Clock Store (λ e. absurd (cc)) c.args.machine.now c.give.new.machine c.args.clock.now _ c.args.line.now c.in-Err-Store.ensures.err

pub returns-clause-err : goal.returns-clause-err
returns-clause-err g c =
    tried_in g.M.LineMachine g.C.Clock Memory (λ e. absurd (cc)) c.args.machine.now c.give.new.machine c.args.clock.now _ c.args.line.now c.in-Err-Memory.ensures.err
