use Rattle.std.proofs.Common.{◌++◌, ◌∷◌, []}
use Rattle.line_loop.proofs.Answering.{nothing_in_part, line_in_part, line_ended, on_err}
use Rattle.line_loop.proofs.take.end_line.Goals as goal

pub returns-in_err-keep-clause-err : goal.returns-in_err-keep-clause-err
returns-in_err-keep-clause-err g c = on_err c.from_residual.result (nothing_in_part g.M.LineMachine g.C.Clock c.args.machine.now c.args.clock.now c.args.out.now.items (c.args.begun.now.bytes.items ++ (c.args.last.now ++ 10 ∷ [])))

pub returns-in_err-give-clause-err : goal.returns-in_err-give-clause-err
returns-in_err-give-clause-err g c =
    on_err _ (line_in_part g.M.LineMachine g.C.Clock c.args.machine.now c.give.new.machine c.args.clock.now c.args.out.now.items c.args.begun.now.bytes.items c.args.last.now c.keep.new.self.bytes.items
    c.keep.new.self.unended c.in_ok-keep.ensures (rw (← c.as_slice.ensures.value) c.in_err-give.ensures.err))

pub returns-clause-ok : goal.returns-clause-ok
returns-clause-ok g c =
    line_ended g.M.LineMachine g.C.Clock c.args.machine.now c.give.new.machine c.args.clock.now c.give.new.clock c.args.out.now.items c.give.new.out.items c.args.begun.now.bytes.items c.args.last.now
    c.keep.new.self.bytes.items _ c.keep.new.self.unended c.in_ok-keep.ensures c.clear.ensures (rw (← c.as_slice.ensures.value) c.in_ok-give.ensures.ok)
