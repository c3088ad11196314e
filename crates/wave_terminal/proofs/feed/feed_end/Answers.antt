use Rattle.std.proofs.Common.{◌∙◌, ap, ◌++◌}
use Rattle.std.proofs.lemmas.Result.{err_from_is_err_and}
use Rattle.wave_terminal.specs.Machines.{last_text}
use Rattle.wave_terminal.specs.Runs.{course_of}
use Rattle.wave_terminal.proofs.Feeding.{cut_end}
use Rattle.wave_terminal.proofs.feed.feed_end.Goals as goal

pub returns-in_err-write_all-clause-err : goal.returns-in_err-write_all-clause-err
returns-in_err-write_all-clause-err g c =
    let p = err_from_is_err_and c.from_residual-in_err-write_all.result c.from_residual-in_err-write_all.ensures.1 in
    let w = rw (c.as_slice.ensures.value) at c.in_err-write_all.ensures.err in
    rw (p.1)
    (cut_end g.M.CommandMachine.machine (course_of (g.M.CommandMachine.state c.args.machine.now) c.args.begun.now) _ _ c.take_last.new.out.items c.args.bytes.now p.0 w.0 p.2 c.requires
    (c.in_ok-take_last.ensures.text ∙ ap (λ z. z ++ last_text g.M.CommandMachine.machine (course_of (g.M.CommandMachine.state c.args.machine.now) c.args.begun.now)) c.new-out.ensures.items)
    w.1
    w.2)
