use Rattle.pipe_machine.specs.Machine.{answered}
use Rattle.pipe_machine.specs.Pipes.{pipe_of}
use Rattle.pipe_machine.specs.Runs.{seats_in}
use Rattle.wavelet_shelf.specs.Shelves.{hosted_of}
use Rattle.pipe_machine.specs.Due.{are_told}
use Rattle.hosted_copies.specs.Shown.{shown_in}
use Rattle.pipe_machine.proofs.Placing.{due_or_all}
use Rattle.pipe_machine.proofs.Turning.{turn_sent}
use Rattle.std.proofs.Common.{sym, ap, subst}
use Rattle.pipe_machine.specs.Keeping.{IsEnded}
use Rattle.std.proofs.lemmas.Result.{err_from_is_err_and}
use Rattle.pipe_machine.specs.Machine.{Pipe}
use Rattle.pipe_machine.proofs.Trying.{ended_memory, tried_done}
use Rattle.pipe_machine.proofs.pipe.PipeMachine.take_line.Goals as goal

pub returns-clause-sent : goal.returns-clause-sent
returns-clause-sent g c = turn_sent c.answer.new.out.items c.deliver.new.out.items c.args.out.now.items (answered (pipe_of c.args.self.now) c.args.time c.args.line.now) (pipe_of c.answer.new.self) c.in_ok-due.ensures.pipe c.in_ok-due.ensures.sent c.in_ok-deliver.ensures.sent

pub returns-in_err-deliver-clause-ended : goal.returns-in_err-deliver-clause-ended
returns-in_err-deliver-clause-ended g c =
    let result = c.from_residual-in_err-deliver.result in
    let p = err_from_is_err_and result c.from_residual-in_err-deliver.ensures.1 in
    let after = (answered (pipe_of c.args.self.now) c.args.time c.args.line.now).pipe.hosted in
    subst (λ s. IsEnded c.args.self.now.shelf s after result) (sym c.deliver.ensures.shelf)
    (ended_memory c.args.self.now.shelf c.answer.new.self.shelf after result p.0 p.1 p.2
    (tried_done c.args.self.now.shelf c.answer.new.self.shelf after (ap (λ (p : Pipe). p.hosted) c.in_ok-due.ensures.pipe) c.in_ok-due.ensures.ended.settled) c.in_ok-due.ensures.ended.stepped)

pub deliver-requires : goal.deliver-requires
deliver-requires g c =
    due_or_all (shown_in (hosted_of c.answer.new.self.shelf)) c.args.self.now.behind (are_told (shown_in (hosted_of c.args.self.now.shelf)) (seats_in c.args.self.now.seats.runs.items)) c.in_ok-due.due c.all_if.result (seats_in c.answer.new.self.seats.runs.items)
    c.args.self.now.told c.in_ok-due.ensures.due c.all_if.ensures
