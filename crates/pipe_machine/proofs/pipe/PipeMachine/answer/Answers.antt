use Rattle.std.proofs.Common.{Ok, Err, refl, sym, ap, subst, ◌∙◌, arith}
use Rattle.pipe_machine.specs.Keeping.{IsEnded, IsMoved, submits_read}
use Rattle.hosted_copies.specs.Shown.{shown_in}
use Rattle.pipe_machine.specs.Machine.{answered_read}
use Rattle.pipe_machine.specs.Pipes.{pipe_of}
use Rattle.pipe_machine.specs.Runs.{seats_in}
use Rattle.std.proofs.lemmas.Result.{err_from_is_err_and}
use Rattle.line_loop.specs.declared.line_machine.TurnFault.TheVariants.{Memory}
use Rattle.pipe_machine.proofs.Trying.{ended_memory, stepped_still, tried_still}
use Rattle.wavelet_shelf.specs.Shelves.{hosted_of}
use Rattle.pipe_machine.proofs.Placing.{got_within, told_each}
use Rattle.pipe_machine.proofs.pipe.PipeMachine.answer.Goals as goal

pub returns-in-Ok-clause-moved : goal.returns-in-Ok-clause-moved
returns-in-Ok-clause-moved g c =
    subst (λ r. IsMoved (submits_read r) c.args.self.now.shelf c.serve.new.self.shelf) (ap Ok c.into_parts-session.ensures ∙ sym c.in-Ok.ensures.ok) c.serve.ensures.moved

pub returns-in_err-refuse-in-Err-Bad-clause-ended : goal.returns-in_err-refuse-in-Err-Bad-clause-ended
returns-in_err-refuse-in-Err-Bad-clause-ended g c =
    let p = err_from_is_err_and c.from_residual.result c.from_residual.ensures.1 in
    ended_memory c.args.self.now.shelf c.args.self.now.shelf _ c.from_residual.result p.0 p.1 p.2 (tried_still c.args.self.now.shelf _) (stepped_still c.args.self.now.shelf _)

pub returns-in-Err-Memory-clause-ended : goal.returns-in-Err-Memory-clause-ended
returns-in-Err-Memory-clause-ended g c = ended_memory c.args.self.now.shelf c.args.self.now.shelf _ (Err Memory) Memory refl refl (tried_still c.args.self.now.shelf _) (stepped_still c.args.self.now.shelf _)

pub returns-in-Ok-clause-ended : goal.returns-in-Ok-clause-ended
returns-in-Ok-clause-ended g c =
    subst (λ r. IsEnded c.args.self.now.shelf c.serve.new.self.shelf (answered_read (pipe_of c.args.self.now) c.args.time r).pipe.hosted c.serve.result) (ap Ok c.into_parts-session.ensures ∙ sym c.in-Ok.ensures.ok) c.serve.ensures.ended

pub returns-in_ok-refuse-in-Err-Bad-clause-due : goal.returns-in_ok-refuse-in-Err-Bad-clause-due
returns-in_ok-refuse-in-Err-Bad-clause-due g c told k s got e = told_each (shown_in (hosted_of c.args.self.now.shelf)) (seats_in c.args.self.now.seats.runs.items) told k s (omega arith) (got_within (seats_in c.args.self.now.seats.runs.items) k s got) got
