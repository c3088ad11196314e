use Rattle.std.proofs.Common.{sym, subst}
use Rattle.session_core.specs.declared.request.Request.{Request}
use Rattle.pipe_machine.specs.Keeping.{IsMoved, asks_for}
use Rattle.std.proofs.lemmas.Result.{err_from_is_err_and}
use Rattle.pipe_machine.proofs.Trying.{ended_memory, stepped_still, tried_still}
use Rattle.pipe_machine.proofs.reply.answer.Goals as goal

pub returns-in-Submit-clause-moved : goal.returns-in-Submit-clause-moved
returns-in-Submit-clause-moved g c = subst (λ (r : Request). IsMoved (asks_for r) c.args.shelf.now c.submit.new.shelf) (sym c.in-Submit.is) c.submit.ensures.moved

pub returns-in_err-attach-in-Attach-clause-ended : goal.returns-in_err-attach-in-Attach-clause-ended
returns-in_err-attach-in-Attach-clause-ended g c =
    let p = err_from_is_err_and c.from_residual.result c.from_residual.ensures.1 in
    ended_memory c.args.shelf.now c.args.shelf.now _ c.from_residual.result p.0 p.1 p.2 (tried_still c.args.shelf.now _) (stepped_still c.args.shelf.now _)
