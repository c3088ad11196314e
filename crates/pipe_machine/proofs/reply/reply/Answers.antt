use Rattle.std.proofs.Common.{subst, sym}
use Rattle.session_core.specs.News.{reply_message}
use Rattle.wavelet_shelf.specs.Shelves.{hosted_of}
use Rattle.pipe_machine.specs.Keeping.{submits}
use Rattle.pipe_machine.proofs.Moving.{only_if}
use Rattle.pipe_machine.proofs.Plain.{IsGood, taken_good, plain_after, short_after}
use Rattle.std.proofs.lemmas.Result.{err_from_is_err_and}
use Rattle.pipe_machine.proofs.Trying.{ended_memory, stepped_still, tried_still}
use Rattle.pipe_machine.proofs.reply.reply.Goals as goal

pub returns-clause-plain : goal.returns-clause-plain
returns-clause-plain g c =
    let good = subst (IsGood (submits c.args.message)) (sym c.in_ok-request.ensures.ok) (taken_good c.args.session.now c.args.message c.requires) in
    plain_after reply_message (submits c.args.message) (hosted_of c.args.shelf.now) (hosted_of c.answer.new.shelf) c.args.time c.take.new.self c.answer.new.session c.in_ok-request.request c.answer.result good c.answer.ensures.reply c.answer.ensures.same

pub returns-clause-short : goal.returns-clause-short
returns-clause-short g c =
    let good = subst (IsGood (submits c.args.message)) (sym c.in_ok-request.ensures.ok) (taken_good c.args.session.now c.args.message c.requires) in
    short_after reply_message (submits c.args.message) (hosted_of c.args.shelf.now) (hosted_of c.answer.new.shelf) c.args.time c.take.new.self c.answer.new.session c.in_ok-request.request c.answer.result good c.answer.ensures.reply

pub returns-clause-moved : goal.returns-clause-moved
returns-clause-moved g c =
    let good = subst (IsGood (submits c.args.message)) (sym c.in_ok-request.ensures.ok) (taken_good c.args.session.now c.args.message c.requires) in
    only_if c.args.shelf.now c.answer.new.shelf good.only c.answer.ensures.moved

pub returns-in_err-request-clause-ended : goal.returns-in_err-request-clause-ended
returns-in_err-request-clause-ended g c =
    let p = err_from_is_err_and c.from_residual.result c.from_residual.ensures.1 in
    ended_memory c.args.shelf.now c.args.shelf.now _ c.from_residual.result p.0 p.1 p.2 (tried_still c.args.shelf.now _) (stepped_still c.args.shelf.now _)
