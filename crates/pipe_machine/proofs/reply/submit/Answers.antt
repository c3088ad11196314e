use Rattle.std.proofs.Common.{Err, ap, refl}
use Rattle.pipe_machine.proofs.Moving.{taken_in, refused_in}
use Rattle.std.proofs.lemmas.Result.{err_from_is_err_and}
use Rattle.line_loop.specs.declared.line_machine.TurnFault.TheVariants.{Memory}
use Rattle.wavelet_shelf.specs.Hosting.{after_submission}
use Rattle.wavelet_shelf.specs.Shelves.{hosted_of}
use Rattle.pipe_machine.proofs.Trying.{ended_memory, ended_done, stepped_done, tried_done, tried_refused}
use Rattle.pipe_machine.proofs.reply.submit.Goals as goal

pub returns-in_err-message-in-Ok-clause-moved : goal.returns-in_err-message-in-Ok-clause-moved
returns-in_err-message-in-Ok-clause-moved g c =
    let s = c.submit.ensures in
    taken_in c.args.shelf.now c.submit.new.self c.args.name.now s.others s.kept c.args.submission.now c.args.time s.folder s.later c.copies_are_hosted.ensures.ascending c.in-Ok.ensures.grown

pub returns-in_ok-message-in-Ok-clause-moved : goal.returns-in_ok-message-in-Ok-clause-moved
returns-in_ok-message-in-Ok-clause-moved g c =
    let s = c.submit.ensures in
    taken_in c.args.shelf.now c.submit.new.self c.args.name.now s.others s.kept c.args.submission.now c.args.time s.folder s.later c.copies_are_hosted.ensures.ascending c.in-Ok.ensures.grown

pub returns-in-Err-DiskFault-clause-moved : goal.returns-in-Err-DiskFault-clause-moved
returns-in-Err-DiskFault-clause-moved g c =
    let s = c.submit.ensures in
    refused_in c.args.shelf.now c.submit.new.self c.args.name.now s.others s.kept c.args.submission.now c.args.time s.folder s.later c.in-Err-DiskFault.ensures.same

pub returns-in-Err-DiskFault-clause-ended : goal.returns-in-Err-DiskFault-clause-ended
returns-in-Err-DiskFault-clause-ended g c = record {
  settled = tt;
  failed = λ e. c.in-Err-DiskFault.ensures.failed (ap (λ z. Err z) c.in-Err-DiskFault.field-0-is);
  store = λ e. c.in-Err-DiskFault.ensures.disk (ap (λ z. Err z) c.in-Err-DiskFault.field-0-is);
  tried = tried_refused c.args.shelf.now c.submit.new.self c.args.name.now c.args.submission.now c.args.time c.copies_are_hosted.ensures.ascending c.submit.ensures.others c.in-Err-DiskFault.ensures.same c.submit.ensures.within;
  stepped = stepped_done c.args.shelf.now c.submit.new.self c.args.name.now c.args.submission.now c.args.time c.copies_are_hosted.ensures.ascending c.submit.ensures.others c.submit.ensures.begun c.submit.ensures.folder c.submit.ensures.unmade c.submit.ensures.moments;
}

pub returns-in-Err-Memory-clause-moved : goal.returns-in-Err-Memory-clause-moved
returns-in-Err-Memory-clause-moved g c =
    let s = c.submit.ensures in
    refused_in c.args.shelf.now c.submit.new.self c.args.name.now s.others s.kept c.args.submission.now c.args.time s.folder s.later c.in-Err-Memory.ensures.same

pub returns-in_err-message-in-Ok-clause-ended : goal.returns-in_err-message-in-Ok-clause-ended
returns-in_err-message-in-Ok-clause-ended g c =
    let p = err_from_is_err_and c.from_residual.result c.from_residual.ensures.1 in
    let after = after_submission (hosted_of c.args.shelf.now) c.args.name.now c.args.submission.now c.args.time in
    ended_memory c.args.shelf.now c.submit.new.self after c.from_residual.result p.0 p.1 p.2 (tried_done c.args.shelf.now c.submit.new.self after c.in-Ok.ensures.grown c.in-Ok.ensures.settled)
    (stepped_done c.args.shelf.now c.submit.new.self c.args.name.now c.args.submission.now c.args.time c.copies_are_hosted.ensures.ascending c.submit.ensures.others c.submit.ensures.begun c.submit.ensures.folder c.submit.ensures.unmade c.submit.ensures.moments)

pub returns-in_ok-message-in-Ok-clause-ended : goal.returns-in_ok-message-in-Ok-clause-ended
returns-in_ok-message-in-Ok-clause-ended g c = ended_done c.args.shelf.now c.submit.new.self _ _ c.in-Ok.ensures.settled
    (stepped_done c.args.shelf.now c.submit.new.self c.args.name.now c.args.submission.now c.args.time c.copies_are_hosted.ensures.ascending c.submit.ensures.others c.submit.ensures.begun c.submit.ensures.folder c.submit.ensures.unmade c.submit.ensures.moments)

pub returns-in-Err-Memory-clause-ended : goal.returns-in-Err-Memory-clause-ended
returns-in-Err-Memory-clause-ended g c =
    let s = c.submit.ensures in
    ended_memory c.args.shelf.now c.submit.new.self (after_submission (hosted_of c.args.shelf.now) c.args.name.now c.args.submission.now c.args.time) (Err Memory) Memory refl refl
    (tried_refused c.args.shelf.now c.submit.new.self c.args.name.now c.args.submission.now c.args.time c.copies_are_hosted.ensures.ascending s.others c.in-Err-Memory.ensures.same s.within)
    (stepped_done c.args.shelf.now c.submit.new.self c.args.name.now c.args.submission.now c.args.time c.copies_are_hosted.ensures.ascending s.others s.begun s.folder s.unmade s.moments)
