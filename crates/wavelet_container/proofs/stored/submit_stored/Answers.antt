use Rattle.std.proofs.Common.{inl, inr}
use Rattle.wavelet_container.specs.Decisions.{judged}
use Rattle.wavelet_container.proofs.Journals.{moved_on, moved_repair, sure_none}
use Rattle.wavelet_container.proofs.stored.submit_stored.Goals as goal

pub returns-in-Ok-clause-moved : goal.returns-in-Ok-clause-moved
returns-in-Ok-clause-moved g c =
    let added = (judged c.args.wavelet.now c.args.submission.now c.args.time).1 in
    let first = moved_repair c.args.wavelet.now c.args.journal.now c.repair.new.self added c.repair.ensures.any_moment c.repair.ensures.held (inl (sure_none c.repair.new.self c.in-Ok.ensures.done)) c.repair.ensures.cause.later in
    moved_on c.args.wavelet.now c.submit_repaired.new.wavelet c.args.journal.now c.repair.new.self c.submit_repaired.new.journal added first c.in-Ok.ensures.done c.submit_repaired.ensures.moved

pub returns-in-Err-clause-moved : goal.returns-in-Err-clause-moved
returns-in-Err-clause-moved g c =
    let added = (judged c.args.wavelet.now c.args.submission.now c.args.time).1 in
    moved_repair c.args.wavelet.now c.args.journal.now c.repair.new.self added c.repair.ensures.any_moment c.repair.ensures.held (inr c.in-Err.ensures.left_over) c.repair.ensures.cause.later
