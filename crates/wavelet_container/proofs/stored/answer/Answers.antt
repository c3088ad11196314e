use Rattle.std.proofs.Common.{Err, sym, ap, subst}
use Rattle.std.proofs.lemmas.Result.{IfOk-weaker}
use Rattle.delta_history.specs.Histories.{HistoryOf}
use Rattle.wavelet_container.specs.Decisions.{judged}
use Rattle.wavelet_container.specs.Stores.{IsMoved}
use Rattle.wavelet_container.proofs.Judging.{ack_full, near_full}
use Rattle.wavelet_container.proofs.Outcomes.{acknowledged, accepted_is, base_moved, refusal_moved, turned_down}
use Rattle.wavelet_container.proofs.stored.answer.Goals as goal

pub refused-requires : goal.refused-requires
refused-requires g c = base_moved c.args.wavelet.now c.store.new.wavelet c.args.submission.now c.args.place c.in-Err-NotLegal.ensures.same c.requires.near.made

pub returns-in-Ok-clause-answered : goal.returns-in-Ok-clause-answered
returns-in-Ok-clause-answered g c =
    acknowledged c.args.wavelet.now c.store.new.wavelet c.args.submission.now c.args.time c.args.place c.version-at.result c.args.delta c.acknowledged.result c.requires.near c.in-Ok.ensures.grown c.acknowledged.ensures.legal c.version-at.ensures c.acknowledged.ensures.is

pub returns-in-Ok-clause-moved : goal.returns-in-Ok-clause-moved
returns-in-Ok-clause-moved g c = c.store.ensures.moved (judged c.args.wavelet.now c.args.submission.now c.args.time).1 (λ next. accepted_is c.args.wavelet.now c.args.submission.now c.args.time c.args.place c.args.delta c.requires.near next)

pub returns-in-Err-NotLegal-clause-answered : goal.returns-in-Err-NotLegal-clause-answered
returns-in-Err-NotLegal-clause-answered g c =
    let never = c.in-Err-NotLegal.ensures.refused (ap Err c.in-Err-NotLegal.field-0-is) in
    IfOk-weaker c.refused.result _ _ (λ v r. turned_down c.args.wavelet.now c.store.new.wavelet c.refused.new.wavelet c.args.submission.now c.args.time c.args.place c.args.delta v c.requires.near never c.in-Err-NotLegal.ensures.same r c.refused.ensures.same) c.refused.ensures.verdict

pub returns-in-Err-NotLegal-clause-moved : goal.returns-in-Err-NotLegal-clause-moved
returns-in-Err-NotLegal-clause-moved g c =
    let added = (judged c.args.wavelet.now c.args.submission.now c.args.time).1 in
    let moved = c.store.ensures.moved added (λ next. accepted_is c.args.wavelet.now c.args.submission.now c.args.time c.args.place c.args.delta c.requires.near next) in
    subst (λ (h : HistoryOf). IsMoved c.args.wavelet.now h c.args.journal.now c.store.new.journal added) (sym c.refused.ensures.same) moved

pub returns-in-Err-DiskFault-clause-moved : goal.returns-in-Err-DiskFault-clause-moved
returns-in-Err-DiskFault-clause-moved g c = c.store.ensures.moved (judged c.args.wavelet.now c.args.submission.now c.args.time).1 (λ next. accepted_is c.args.wavelet.now c.args.submission.now c.args.time c.args.place c.args.delta c.requires.near next)

pub returns-in-Err-Memory-clause-moved : goal.returns-in-Err-Memory-clause-moved
returns-in-Err-Memory-clause-moved g c = c.store.ensures.moved (judged c.args.wavelet.now c.args.submission.now c.args.time).1 (λ next. accepted_is c.args.wavelet.now c.args.submission.now c.args.time c.args.place c.args.delta c.requires.near next)

pub returns-in-Ok-clause-full : goal.returns-in-Ok-clause-full
returns-in-Ok-clause-full g c = ack_full c.args.wavelet.now c.args.submission.now c.args.time c.version-at.result _ c.acknowledged.result c.acknowledged.ensures.is

pub returns-in-Err-NotLegal-clause-full : goal.returns-in-Err-NotLegal-clause-full
returns-in-Err-NotLegal-clause-full g c =
    let never = c.in-Err-NotLegal.ensures.refused (ap Err c.in-Err-NotLegal.field-0-is) in
    IfOk-weaker c.refused.result _ _ (λ v r. near_full c.args.wavelet.now c.args.submission.now c.args.time c.args.place c.args.delta v c.requires.near never (refusal_moved c.args.wavelet.now c.store.new.wavelet c.args.submission.now c.args.place v c.in-Err-NotLegal.ensures.same r)) c.refused.ensures.verdict
