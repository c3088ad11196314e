use Rattle.std.proofs.Common.{subst}
use Rattle.std.proofs.lemmas.Result.{IfOk-weaker}
use Rattle.delta_history.specs.Pushes.{IsRefused}
use Rattle.wavelet_container.proofs.Judging.{ack_full, near_full}
use Rattle.wavelet_container.proofs.Outcomes.{acknowledged, base_moved, refusal_moved, turned_down}
use Rattle.wavelet_container.proofs.cached.CachedHistory.push.Goals as goal

pub refuse-requires : goal.refuse-requires
refuse-requires c = record { base = base_moved c.args.self.now c.push_applied.new.self c.args.submission.now c.args.place c.in-Err-NotLegal.ensures.same c.requires.made }

pub returns-in-Ok-clause-ok : goal.returns-in-Ok-clause-ok
returns-in-Ok-clause-ok c =
    acknowledged c.args.self.now c.push_applied.new.self c.args.submission.now c.args.time c.args.place c.version-at.result c.args.delta c.acknowledged.result c.requires c.in-Ok.ensures.ok c.acknowledged.ensures.legal c.version-at.ensures c.acknowledged.ensures.is

pub returns-in-Err-NotLegal-clause-ok : goal.returns-in-Err-NotLegal-clause-ok
returns-in-Err-NotLegal-clause-ok c =
    let never = (subst (IsRefused c.args.self.now c.args.delta) c.in-Err-NotLegal.field-0-is c.in-Err-NotLegal.ensures.refused).1 in
    IfOk-weaker c.refuse.result _ _ (λ v r. turned_down c.args.self.now c.push_applied.new.self c.refuse.new.self c.args.submission.now c.args.time c.args.place c.args.delta v c.requires never c.in-Err-NotLegal.ensures.same r c.refuse.ensures.same) c.refuse.ensures.verdict

pub returns-in-Ok-clause-full : goal.returns-in-Ok-clause-full
returns-in-Ok-clause-full c = ack_full c.args.self.now c.args.submission.now c.args.time c.version-at.result _ c.acknowledged.result c.acknowledged.ensures.is

pub returns-in-Err-NotLegal-clause-full : goal.returns-in-Err-NotLegal-clause-full
returns-in-Err-NotLegal-clause-full c =
    let never = (subst (IsRefused c.args.self.now c.args.delta) c.in-Err-NotLegal.field-0-is c.in-Err-NotLegal.ensures.refused).1 in
    IfOk-weaker c.refuse.result _ _ (λ v r. near_full c.args.self.now c.args.submission.now c.args.time c.args.place c.args.delta v c.requires never (refusal_moved c.args.self.now c.push_applied.new.self c.args.submission.now c.args.place v c.in-Err-NotLegal.ensures.same r)) c.refuse.ensures.verdict
