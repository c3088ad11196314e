use Rattle.std.proofs.Common.{◌∙◌, ap, subst, Option, Some, None, ℕ}
use Rattle.wavelet_op.specs.Acts.{meanings}
use Rattle.wavelet_op.specs.declared.verdict.Verdict.TheVariants.{Full}
use Rattle.delta_history.specs.Histories.{HistoryOf, head_of}
use Rattle.wavelet_container.specs.Decisions.{IsInvalidAt}
use Rattle.wavelet_container.proofs.Judging.{refused_is}
use Rattle.wavelet_container.proofs.cached.CachedHistory.refuse.Goals as goal

pub returns-in-Some-clause-verdict : goal.returns-in-Some-clause-verdict
returns-in-Some-clause-verdict c =
    refused_is c.args.self.now c.args.submission.now c.args.place (Some c.in-Some.index) (subst (λ (o : Option ℕ). IsInvalidAt c.args.self.now c.args.place (meanings c.args.submission.now.ops) o) c.in-Some.is c.in_ok-invalid.ensures.invalid)

pub returns-in-None-clause-verdict : goal.returns-in-None-clause-verdict
returns-in-None-clause-verdict c base leads =
    let head = c.head-head.ensures ∙ ap (λ (h : HistoryOf). (head_of h).at) (c.history.ensures.value ∙ c.in_ok-invalid.ensures.same) in
    ap Full head ∙ refused_is c.args.self.now c.args.submission.now c.args.place None (subst (λ (o : Option ℕ). IsInvalidAt c.args.self.now c.args.place (meanings c.args.submission.now.ops) o) c.in-None.is c.in_ok-invalid.ensures.invalid) base leads
