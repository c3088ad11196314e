use Rattle.std.proofs.Common.{subst, Option, ℕ}
use Rattle.wavelet_op.specs.Acts.{meanings}
use Rattle.wavelet_container.specs.Decisions.{IsInvalidAt}
use Rattle.wavelet_container.proofs.Judging.{invalid_told, invalid_full}
use Rattle.wavelet_container.proofs.cached.CachedHistory.decide_below.Goals as goal

pub returns-in-Some-clause-decided : goal.returns-in-Some-clause-decided
returns-in-Some-clause-decided c =
    invalid_told c.args.self.now c.args.submission.now c.args.place c.in-Some.index c.requires.base (subst (λ (o : Option ℕ). IsInvalidAt c.args.self.now c.args.place (meanings c.args.submission.now.ops) o) c.in-Some.is c.in_ok-index.ensures.invalid) c.args.time

pub returns-in-Some-clause-full : goal.returns-in-Some-clause-full
returns-in-Some-clause-full c = invalid_full c.args.self.now c.args.submission.now c.args.time c.in-Some.index
