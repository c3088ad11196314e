use Rattle.std.proofs.Common.{arith}
use Rattle.op_compose.proofs.Arms.{both_gone, gone_unlike, gone_unnamed}
use Rattle.op_compose.proofs.weave.Weave.drop_inserted.Goals as goal

pub returns-then-not-passes-clause-passed : goal.returns-then-not-passes-clause-passed
returns-then-not-passes-clause-passed c = gone_unnamed _ _ _ _ _ _ _ c.requires.some c.requires.same c.passes.ensures c.if-not-passes.true

pub returns-then-same-count-clause-passed : goal.returns-then-same-count-clause-passed
returns-then-same-count-clause-passed c = gone_unlike _ _ c.len-count.result _ _ _ _ _ _ c.requires.same c.len-count.ensures c.common-same.ensures c.if-same-count.true c.passes.ensures c.if-not-passes.false

pub returns-clause-passed : goal.returns-clause-passed
returns-clause-passed c = both_gone _ _ _ c.common-same.result _ _ _ _ _ c.requires.same c.len-count.ensures c.common-same.ensures (λ less. let more = c.if-same-count.false in omega (arith, less, more)) c.passes.ensures c.if-not-passes.false
