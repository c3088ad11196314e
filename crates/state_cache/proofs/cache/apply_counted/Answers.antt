use Rattle.std.proofs.Common.{rules, arith}
use Rattle.std.proofs.lemmas.Grind.{common_steps}
use Rattle.state_cache.proofs.cache.apply_counted.Goals as goal

pub returns-in_err-lead_on-clause-cost : goal.returns-in_err-lead_on-clause-cost
returns-in_err-lead_on-clause-cost g c = search rules

pub loop-delta-preserved : goal.loop-delta-preserved
loop-delta-preserved g c = record { state = grind (arith, common_steps); steps = search rules }
