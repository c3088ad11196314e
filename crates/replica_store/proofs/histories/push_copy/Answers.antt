use Rattle.std.proofs.Common.{subst}
use Rattle.wavelet_op.specs.Deltas.{DeltaOf}
use Rattle.delta_history.specs.Legal.{IsNext}
use Rattle.replica_store.proofs.Absorbs.{next_of}
use Rattle.replica_store.proofs.histories.push_copy.Goals as goal

pub returns-clause-next : goal.returns-clause-next
returns-clause-next c = subst (λ (d : DeltaOf). IsNext c.args.history.now.name c.args.history.now.deltas d) c.in_ok-copy.ensures (next_of c.args.history.now c.push_applied.new.self c.in_ok-copy.copy c.in_ok-push_applied.ensures.ok c.deltas-after.ensures.legal)
