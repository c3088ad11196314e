use Rattle.std.proofs.Common.{rules, not, ◌∙◌}
use Rattle.std.proofs.lemmas.Fn.{filter_same}
use Rattle.wave_base.specs.Versions.{same_id}
use Rattle.wavelet_op.specs.declared.delta.Submission.{Submission}
use Rattle.replica_store.proofs.Entries.{filter_is}
use Rattle.replica_store.proofs.waiting.settle.Goals as goal

pub returns : goal.returns
returns c = filter_same _ (λ (s : Submission). not (same_id c.args.id.now s.id)) _ (λ x b f' k. search rules) _ _ c.retain.ensures.filtered ∙ filter_is c.args.id.now c.args.list.now.items
