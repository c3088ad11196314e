use Rattle.std.proofs.Common.{rules, not}
use Rattle.std.proofs.lemmas.Fn.{filter_same}
use Rattle.wave_base.specs.Versions.{same_id}
use Rattle.replica_store.specs.declared.outcomes.Noted.{Noted}
use Rattle.replica_store.proofs.outcomes.forget.Goals as goal

pub returns : goal.returns
returns c = filter_same _ (λ (n : Noted). not (same_id c.args.id.now n.id)) _ (λ x b f' k. search rules) _ _ c.retain.ensures.filtered
