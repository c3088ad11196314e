use Rattle.client_control.proofs.Kept.{new_kept}
use Rattle.client_control.proofs.follower.Follower.new.Goals as goal

pub invariant_of-result : goal.invariant_of-result
invariant_of-result c = new_kept c.args.name c.args.user c.args.client _ c.new.result c.new-2.result.items c.new-3.result c.requires (λ i. record { version = 0; hash = c.zero_hash.ensures i }) c.new.ensures c.new-2.ensures.items c.new-3.ensures
