use Rattle.shard_copies.proofs.Showing.{same_kept}
use Rattle.shard_copies.proofs.copies.ShardCopies.are_shown.Goals as goal

pub returns-clause-same : goal.returns-clause-same
returns-clause-same g c = same_kept c.args.self.now.hosted.domain.now c.args.self.now.hosted.shelf.now c.args.self.now.replicas.now c.are_hosted.ensures.same c.are_named.ensures
