use Rattle.shard_copies.proofs.Showing.{lent_there}
use Rattle.shard_copies.proofs.copies.ShardCopiesCopies.hosted.Goals as goal

pub returns-clause-there : goal.returns-clause-there
returns-clause-there g c = lent_there c.args.self.now.hosted.domain.now c.args.self.now.hosted.shelf.now c.args.self.now.replicas.now (λ n. n.now) c.hosted.result c.hosted.ensures.there
