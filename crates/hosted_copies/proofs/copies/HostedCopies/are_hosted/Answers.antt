use Rattle.hosted_copies.proofs.Hosts.{hosted_ascend, hosted_have}
use Rattle.hosted_copies.proofs.Showing.{same_hosted}
use Rattle.wavelet_shelf.specs.Shelves.{hosted_of}
use Rattle.hosted_copies.proofs.copies.HostedCopies.are_hosted.Goals as goal

pub returns-clause-same : goal.returns-clause-same
returns-clause-same g c = same_hosted c.args.self.now.domain.now c.args.self.now.shelf.now c.copies_are_hosted.ensures.copies

pub returns-clause-deltas : goal.returns-clause-deltas
returns-clause-deltas g c = hosted_have c.args.self.now.domain.now (hosted_of c.args.self.now.shelf.now) c.copies_are_hosted.ensures.deltas

pub returns-clause-ascending : goal.returns-clause-ascending
returns-clause-ascending g c = hosted_ascend c.args.self.now.domain.now (hosted_of c.args.self.now.shelf.now) c.copies_are_hosted.ensures.ascending
