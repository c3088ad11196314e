use Rattle.std.proofs.Common.{◌≡◌, slice_get}
use Rattle.wavelet_shelf.specs.Hosting.{names_of}
use Rattle.wavelet_shelf.specs.Shelves.{hosted_of}
use Rattle.hosted_copies.specs.Domains.{hosted_by, hosted_from}
use Rattle.hosted_copies.proofs.copies.HostedCopies.name_at.Given as goal

abbrev pub invariant-loop-at : goal.invariant-loop-at
invariant-loop-at g l = slice_get (names_of (hosted_from l.self.domain.now l.self.shelf.now l.at)) l.left ≡ slice_get (names_of (hosted_by l.self.domain.now (hosted_of l.self.shelf.now))) l.fn.place
