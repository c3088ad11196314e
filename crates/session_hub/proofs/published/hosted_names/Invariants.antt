use Rattle.std.proofs.Common.{◌≡◌, ◌++◌, map}
use Rattle.wavelet_shelf.specs.Hosting.{names_of}
use Rattle.wavelet_shelf.specs.Shelves.{hosted_of}
use Rattle.hosted_copies.specs.Domains.{hosted_by, hosted_from}
use Rattle.session_hub.proofs.published.hosted_names.Given as goal

abbrev pub invariant-loop-place : goal.invariant-loop-place
invariant-loop-place g l =
    map (λ n. n.now) l.names.items ++ names_of (hosted_from l.hosted.domain.now l.hosted.shelf.now l.place)
    ≡ names_of (hosted_by l.hosted.domain.now (hosted_of l.hosted.shelf.now))
