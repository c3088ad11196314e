use Rattle.std.proofs.Common.{rules, ◌≡◌, IsSome, slice_get, sym, ◌∙◌}
use Rattle.wavelet_shelf.specs.Hosting.{names_of}
use Rattle.wavelet_shelf.specs.Shelves.{hosted_of}
use Rattle.hosted_copies.specs.Domains.{hosted_by, copy_by}
use Rattle.hosted_copies.proofs.Showing.{hosted_there, lent_there}
use Rattle.hosted_copies.proofs.copies.HostedCopiesCopies.hosted.Goals as goal

pub returns-clause-there : goal.returns-clause-there
returns-clause-there g c =
    let domain = c.args.self.now.domain.now in
    let shelf = c.args.self.now.shelf.now in
    lent_there (λ n. IsSome (copy_by domain shelf n)) c.name_at.result (slice_get (names_of (hosted_by domain (hosted_of shelf))) c.args.place) c.name_at.ensures
    (λ n e. hosted_there domain shelf c.are_hosted.ensures.same.copy c.are_hosted.ensures.ascending c.are_hosted.ensures.deltas c.args.place n e)
