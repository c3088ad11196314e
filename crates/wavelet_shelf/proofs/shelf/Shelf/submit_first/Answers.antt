use Rattle.wavelet_shelf.proofs.Shelving.{after_first_tests, looks_here, none_of}
use Rattle.wavelet_shelf.proofs.shelf.Shelf.submit_first.Goals as goal

pub returns-in-Some : goal.returns-in-Some
returns-in-Some g c =
    let a = c.args.self.now in
    after_first_tests a c.args.name.now c.args.submission.now c.args.time c.in-Some.verdict a.containers.in_order (none_of _ c.requires.absent) (c.in-Some.ensures.told c.args.time)

pub submit_new-requires-clause-late : goal.submit_new-requires-clause-late
submit_new-requires-clause-late g c =
    let a = c.args.self.now in
    looks_here a c.args.name.now c.args.submission.now c.args.time a.containers.in_order (none_of _ c.requires.absent) (c.first_verdict.ensures.left c.in-None.is c.args.time)
