use Rattle.std.proofs.Common.{IsSome, option_copied, slice_get, ap, ◌∙◌}
use Rattle.wavelet_shelf.specs.Entries.{hosting}
use Rattle.wavelet_shelf.specs.Hosting.{names_of}
use Rattle.wavelet_shelf.specs.Shelves.{copies_of}
use Rattle.wavelet_shelf.proofs.Growing.{shown_ascend}
use Rattle.wavelet_shelf.proofs.Placing.{hist, hist_ascends}
use Rattle.wavelet_shelf.proofs.Sharing.{host_there, lent_name}
use Rattle.wavelet_shelf.proofs.Shelving.{deltas_of}
use Rattle.wavelet_shelf.proofs.copies.ShelfCopies.hosted.Goals as goal

pub returns-clause-there : goal.returns-clause-there
returns-clause-there g c =
    let s = c.args.self.now.containers in
    lent_name (λ n. IsSome (copies_of c.args.self.now n)) c.hosted.result (host_there s.map.entries c.args.place (option_copied c.hosted.result) s.in_order c.hosted.ensures)

pub returns-clause-ascending : goal.returns-clause-ascending
returns-clause-ascending g c =
    let es = c.args.self.now.containers.map.entries in
    shown_ascend (hist deltas_of es) (hist_ascends deltas_of es c.args.self.now.containers.in_order.0)
