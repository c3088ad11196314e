use Rattle.wavelet_shelf.proofs.Growing.{shown_ascend}
use Rattle.wavelet_shelf.proofs.Placing.{hist, hist_ascends}
use Rattle.wavelet_shelf.proofs.Sharing.{copy_alike, have_deltas}
use Rattle.wavelet_shelf.proofs.Shelving.{deltas_of}
use Rattle.wavelet_shelf.proofs.shelf.Shelf.copies_are_hosted.Goals as goal

pub returns-clause-copies : goal.returns-clause-copies
returns-clause-copies g c n = copy_alike c.args.self.now.containers.map.entries n c.args.self.now.containers.in_order

pub returns-clause-deltas : goal.returns-clause-deltas
returns-clause-deltas g c = have_deltas (hist deltas_of c.args.self.now.containers.map.entries)

pub returns-clause-ascending : goal.returns-clause-ascending
returns-clause-ascending g c =
    let es = c.args.self.now.containers.map.entries in
    shown_ascend (hist deltas_of es) (hist_ascends deltas_of es c.args.self.now.containers.in_order.0)
