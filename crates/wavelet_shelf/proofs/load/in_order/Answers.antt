use Rattle.wavelet_shelf.proofs.Sorting.{sorted_ascends, sorted_same}
use Rattle.wavelet_shelf.proofs.load.in_order.Goals as goal

pub returns-clause-ascending : goal.returns-clause-ascending
returns-clause-ascending c = sorted_ascends c.sort_unstable.new.self.items c.dedup.new.self.items c.sort_unstable.ensures.sorted c.dedup.ensures.filtered

pub returns-clause-same : goal.returns-clause-same
returns-clause-same c m = sorted_same c.args.names.items c.sort_unstable.new.self.items c.dedup.new.self.items m c.sort_unstable.ensures.permutation c.dedup.ensures.filtered
