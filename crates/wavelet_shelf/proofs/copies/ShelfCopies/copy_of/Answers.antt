use Rattle.std.proofs.Common.{sym, ap, ◌∙◌}
use Rattle.delta_history.specs.Histories.{HistoryOf}
use Rattle.wavelet_shelf.proofs.Sharing.{found_named}
use Rattle.wavelet_shelf.proofs.copies.ShelfCopies.copy_of.Goals as goal

pub returns-else-is_empty-clause-named : goal.returns-else-is_empty-clause-named
returns-else-is_empty-clause-named g c =
    let s = c.args.self.now.containers in
    ap (λ (h : HistoryOf). h.name) c.history-history.ensures ∙ found_named s.map.entries c.args.name.now c.in_ok-filed.filed.now s.in_order (sym c.in_ok-filed.ensures.value)
