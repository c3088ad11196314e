use Rattle.std.proofs.Common.{Option, option_copied, sym, ap, ◌∙◌}
use Rattle.test_copies.specs.declared.held.Held.{Held}
use Rattle.test_copies.proofs.Holding.{named}
use Rattle.test_copies.proofs.copies.MemoryCopiesCopies.copy_of.Goals as goal

pub returns-else-is_empty-clause-named : goal.returns-else-is_empty-clause-named
returns-else-is_empty-clause-named c = named c.as_slice.result.now c.args.name.now c.in_ok-held.held.now (sym c.in_ok-held.ensures)
