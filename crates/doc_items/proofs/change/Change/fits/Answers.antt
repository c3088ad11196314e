use Rattle.std.proofs.Common.{rules}
use Rattle.doc_items.proofs.change.Change.fits.Goals as goal

pub returns-in-None-Some : goal.returns-in-None-Some
returns-in-None-Some c = search rules
