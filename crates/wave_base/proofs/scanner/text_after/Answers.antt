use Rattle.std.proofs.Common.{sym}
use Rattle.wave_base.proofs.Cuts.{behind-none}
use Rattle.wave_base.proofs.scanner.text_after.Goals as goal

pub returns-in-None : goal.returns-in-None
returns-in-None c = sym (behind-none c.args.separator c.args.text.now c.in-None.ensures)
