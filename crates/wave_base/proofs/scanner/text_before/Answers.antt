use Rattle.std.proofs.Common.{sym}
use Rattle.wave_base.proofs.Cuts.{before-all}
use Rattle.wave_base.proofs.scanner.text_before.Goals as goal

pub returns-in-None : goal.returns-in-None
returns-in-None c = sym (before-all c.args.separator c.args.text.now c.in-None.ensures)
