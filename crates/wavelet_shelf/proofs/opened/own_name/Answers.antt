use Rattle.wavelet_shelf.proofs.Ascii.{name_utf8}
use Rattle.wavelet_shelf.proofs.opened.own_name.Goals as goal

pub returns-in_default : goal.returns-in_default
returns-in_default c own = c.in_default.ensures.cases.0 (name_utf8 c.args.bytes.now own.name_is)
