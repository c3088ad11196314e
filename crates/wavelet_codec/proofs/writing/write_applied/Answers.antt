use Rattle.std.proofs.Common.{rules}
use Rattle.wavelet_codec.proofs.writing.write_applied.Goals as goal

pub returns-in-Err-clause-same : goal.returns-in-Err-clause-same
returns-in-Err-clause-same c = search rules
