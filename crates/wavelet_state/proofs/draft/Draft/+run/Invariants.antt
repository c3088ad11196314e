use Rattle.std.proofs.Common.{length}
use Rattle.wavelet_state.proofs.draft.Draft.+run.Given as goal

abbrev pub decreases-run : goal.decreases-run
decreases-run l = length l.ops.now
