use Rattle.std.proofs.Common.{◌≡◌, ◌+◌}
use Rattle.wavelet_state.specs.Parts.{count_all}
use Rattle.wavelet_state.proofs.documents.Documents.fit.Given as goal

abbrev pub invariant-loop-rope : goal.invariant-loop-rope
invariant-loop-rope l = count_all l.rope-iterator + l.limit ≡ count_all l.initial.rope-iterator + l.left
