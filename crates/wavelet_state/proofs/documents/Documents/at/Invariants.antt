use Rattle.std.proofs.Common.{◌≡◌, slice_get}
use Rattle.wavelet_state.proofs.documents.Documents.at.Given as goal

abbrev pub invariant-loop-name : goal.invariant-loop-name
invariant-loop-name l = slice_get l.name-iterator l.left ≡ slice_get l.initial.name-iterator l.place
