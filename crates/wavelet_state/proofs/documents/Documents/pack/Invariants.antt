use Rattle.std.proofs.Common.{◌≡◌, ◌++◌}
use Rattle.wavelet_state.proofs.documents.Documents.pack.Given as goal

abbrev pub invariant-loop-name : goal.invariant-loop-name
invariant-loop-name l = l.map.entries ++ l.name-iterator ≡ l.initial.name-iterator
