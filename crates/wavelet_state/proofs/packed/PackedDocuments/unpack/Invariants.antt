use Rattle.std.proofs.Common.{◌≡◌, ◌++◌}
use Rattle.wavelet_state.proofs.packed.PackedDocuments.unpack.Given as goal

abbrev pub invariant-loop-name : goal.invariant-loop-name
invariant-loop-name l = l.map.entries ++ l.name-iterator ≡ l.initial.name-iterator
