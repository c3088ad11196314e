use Rattle.std.proofs.Common.{◌≡◌, ◌++◌}
use Rattle.wavelet_state.proofs.roles.Roles.copy.Given as goal

abbrev pub invariant-loop-address : goal.invariant-loop-address
invariant-loop-address l = l.map.entries ++ l.address-iterator ≡ l.initial.address-iterator
