use Rattle.std.proofs.Common.{◌≡◌, slice_get}
use Rattle.wavelet_state.proofs.roles.Roles.at.Given as goal

abbrev pub invariant-loop-address : goal.invariant-loop-address
invariant-loop-address l = slice_get l.address-iterator l.left ≡ slice_get l.initial.address-iterator l.place
