use Rattle.std.proofs.Common.{◌≡◌, ◌++◌, map}
use Rattle.wavelet_state.proofs.roles.Roles.addresses.Given as goal

abbrev pub invariant-loop-address : goal.invariant-loop-address
invariant-loop-address l = map (λ k. k.now) l.list.items ++ l.address-iterator ≡ l.initial.address-iterator
