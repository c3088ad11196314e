use Rattle.std.proofs.Common.{◌≡◌, ◌++◌, drop, map, string_bytes}
use Rattle.std.specs.List.{flat_map}
use Rattle.wave_screen.specs.Screen.{participant_text}
use Rattle.wave_screen.proofs.screen.push_addresses.Given as goal

abbrev pub invariant-loop-address : goal.invariant-loop-address
invariant-loop-address l = string_bytes l.out ++ flat_map (participant_text l.state) (map (λ a. a.now) (drop l.address-index l.addresses)) ≡ string_bytes l.fn.out ++ flat_map (participant_text l.state) (map (λ a. a.now) l.addresses)
