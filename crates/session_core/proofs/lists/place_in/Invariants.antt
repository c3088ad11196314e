use Rattle.std.proofs.Common.{◌≡◌, ◌+◌, drop, option_map}
use Rattle.session_core.specs.Rules.{place_of}
use Rattle.session_core.proofs.lists.place_in.Given as goal

abbrev pub invariant-loop-place : goal.invariant-loop-place
invariant-loop-place l = place_of l.name l.list ≡ option_map (λ i. i + l.place) (place_of l.name (drop l.place l.list))
