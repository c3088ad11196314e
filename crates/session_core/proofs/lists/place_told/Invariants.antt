use Rattle.std.proofs.Common.{◌≡◌, ◌+◌, drop, option_map}
use Rattle.session_core.specs.Answers.{place_told}
use Rattle.session_core.proofs.lists.place_told.Given as goal

abbrev pub invariant-loop-place : goal.invariant-loop-place
invariant-loop-place l = place_told l.name l.list ≡ option_map (λ i. i + l.place) (place_told l.name (drop l.place l.list))
