use Rattle.std.proofs.Common.{◌≡◌, drop}
use Rattle.delta_history.specs.Places.{place_from}
use Rattle.delta_history.proofs.places.place_from.Given as goal

abbrev pub invariant-loop-place : goal.invariant-loop-place
invariant-loop-place l = place_from l.fn.id l.fn.from (drop l.fn.from l.fn.deltas) ≡ place_from l.fn.id l.place (drop l.place l.fn.deltas)
