use Rattle.std.proofs.Common.{◌≡◌, ◌++◌, ◌-◌, take, drop, length}
use Rattle.federation_link.specs.Takes.{without}
use Rattle.federation_link.proofs.taking.forget.Given as goal

abbrev pub invariant-loop-place : goal.invariant-loop-place
invariant-loop-place l = without l.name l.id l.fn.unanswered ≡ take l.place l.unanswered ++ without l.name l.id (drop l.place l.unanswered)

abbrev pub decreases-loop-place : goal.decreases-loop-place
decreases-loop-place l = length l.unanswered - l.place
