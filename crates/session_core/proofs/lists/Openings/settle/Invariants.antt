use Rattle.std.proofs.Common.{◌≡◌, ◌++◌, ◌-◌, take, drop, length}
use Rattle.session_core.specs.Access.{shown_by}
use Rattle.session_core.specs.Deliveries.{openings_kept}
use Rattle.session_core.proofs.lists.Openings.settle.Given as goal

abbrev pub invariant-loop-place : goal.invariant-loop-place
invariant-loop-place g l = openings_kept (shown_by g.C.Copies l.copies) l.user l.fn.self ≡ take l.place l.self ++ openings_kept (shown_by g.C.Copies l.copies) l.user (drop l.place l.self)

abbrev pub decreases-loop-place : goal.decreases-loop-place
decreases-loop-place g l = length l.self - l.place
