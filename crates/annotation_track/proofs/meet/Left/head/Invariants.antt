use Rattle.std.proofs.Common.{length}
use Rattle.annotation_track.specs.Meets.{left, Alike}
use Rattle.annotation_track.proofs.meet.Left.head.Given as goal

abbrev pub invariant-loop-span : goal.invariant-loop-span
invariant-loop-span l = Alike (left l.fn.self) (left l.self)

abbrev pub decreases-loop-span : goal.decreases-loop-span
decreases-loop-span l = length l.self.rest.now
