use Rattle.annotation_track.specs.Spans.{total}
use Rattle.annotation_track.specs.Meets.{left, IsMeeting}
use Rattle.annotation_track.proofs.meet.meet_tracks.Given as goal

abbrev pub invariant-meet : goal.invariant-meet
invariant-meet l = IsMeeting l.first l.second (left l.l) (left l.r) l.one.items l.two.items

abbrev pub decreases-meet : goal.decreases-meet
decreases-meet l = total (left l.l)
