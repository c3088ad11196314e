use Rattle.std.proofs.Common.{rules}
use Rattle.annotation_track.proofs.track.Track.step.Goals as goal

pub returns-clause-passed : goal.returns-clause-passed
returns-clause-passed c = search rules
