use Rattle.wave_index.proofs.Versions.{put_version}
use Rattle.wave_index.proofs.changed.ChangedVersions.set.Goals as goal

pub returns-in-Some-clause-is : goal.returns-in-Some-clause-is
returns-in-Some-clause-is c = put_version c.args.self.now.map (c.get_mut.follows.lender c.args.version) c.args.name.now c.args.version ((c.get_mut.follows.holds c.args.version).3 c.requires).0
