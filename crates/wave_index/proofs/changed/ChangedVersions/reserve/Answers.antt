use Rattle.std.proofs.Common.{sym, ◌∙◌}
use Rattle.wave_index.proofs.Versions.{put_first}
use Rattle.wave_index.proofs.changed.ChangedVersions.reserve.Goals as goal

pub returns-clause-same : goal.returns-clause-same
returns-clause-same c = put_first c.args.self.now.map c.insert.new.self c.args.name.now c.in_ok-name.name (sym c.contains_key.ensures ∙ c.if-contains_key.false) c.in_ok-name.ensures c.in_ok-_old.ensures.updates.0
