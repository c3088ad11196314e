use Rattle.std.proofs.Common.{cond, ap, ◌∙◌}
use Rattle.doc_items.specs.Maps.{same_text}
use Rattle.wave_index.specs.Versions.{version_in}
use Rattle.wave_index.proofs.Versions.{put_version}
use Rattle.wave_index.proofs.marks.Marks.set.Goals as goal

pub returns-clause-ok : goal.returns-clause-ok
returns-clause-ok c n =
    put_version c.args.self.now.versions c.insert.new.self c.in_ok-name.name c.args.version c.in_ok-_old.ensures.updates.0 n
    ∙ ap (λ k. cond (same_text k n) c.args.version (version_in c.args.self.now.versions n)) c.in_ok-name.ensures
