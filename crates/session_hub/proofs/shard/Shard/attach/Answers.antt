use Rattle.std.proofs.Common.{rules, option_copied}
use Rattle.wavelet_shelf.specs.Shelves.{hosted_of}
use Rattle.hosted_copies.specs.Domains.{hosted_by}
use Rattle.replica_store.specs.Worlds.{worlds_of}
use Rattle.shard_copies.specs.Kept.{shown_kept}
use Rattle.session_hub.specs.Entries.{entries_of}
use Rattle.shard_marks.proofs.Seeing.{attached_at}
use Rattle.session_hub.proofs.shard.Shard.attach.Goals as goal

pub returns-clause-reply : goal.returns-clause-reply
returns-clause-reply g c =
    let s = c.args.self.now in
    search (rules, attached_at (shown_kept s.domain s.shelf s.replicas) s.domain s.number (entries_of s) (hosted_by s.domain (hosted_of s.shelf)) (worlds_of s.replicas) c.are_shown.ensures.same s.replay s.copies c.args.session.now c.args.name.now (option_copied c.args.from))
