use Rattle.std.proofs.Common.{◌≡◌, [], map, drop}
use Rattle.shard_marks.specs.Told.{published}
use Rattle.session_hub.specs.Records.{mark_of}
use Rattle.session_hub.proofs.published.named_from.Given as goal

abbrev pub invariant-loop-index : goal.invariant-loop-index
invariant-loop-index l =
    published l.domain (map (λ n. n.now) l.names.items) (map mark_of (drop l.index l.records)) ≡ published l.domain [] (map mark_of (drop l.from l.records))
