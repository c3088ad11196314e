use Rattle.std.proofs.Common.{◌≡◌, ◌++◌, map, drop}
use Rattle.std.specs.FinMap.{keys}
use Rattle.std.specs.List.{filter}
use Rattle.wave_index.specs.Inboxes.{is_hit, hit_at}
use Rattle.wave_index.proofs.hits.put_hits.Given as goal

abbrev pub invariant-loop-document : goal.invariant-loop-document
invariant-loop-document l =
    l.hits.items ++ map (hit_at l.name) (filter (is_hit l.state l.word) (map (λ k. k.now) (drop l.document-index l.document-items)))
    ≡ l.initial.hits.items ++ map (hit_at l.name) (filter (is_hit l.state l.word) (keys l.state.documents))
