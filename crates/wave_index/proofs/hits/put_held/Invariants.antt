use Rattle.std.proofs.Common.{◌≡◌, ◌++◌, map, drop}
use Rattle.document_words.specs.Places.{holders}
use Rattle.wave_index.specs.Inboxes.{hit_at}
use Rattle.wave_index.proofs.hits.put_held.Given as goal

abbrev pub invariant-loop-document : goal.invariant-loop-document
invariant-loop-document l = l.hits.items ++ map (hit_at l.name) (map (λ k. k.now) (drop l.document-index l.document-items)) ≡ l.initial.hits.items ++ map (hit_at l.name) (holders l.places l.word l.name)
