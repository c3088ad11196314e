use Rattle.std.proofs.Common.{◌≡◌, ◌++◌, map, drop}
use Rattle.document_words.specs.Places.{wavelets_of}
use Rattle.wave_index.specs.Inboxes.{hits_at}
use Rattle.wave_index.proofs.Keeping.{walk}
use Rattle.wave_index.proofs.index.Index.held_hits.Given as goal

abbrev pub invariant-loop-name : goal.invariant-loop-name
invariant-loop-name l = l.hits.items ++ walk (hits_at l.self l.user l.word) (map (λ k. k.now) (drop l.name-index l.name-items)) ≡ walk (hits_at l.self l.user l.word) (wavelets_of l.places l.word)
