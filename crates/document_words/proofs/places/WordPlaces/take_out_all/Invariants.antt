use Rattle.std.proofs.Common.{◌≡◌, ◌-◌, ◌&&◌, cond, drop}
use Rattle.doc_items.specs.Maps.{Key, same_text}
use Rattle.document_words.specs.Places.{count_in}
use Rattle.document_words.specs.Words.{occurrences}
use Rattle.document_words.proofs.places.WordPlaces.take_out_all.Given as goal

abbrev pub invariant-loop-word : goal.invariant-loop-word
invariant-loop-word l =
    (w n d : Key) → count_in l.self w n d - cond (same_text l.name n && same_text l.document d) (occurrences w (drop l.word-index l.words)) 0
    ≡ count_in l.initial.self w n d - cond (same_text l.name n && same_text l.document d) (occurrences w l.words) 0
