use Rattle.std.proofs.Common.{◌≡◌, ◌&&◌, cond, take}
use Rattle.doc_items.specs.Maps.{Key, same_text}
use Rattle.document_words.specs.Places.{count_in}
use Rattle.wave_index.specs.Counts.{touched, moved}
use Rattle.wave_index.specs.Edges.{is_mutated}
use Rattle.wave_index.proofs.kept.move_all.Given as goal

abbrev pub invariant-loop-place : goal.invariant-loop-place
invariant-loop-place l =
    (w n d : Key) → count_in l.places w n d ≡ moved l.way (count_in l.initial.places w n d) (cond (same_text l.name n && is_mutated d (take l.place l.ops)) (touched l.state l.ops w d) 0)
