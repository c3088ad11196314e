-- Whether an address was a participant, by what came after.
--     was_before a x now         the address was one before an act that applies, by whether it is one after it
--     were_before a xs now       the same of acts in turn
use Rattle.std.specs.Prelude.{Bool, not, ◌&&◌, ◌||◌, List, [], ◌∷◌}
use Rattle.doc_items.specs.Maps.{Key, same_text}
use Rattle.wavelet_op.specs.Acts.{Act, Idle, Adds, Removes, Sets, Mutates}

abbrev pub was_before : Key → Act → Bool → Bool
was_before a Idle now = now
was_before a (Adds b) now = not (same_text a b) && now
was_before a (Removes b) now = same_text a b || now
was_before a (Sets b old new) now = now
was_before a (Mutates d acts) now = now

abbrev pub were_before : Key → List Act → Bool → Bool
were_before a [] now = now
were_before a (x ∷ xs) now = was_before a x (were_before a xs now)
