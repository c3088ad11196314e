-- Spans: so many neighbouring items, and the changes that run over them.
--     items_of ss       the changes over each item, one by one
--     total ss          how many items there are
--     ends n ss         the places after the spans that have items, where the first item's place is n
--     is_end p ss       one of the spans ends at the place p
use Rattle.std.specs.Prelude.{ℕ, ◌+◌, ◌==◌, if◌then◌else◌, Bool, List, [], ◌∷◌, ◌++◌, replicate}
use Rattle.std.specs.List.{list_any}
use Rattle.doc_items.specs.declared.change.Change.{Change}
use Rattle.annotation_track.specs.declared.spans.Span.{Span}

abbrev pub items_of : List Span → List (List Change)
items_of [] = []
items_of (s ∷ ss) = replicate s.count s.changes ++ items_of ss

abbrev pub total : List Span → ℕ
total [] = 0
total (s ∷ ss) = s.count + total ss

abbrev pub ends : ℕ → List Span → List ℕ
ends n [] = []
ends n (s ∷ ss) = if s.count == 0 then ends n ss else ((n + s.count) ∷ ends (n + s.count) ss)

abbrev pub has : ℕ → List ℕ → Bool
has p places = list_any (λ q. p == q) places

abbrev pub is_end : ℕ → List Span → Bool
is_end p ss = has p (ends 0 ss)
