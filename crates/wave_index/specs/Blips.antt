-- The blips of a wavelet, and what of them is unread.
--     manifest               the name of the document that has the threads
--     threads s              the threads of a state
--     is_live p              a blip that isn't deleted
--     named_items s id       the items of the document that an id names; an id that is no document's name names none
--     named_version ds id    the changed version of the document that an id names
--     title_of s ns          the title of the first blip that isn't deleted; empty where there is none
--     is_unread ds mark n    a blip that isn't deleted, and whose document changed after the mark
--     unread ds mark ns      how many of the blips are unread
use Rattle.std.specs.Prelude.{ℕ, ◌+◌, Bool, false, cond, ◌&&◌, not, nat_lt, codes, List, [], ◌∷◌}
use Rattle.doc_items.specs.Maps.{Key}
use Rattle.doc_items.specs.declared.item.Item.{Item}
use Rattle.wave_base.specs.Grammar.{is_id}
use Rattle.wavelet_op.specs.Deltas.{DeltaOf}
use Rattle.wavelet_op.specs.States.{State, document_of}
use Rattle.conversation.specs.Trees.{thread_tree}
use Rattle.conversation.specs.declared.node.Node.{Node}
use Rattle.conversation.specs.declared.node.Part.{Part}
use Rattle.conversation.specs.declared.node.Part.TheVariants.{Blip, Thread}
use Rattle.wave_index.specs.Changes.{changed_version}
use Rattle.wave_index.specs.Titles.{title}

abbrev pub manifest : Key
manifest = codes "conversation"

abbrev pub threads : State → List Node
threads s = thread_tree (document_of s manifest)

abbrev pub is_live : Part → Bool
is_live (Blip deleted) = not deleted
is_live (Thread inline) = false

abbrev pub named_items : State → Key → List Item
named_items s id = cond (is_id id) (document_of s id) []

abbrev pub named_version : List DeltaOf → Key → ℕ
named_version ds id = cond (is_id id) (changed_version id ds) 0

abbrev pub title_of : State → List Node → List ℕ
title_of s [] = []
title_of s (n ∷ ns) = cond (is_live n.part) (title (named_items s n.id)) (title_of s ns)

abbrev pub is_unread : List DeltaOf → ℕ → Node → Bool
is_unread ds mark n = is_live n.part && nat_lt mark (named_version ds n.id)

abbrev pub unread : List DeltaOf → ℕ → List Node → ℕ
unread ds mark [] = 0
unread ds mark (n ∷ ns) = cond (is_unread ds mark n) 1 0 + unread ds mark ns
