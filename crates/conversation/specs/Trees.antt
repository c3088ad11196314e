-- The tree of a manifest. Reading goes from item to item: a start that the tree has at its place opens a part of it, any other is
-- passed over with all that is in it.
--     Reading                  whether the conversation was found, how many of its elements are open, itself included, and how many
--                              elements are open that are passed over
--     start, opened, passed, closed     before the first item; after a start of the tree, after another one, after an end
--     is_named kind name       an element's type is this one
--     kind_at d                the type of a node of this depth: `blip` or `thread`
--     enters r kind m          a start of this type, with these attributes, is of the tree: the first `conversation`, or a blip or a
--                              thread in its place that has an `id`
--     step r i                 how far the manifest is read after an item
--     holds m key              an attribute is `true`
--     part_at d m, node_at d m what stands at this depth
--     shown r i                the node that an item adds
--     tree r items             the nodes of the items
--     behind r items          how far the manifest is read after them
--     thread_tree items        the tree of a manifest
use Rattle.std.specs.Prelude.{ℕ, zero, suc, ◌+◌, ◌-◌, ◌%◌, ◌==◌, Bool, true, false, cond, ◌&&◌, not, List, [], ◌∷◌, ◌++◌, Some, is_some, unwrap_or, codes}
use Rattle.std.specs.FinMap.{get}
use Rattle.std.specs.Cmp.Lexicographic.{pointwise}
use Rattle.std.specs.Str.{encode_utf8_all}
use Rattle.doc_items.specs.Maps.{Key, Map, same_value}
use Rattle.doc_items.specs.declared.item.Content.{Content}
use Rattle.doc_items.specs.declared.item.Content.TheVariants.{Character, Start, End}
use Rattle.doc_items.specs.declared.item.Item.{Item}
use Rattle.conversation.specs.declared.node.Node.{Node}
use Rattle.conversation.specs.declared.node.Part.{Part}
use Rattle.conversation.specs.declared.node.Part.TheVariants.{Blip, Thread}
use Rattle.conversation.specs.declared.reading.Reading.{Reading}

abbrev pub start : Reading
start = record { found = false; inside = 0; passed = 0 }

abbrev pub opened : Reading → Reading
opened r = record { found = true; inside = r.inside + 1; passed = r.passed }

abbrev pub passed : Reading → Reading
passed r = record { found = r.found; inside = r.inside; passed = r.passed + 1 }

abbrev pub closed : Reading → Reading
closed r = cond (r.passed == 0) (record { found = r.found; inside = r.inside - 1; passed = 0 })
    (record { found = r.found; inside = r.inside; passed = r.passed - 1 })

abbrev pub is_named : List ℕ → List ℕ → Bool
is_named kind name = pointwise ◌==◌ (encode_utf8_all kind) name

abbrev pub kind_at : ℕ → List ℕ
kind_at d = cond (d % 2 == 0) (codes "blip") (codes "thread")

abbrev pub enters_at : Bool → ℕ → List ℕ → Map Key → Bool
enters_at found zero kind m = not found && is_named kind (codes "conversation")
enters_at found (suc d) kind m = is_named kind (kind_at d) && is_some (get m (codes "id"))

abbrev pub enters : Reading → List ℕ → Map Key → Bool
enters r kind m = (r.passed == 0) && enters_at r.found r.inside kind m

abbrev pub step_content : Reading → Content → Reading
step_content r (Character c) = r
step_content r (Start kind m) = cond (enters r kind m) (opened r) (passed r)
step_content r End = closed r

abbrev pub step : Reading → Item → Reading
step r i = step_content r i.content

abbrev pub holds : Map Key → List ℕ → Bool
holds m key = same_value (get m key) (Some (codes "true"))

abbrev pub part_at : ℕ → Map Key → Part
part_at d m = cond (d % 2 == 0) (Blip (holds m (codes "deleted"))) (Thread (holds m (codes "inline")))

abbrev pub node_at : ℕ → Map Key → Node
node_at d m = record { depth = d; part = part_at d m; id = unwrap_or (get m (codes "id")) [] }

abbrev pub nodes_at : ℕ → Map Key → List Node
nodes_at zero m = []
nodes_at (suc d) m = node_at d m ∷ []

abbrev pub shown_content : Reading → Content → List Node
shown_content r (Character c) = []
shown_content r (Start kind m) = cond (enters r kind m) (nodes_at r.inside m) []
shown_content r End = []

abbrev pub shown : Reading → Item → List Node
shown r i = shown_content r i.content

abbrev pub tree : Reading → List Item → List Node
tree r [] = []
tree r (i ∷ items) = shown r i ++ tree (step r i) items

abbrev pub behind : Reading → List Item → Reading
behind r [] = r
behind r (i ∷ items) = behind (step r i) items

abbrev pub thread_tree : List Item → List Node
thread_tree items = tree start items
