-- Where a node of the tree stands in its manifest.
--     is_kind_at d w            a node of this depth is of the kind that is wanted
--     is_wanted w id n          the node is the one of the id that is wanted
--     AreWithin b ns            each node stands in an element of the tree whose depth in the conversation is b
--     FirstAtMost d ns          the first node stands no deeper than d
--     IsBegun items f           an element of the tree begins at its place, and how far the manifest is read after its start
--     IsFound test items f      the start of the first node that passes the test, and how far the manifest is read after it
--     ends_here r c b           the content ends the element of the tree that was begun last where b were open
--     IsRoot items f            the start of the conversation, before which the tree has no node
--     IsRootless items          there is no conversation
--     IsEnd r items k           the item at k ends the element that was begun last before the items, where r is read
use Rattle.std.specs.Prelude.{◌≡◌, ℕ, ◌+◌, ◌<◌, ◌≤◌, ◌%◌, ◌==◌, ◌&&◌, not, Bool, true, false, List, [], ◌∷◌, length, take, drop, slice_get, Some}
use Rattle.doc_items.specs.Balance.{BalancedFrom}
use Rattle.doc_items.specs.Maps.{Key, Map}
use Rattle.doc_items.specs.declared.item.Content.{Content}
use Rattle.doc_items.specs.declared.item.Content.TheVariants.{Character, Start, End}
use Rattle.doc_items.specs.declared.item.Item.{Item}
use Rattle.conversation.specs.Edits.{named, is_blip, is_thread, has}
use Rattle.conversation.specs.Trees.{start, step, node_at, shown, tree, behind}
use Rattle.conversation.specs.declared.node.Node.{Node}
use Rattle.conversation.specs.declared.reading.Reading.{Reading}
use Rattle.conversation.specs.declared.search.Found.{Found}
use Rattle.conversation.specs.declared.search.Want.{Want}
use Rattle.conversation.specs.declared.search.Want.TheVariants.{OfBlip, OfThread, OfAny}

abbrev pub is_kind_at : ℕ → Want → Bool
is_kind_at d OfBlip = d % 2 == 0
is_kind_at d OfThread = not (d % 2 == 0)
is_kind_at d OfAny = true

abbrev pub is_wanted : Want → Key → Node → Bool
is_wanted OfBlip id n = is_blip id n
is_wanted OfThread id n = is_thread id n
is_wanted OfAny id n = named id n.id

abbrev pub AreWithin : ℕ → List Node → Type 0
AreWithin b [] = Unit {0}
AreWithin b (n ∷ ns) = b ≤ n.depth + 1 × AreWithin b ns

abbrev pub FirstAtMost : ℕ → List Node → Type 0
FirstAtMost d [] = Unit {0}
FirstAtMost d (n ∷ ns) = n.depth ≤ d

abbrev pub ends_here : Reading → Content → ℕ → Bool
ends_here r (Character c) b = false
ends_here r (Start kind m) b = false
ends_here r End b = (r.passed == 0) && (r.inside == b)

pub record IsBegun (items : List Item) (f : Found) : Type 0 where
  pub there : f.place < length items
  pub found : f.reading.found ≡ true
  pub some : 0 < f.reading.inside
  pub bound : f.reading.inside ≤ f.place + 1
  pub passed : f.reading.passed ≡ 0
  pub balanced : BalancedFrom (f.reading.inside + f.reading.passed) (drop (f.place + 1) items)

pub record IsFound (test : Node → Bool) (items : List Item) (f : Found) : Type 0 where
  pub item : Item
  pub node : Node
  pub attributes : Map Key
  pub is : node ≡ node_at node.depth attributes
  pub here : slice_get items f.place ≡ Some item
  pub shows : shown (behind start (take f.place items)) item ≡ node ∷ []
  pub passes : test node ≡ true
  pub none : has test (tree start (take f.place items)) ≡ false
  pub reading : f.reading ≡ step (behind start (take f.place items)) item
  pub inside : f.reading.inside ≡ node.depth + 2
  pub begun : IsBegun items f

pub record IsEnd (r : Reading) (items : List Item) (k : ℕ) : Type 0 where
  pub item : Item
  pub here : slice_get items k ≡ Some item
  pub ends : item.content ≡ End
  pub same : behind r (take k items) ≡ r
  pub within : AreWithin r.inside (tree r (take k items))

pub record IsRoot (items : List Item) (f : Found) : Type 0 where
  pub item : Item
  pub here : slice_get items f.place ≡ Some item
  pub empty : tree start (take f.place items) ≡ []
  pub shows : shown (behind start (take f.place items)) item ≡ []
  pub reading : f.reading ≡ step (behind start (take f.place items)) item
  pub inside : f.reading.inside ≡ 1
  pub begun : IsBegun items f

pub record IsRootless (items : List Item) : Type 0 where
  pub whole : behind start items ≡ start
  pub empty : tree start items ≡ []
