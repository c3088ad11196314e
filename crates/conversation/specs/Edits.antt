-- Edits of a tree.
--     named name id            an id is this one
--     is_blip, is_thread       a node is the blip, the thread, of an id
--     has test ns              a node passes the test
--     is_taken id ns           a blip or a thread has the id
--     under d new ns           the nodes after all those at the front that stand deeper than d
--     grown test new ns        the first node that passes the test has new ones after all that is below it; None where none passes
--     a_blip, a_thread         a new node
--     replied inline b t n ns  the blip b has one thread more, t, with the blip n
--     is_there t ns            the thread t is there; the empty id is that of the root thread, which always is
--     continued t n ns         the thread t has one blip more, n
--     deleted b ns             the blip b is deleted
use Rattle.std.specs.Prelude.{ℕ, ◌+◌, ◌==◌, nat_le, Bool, true, false, cond, ◌&&◌, ◌||◌, List, [], ◌∷◌, ◌++◌, Option, Some, None}
use Rattle.std.specs.Cmp.Lexicographic.{pointwise}
use Rattle.std.specs.Option.{option_map}
use Rattle.doc_items.specs.Maps.{Key}
use Rattle.conversation.specs.declared.node.Node.{Node}
use Rattle.conversation.specs.declared.node.Part.{Part}
use Rattle.conversation.specs.declared.node.Part.TheVariants.{Blip, Thread}

abbrev pub named : Key → Key → Bool
named name id = pointwise ◌==◌ id name

abbrev pub is_blip_part : Part → Bool
is_blip_part (Blip deleted) = true
is_blip_part (Thread inline) = false

abbrev pub is_thread_part : Part → Bool
is_thread_part (Blip deleted) = false
is_thread_part (Thread inline) = true

abbrev pub is_blip : Key → Node → Bool
is_blip name n = is_blip_part n.part && named name n.id

abbrev pub is_thread : Key → Node → Bool
is_thread name n = is_thread_part n.part && named name n.id

abbrev pub has : (Node → Bool) → List Node → Bool
has test [] = false
has test (n ∷ ns) = test n || has test ns

abbrev pub is_taken : Key → List Node → Bool
is_taken id ns = has (λ n. named id n.id) ns

abbrev pub under : ℕ → List Node → List Node → List Node
under d new [] = new
under d new (n ∷ ns) = cond (nat_le n.depth d) (new ++ n ∷ ns) (n ∷ under d new ns)

abbrev pub grown : (Node → Bool) → (ℕ → List Node) → List Node → Option (List Node)
grown test new [] = None
grown test new (n ∷ ns) = cond (test n) (Some (n ∷ under n.depth (new n.depth) ns)) (option_map (λ z. n ∷ z) (grown test new ns))

-- ---- new nodes

abbrev pub a_blip : Key → ℕ → Node
a_blip id d = record { depth = d; part = Blip false; id = id }

abbrev pub a_thread : Bool → Key → ℕ → Node
a_thread inline id d = record { depth = d; part = Thread inline; id = id }

abbrev pub reply_nodes : Bool → Key → Key → ℕ → List Node
reply_nodes inline t n d = a_thread inline t (d + 1) ∷ a_blip n (d + 2) ∷ []

abbrev pub next_nodes : Key → ℕ → List Node
next_nodes n d = a_blip n (d + 1) ∷ []

-- ---- the edits

abbrev pub replied : Bool → Key → Key → Key → List Node → Option (List Node)
replied inline b t n ns = grown (is_blip b) (reply_nodes inline t n) ns

abbrev pub is_there : Key → List Node → Bool
is_there [] ns = true
is_there (c ∷ cs) ns = has (is_thread (c ∷ cs)) ns

abbrev pub continued : Key → Key → List Node → Option (List Node)
continued [] n ns = Some (ns ++ a_blip n 0 ∷ [])
continued (c ∷ cs) n ns = grown (is_thread (c ∷ cs)) (next_nodes n) ns

abbrev pub as_deleted : Node → Node
as_deleted n = record { depth = n.depth; part = Blip true; id = n.id }

abbrev pub deleted : Key → List Node → Option (List Node)
deleted b [] = None
deleted b (n ∷ ns) = cond (is_blip b n) (Some (as_deleted n ∷ ns)) (option_map (λ z. n ∷ z) (deleted b ns))
