-- A rope: its pieces, the tree that holds itself, and what is inside a rope.
--     rope_send, rope_sync
use denote.Param.Send.{IsSend, IsSync, sendable}
use denote.Param.SendFields.{declared_send, declared_sync, variants_send, variants_sync, as_row_send, as_row_sync}
use denote.RattleType.{RattleType}
use denote.Hole.FixSend.{Sends, Syncs, fix_send, fix_sync}
use Rattle.std.proofs.Crossing.{crosses}
use Rattle.std.proofs.MapsCrossing as maps
use Rattle.doc_rope.specs.declared.tree.Tree.TheBlock.{member-Tree, member-Node}
use Rattle.doc_rope.specs.contracts.tree.Tree.TheKnot.{ring, layer-Tree, layer-Node, type-Tree, type-Node, hole-Node}
use Rattle.doc_rope.specs.contracts.piece.Piece as piece
use Rattle.doc_rope.specs.contracts.tree.Tree as tree
use Rattle.doc_rope.specs.contracts.rope.Rope.{the_row}
use Rattle.doc_rope.specs.contracts.rope.Rope.TheInside as inside

piece_send : IsSend piece.the_row
piece_send = search (sendable, crosses, maps.crosses) depth 40

piece_sync : IsSync piece.the_row
piece_sync = search (sendable, crosses, maps.crosses) depth 40

tree_send : (x : RattleType) → IsSend x → IsSend (layer-Tree x)
tree_send x s = variants_send (type-Tree x) (search (sendable, crosses, maps.crosses, s) depth 40)

tree_sync : (x : RattleType) → IsSync x → IsSync (layer-Tree x)
tree_sync x s = variants_sync (type-Tree x) (search (sendable, crosses, maps.crosses, s) depth 40)

node_send : (x y : RattleType) → IsSend x → IsSend y → IsSend (layer-Node x y)
node_send x y s t = declared_send (type-Node x y) (search (sendable, as_row_send, piece_send, crosses, s, t) depth 40)

node_sync : (x y : RattleType) → IsSync x → IsSync y → IsSync (layer-Node x y)
node_sync x y s t = declared_sync (type-Node x y) (search (sendable, as_row_sync, piece_sync, crosses, s, t) depth 40)

steps : (i : _) → Sends ring i
steps i = elim i as (λ i'. Sends ring i') [
  | member-Tree ↦ record { send = λ h s. tree_send (h member-Node) (s member-Node) }
  | member-Node ↦ record { send = λ h s. node_send (h member-Tree) (h member-Tree) (s member-Tree) (s member-Tree) }
]

layers : (i : _) → Syncs ring i
layers i = elim i as (λ i'. Syncs ring i') [
  | member-Tree ↦ record { sync = λ h s. tree_sync (h member-Node) (s member-Node) }
  | member-Node ↦ record { sync = λ h s. node_sync (h member-Tree) (h member-Tree) (s member-Tree) (s member-Tree) }
]

held_send : IsSend hole-Node
held_send = fix_send ring steps member-Node

held_sync : IsSync hole-Node
held_sync = fix_sync ring layers member-Node

whole_send : IsSend tree.the_row
whole_send = variants_send tree.enum (search (sendable, crosses, held_send) depth 40)

whole_sync : IsSync tree.the_row
whole_sync = variants_sync tree.enum (search (sendable, crosses, held_sync) depth 40)

inside_send : IsSend inside.the_row
inside_send = declared_send inside.the_type (search (sendable, crosses, whole_send) depth 40)

inside_sync : IsSync inside.the_row
inside_sync = declared_sync inside.the_type (search (sendable, crosses, whole_sync) depth 40)

pub rope_send : IsSend the_row
rope_send = search (sendable, inside_send) depth 10

pub rope_sync : IsSync the_row
rope_sync = search (sendable, inside_sync) depth 10
