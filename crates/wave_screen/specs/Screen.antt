-- What a screen shows of a wavelet, as the bytes of its lines.
--     first_line n v p        the name and the version, and whether anything is pending
--     participants_line s     the participants in byte order, each that may only read with `=read`
--     tree_of s               the threads of the manifest
--     named_items s id        the items of the document of this name; there are none where the id is no name
--     node_line s n           a blip with its document, or a thread, after two spaces for each blip and thread above it
--     is_apart ns d           a document is neither the manifest nor that of a blip
--     document_line s ns d    such a document; any other has no line
--     screen_text n v p s     the whole screen
use Rattle.std.specs.Prelude.{ℕ, zero, suc, ◌&&◌, not, Bool, true, false, cond, List, [], ◌++◌, Option, Some, None, codes, decimal}
use Rattle.std.specs.FinMap.{keys}
use Rattle.std.specs.List.{flat_map}
use Rattle.doc_items.specs.Maps.{Key, same_text}
use Rattle.doc_items.specs.declared.item.Item.{Item}
use Rattle.wave_base.specs.Grammar.{is_id}
use Rattle.wavelet_op.specs.States.{State, role_of, document_of}
use Rattle.wavelet_op.specs.declared.role.Role.{Role}
use Rattle.wavelet_op.specs.declared.role.Role.TheVariants.{Full, ReadOnly}
use Rattle.conversation.specs.Edits.{is_blip, has}
use Rattle.conversation.specs.Trees.{thread_tree}
use Rattle.conversation.specs.declared.node.Node.{Node}
use Rattle.conversation.specs.declared.node.Part.{Part}
use Rattle.conversation.specs.declared.node.Part.TheVariants.{Blip, Thread}
use Rattle.wave_screen.specs.Escapes.{escaped_text, document_text}

-- ---- the head

abbrev pub pending_mark : Bool → List ℕ
pending_mark true = codes " pending"
pending_mark false = codes " settled"

abbrev pub first_line : Key → ℕ → Bool → List ℕ
first_line name version pending = codes "wavelet " ++ name ++ codes " version " ++ decimal version ++ pending_mark pending ++ codes "\n"

abbrev pub role_mark : Option Role → List ℕ
role_mark None = []
role_mark (Some Full) = []
role_mark (Some ReadOnly) = codes "=read"

abbrev pub participant_text : State → Key → List ℕ
participant_text s a = codes " " ++ a ++ role_mark (role_of s a)

abbrev pub participants_line : State → List ℕ
participants_line s = codes "participants" ++ flat_map (participant_text s) (keys s.roles) ++ codes "\n"

-- ---- the threads

abbrev pub manifest_name : Key
manifest_name = codes "conversation"

abbrev pub tree_of : State → List Node
tree_of s = thread_tree (document_of s manifest_name)

abbrev pub named_items : State → Key → List Item
named_items s id = cond (is_id id) (document_of s id) []

abbrev pub blip_text : State → Key → Bool → List ℕ
blip_text s id true = codes "(deleted)"
blip_text s id false = document_text (named_items s id)

abbrev pub thread_mark : Bool → List ℕ
thread_mark true = codes "inline "
thread_mark false = codes "thread "

abbrev pub part_text : State → Key → Part → List ℕ
part_text s id (Blip deleted) = escaped_text id ++ codes ": " ++ blip_text s id deleted
part_text s id (Thread inline) = thread_mark inline ++ escaped_text id

abbrev pub indent : ℕ → List ℕ
indent zero = []
indent (suc d) = codes "  " ++ indent d

abbrev pub node_line : State → Node → List ℕ
node_line s n = indent n.depth ++ part_text s n.id n.part ++ codes "\n"

-- ---- the other documents

abbrev pub is_apart : List Node → Key → Bool
is_apart ns d = not (same_text d manifest_name) && not (has (is_blip d) ns)

abbrev pub document_line : State → List Node → Key → List ℕ
document_line s ns d = cond (is_apart ns d) (codes "document " ++ d ++ codes ": " ++ document_text (document_of s d) ++ codes "\n") []

-- ---- the whole

abbrev pub parts_text : State → List Node → List ℕ
parts_text s ns = flat_map (node_line s) ns ++ flat_map (document_line s ns) (keys s.documents)

abbrev pub screen_text : Key → ℕ → Bool → State → List ℕ
screen_text name version pending s = first_line name version pending ++ participants_line s ++ parts_text s (tree_of s)
