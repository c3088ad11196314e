-- What the robot `echo` answers.
--     echo_name              the name of the document that it writes to
--     echo_user              the user of its address
--     mark                   what it writes
--     is_elsewhere, are_elsewhere      an operation on another document, and whether one of several is
--     IsMarked items r       the answer inserts the mark at the end of these items; it is quiet only where there is no room
--     IsEcho d s r           the answer to a delta, at the state after it
use Rattle.std.specs.Prelude.{◌≡◌, ◌+◌, ◌<◌, ℕ, Bool, true, false, not, ◌||◌, List, [], ◌∷◌, length, codes}
use Rattle.doc_items.specs.Limits.{max_count}
use Rattle.doc_items.specs.Maps.{Key, same_text}
use Rattle.doc_items.specs.declared.item.Item.{Item}
use Rattle.doc_op.specs.declared.component.Component.{Component}
use Rattle.op_build.specs.Edits.{typed}
use Rattle.op_build.specs.Plans.{IsEdit, typing}
use Rattle.wavelet_op.specs.Deltas.{DeltaOf}
use Rattle.wavelet_op.specs.States.{State, document_of}
use Rattle.wavelet_op.specs.declared.op.WaveletOp.{WaveletOp}
use Rattle.wavelet_op.specs.declared.op.WaveletOp.TheVariants.{NoOp, Add, Remove, Mutate, SetRole}
use Rattle.robot_host.specs.declared.reaction.Reaction.{Reaction}
use Rattle.robot_host.specs.declared.reaction.Reaction.TheVariants.{Quiet, Edit, Leave}

abbrev pub echo_name : Key
echo_name = codes "echo"

abbrev pub echo_user : Key
echo_user = codes "echo"

abbrev pub mark : List ℕ
mark = codes "."

abbrev pub is_elsewhere : WaveletOp → Bool
is_elsewhere NoOp = false
is_elsewhere (Add a) = false
is_elsewhere (Remove a) = false
is_elsewhere (Mutate d op) = not (same_text d echo_name)
is_elsewhere (SetRole a old new) = false

abbrev pub are_elsewhere : List WaveletOp → Bool
are_elsewhere [] = false
are_elsewhere (o ∷ os) = is_elsewhere o || are_elsewhere os

abbrev pub IsMarked : List Item → Reaction → Type 0
IsMarked items Quiet = max_count < length items + 1
IsMarked items (Edit ops) = (op : List Component) × (ops ≡ Mutate echo_name op ∷ []) × IsEdit op (typing items (length items) mark)
    items (typed items (length items) mark)
IsMarked items Leave = ⊥

abbrev pub IsEchoIf : Bool → State → Reaction → Type 0
IsEchoIf false s r = r ≡ Quiet
IsEchoIf true s r = IsMarked (document_of s echo_name) r

abbrev pub IsEcho : DeltaOf → State → Reaction → Type 0
IsEcho d s r = IsEchoIf (are_elsewhere d.ops) s r
