-- Operations on wavelets as JSON: an object whose member `type` names the kind.
--     of_members n d o              o, where the value is an object of n members; else None
--     role_named t, role_of d       full, read
--     component_list d              the components of an operation on a document
--     mutation_of d, role_change_of d     the members of the last two kinds
--     op_named kind d, op_of d      noop, add, remove, mutate, set_role, each with exactly its members
--     ops_of d                      an array of 1 to 1,000 of them
--     normal_op o, normal_ops os    the same with each operation on a document in normal form
--     role_data, op_data, ops_data  what is written for each
use Rattle.std.specs.Prelude.{ℕ, cond, if◌then◌else◌, List, [], length, map, Option, Some, None, option_map, option_and_then, codes}
use Rattle.std.specs.Result.{result_ok}
use Rattle.std.specs.Str.{bytes_eq}
use Rattle.serde_json.specs.Data.{Data, string, object, no_members, member}
use Rattle.serde_json.specs.Find.{as_str, as_array}
use Rattle.doc_items.specs.Maps.{Key}
use Rattle.doc_op.specs.Actions.{actions}
use Rattle.doc_op.specs.Normal.{normal_form}
use Rattle.doc_op.specs.declared.component.Component.{Component}
use Rattle.op_json.specs.Read.{list_from, operation_of}
use Rattle.op_json.specs.Write as written
use Rattle.wave_base.specs.Grammar.{is_address, is_id}
use Rattle.wavelet_op.specs.Deltas.{is_count}
use Rattle.wavelet_op.specs.declared.op.WaveletOp.{WaveletOp}
use Rattle.wavelet_op.specs.declared.op.WaveletOp.TheVariants.{NoOp, Add, Remove, Mutate, SetRole}
use Rattle.wavelet_op.specs.declared.role.Role.{Role}
use Rattle.wavelet_op.specs.declared.role.Role.TheVariants.{Full, ReadOnly}
use Rattle.json_fields.specs.Read.{has_members, in_member, good_text}

abbrev pub of_members : {X : Type 0} → ℕ → Data → Option X → Option X
of_members n d o = if has_members n d then o else None

-- ---- read

abbrev pub role_named : List ℕ → Option Role
role_named t = if bytes_eq t (codes "full") then Some Full else (if bytes_eq t (codes "read") then Some ReadOnly else None)

abbrev pub role_of : Data → Option Role
role_of d = option_and_then role_named (as_str d)

abbrev pub component_list : Data → Option (List Component)
component_list d = result_ok (operation_of d)

abbrev pub participant_of : Data → Option Key
participant_of d = in_member (good_text is_address) (codes "participant") d

abbrev pub mutation_of : Data → Option WaveletOp
mutation_of d = option_and_then (λ document. option_map (λ op. Mutate document op)
    (in_member component_list (codes "operation") d)) (in_member (good_text is_id) (codes "document") d)

abbrev pub role_change_of : Data → Option WaveletOp
role_change_of d = option_and_then (λ address. option_and_then (λ old. option_map (λ new. SetRole address old new)
    (in_member role_of (codes "new") d)) (in_member role_of (codes "old") d)) (participant_of d)

abbrev pub op_named : List ℕ → Data → Option WaveletOp
op_named kind d = if bytes_eq kind (codes "noop") then of_members 1 d (Some NoOp)
    else (if bytes_eq kind (codes "add") then of_members 2 d (option_map Add (participant_of d))
    else (if bytes_eq kind (codes "remove") then of_members 2 d (option_map Remove (participant_of d))
    else (if bytes_eq kind (codes "mutate") then of_members 3 d (mutation_of d)
    else (if bytes_eq kind (codes "set_role") then of_members 4 d (role_change_of d)
    else None))))

abbrev pub op_of : Data → Option WaveletOp
op_of d = option_and_then (λ kind. op_named kind d) (in_member as_str (codes "type") d)

abbrev pub op_list : Data → Option (List WaveletOp)
op_list d = option_and_then (list_from op_of []) (as_array d)

abbrev pub ops_of : Data → Option (List WaveletOp)
ops_of d = option_and_then (λ ops. cond (is_count (length ops)) (Some ops) None) (op_list d)

abbrev pub normal_op : WaveletOp → WaveletOp
normal_op NoOp = NoOp
normal_op (Add address) = Add address
normal_op (Remove address) = Remove address
normal_op (Mutate document op) = Mutate document (normal_form (actions op))
normal_op (SetRole address old new) = SetRole address old new

abbrev pub normal_ops : List WaveletOp → List WaveletOp
normal_ops ops = map normal_op ops

-- ---- written

abbrev pub role_data : Role → Data
role_data Full = string (codes "full")
role_data ReadOnly = string (codes "read")

abbrev pub op_data : WaveletOp → Data
op_data NoOp = object (member (codes "type") (string (codes "noop")) no_members)
op_data (Add address) = object (member (codes "participant") (string address) (member (codes "type") (string (codes "add")) no_members))
op_data (Remove address) = object
    (member (codes "participant") (string address) (member (codes "type") (string (codes "remove")) no_members))
op_data (Mutate document op) = object (member (codes "document") (string document) (member (codes "operation") (written.op_data op)
    (member (codes "type") (string (codes "mutate")) no_members)))
op_data (SetRole address old new) = object (member (codes "new") (role_data new) (member (codes "old") (role_data old)
    (member (codes "participant") (string address) (member (codes "type") (string (codes "set_role")) no_members))))

abbrev pub ops_data : List WaveletOp → Data
ops_data ops = written.list_data op_data ops
