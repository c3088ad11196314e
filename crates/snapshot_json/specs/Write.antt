-- What is written for a state: its participants and its documents, in byte order of their names.
--     insertion_of items     the operation in normal form that makes these items of the empty document
--     member_data s a        a participant's address and role
--     document_data s d      a document's name, and the operation that makes it
--     members_data s, documents_data s     so of all
use Rattle.std.specs.Prelude.{List, map, unwrap_or, codes}
use Rattle.std.specs.FinMap.{keys}
use Rattle.serde_json.specs.Data.{Data, string, object, no_members, member}
use Rattle.doc_items.specs.Maps.{Key}
use Rattle.doc_items.specs.declared.item.Item.{Item}
use Rattle.doc_op.specs.Actions.{Ins}
use Rattle.doc_op.specs.Normal.{normal_form}
use Rattle.doc_op.specs.declared.component.Component.{Component}
use Rattle.op_json.specs.Write.{list_data, op_data}
use Rattle.wavelet_op.specs.States.{State, role_of, document_of}
use Rattle.wavelet_op.specs.declared.role.Role.TheVariants.{Full}
use Rattle.wavelet_json.specs.Operations.{role_data}

abbrev pub insertion_of : List Item → List Component
insertion_of items = normal_form (map Ins items)

abbrev pub member_data : State → Key → Data
member_data s a = object (member (codes "address") (string a) (member (codes "role") (role_data (unwrap_or (role_of s a) Full)) no_members))

abbrev pub document_data : State → Key → Data
document_data s d = object
    (member (codes "name") (string d) (member (codes "operation") (op_data (insertion_of (document_of s d))) no_members))

abbrev pub members_data : State → Data
members_data s = list_data (member_data s) (keys s.roles)

abbrev pub documents_data : State → Data
documents_data s = list_data (document_data s) (keys s.documents)
