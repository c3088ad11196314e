-- The state of a wavelet, read from the participants and the documents of a snapshot.
--     member_of d                a participant's address and role
--     document_of d              a document's name, and the components of the operation that makes it of the empty document
--     joined s e                 the state with one participant more, where the address isn't there yet
--     opened s e                 the state with one document more, where the operation applies and the document isn't empty
--     states_from read step s last ds     the state after a step for each item; the keys rise in byte order, the first after `last`
--     state_of d                 the state whose participants and documents stand in these members
use Rattle.std.specs.Prelude.{if◌then◌else◌, List, Option, Some, None, is_some, option_and_then, option_map, codes}
use Rattle.serde_json.specs.Data.{Data, Items, no_items, item}
use Rattle.serde_json.specs.Find.{as_array}
use Rattle.doc_items.specs.Maps.{Key, is_next}
use Rattle.doc_op.specs.Actions.{actions}
use Rattle.doc_op.specs.declared.component.Component.{Component}
use Rattle.wave_base.specs.Grammar.{is_address, is_id}
use Rattle.wavelet_op.specs.Acts.{Adds, Sets, Mutates}
use Rattle.wavelet_op.specs.States.{State, empty_state, kept, document_of as items_of_document, apply_act}
use Rattle.wavelet_op.specs.declared.role.Role.{Role}
use Rattle.wavelet_op.specs.declared.role.Role.TheVariants.{Full}
use Rattle.json_fields.specs.Read.{in_member, good_text}
use Rattle.wavelet_json.specs.Operations.{of_members, role_of, component_list}

-- ---- one participant, one document

abbrev pub member_of : Data → Option (Key × Role)
member_of d = of_members 2 d (option_and_then (λ address. option_map (λ role. (address, role))
    (in_member role_of (codes "role") d)) (in_member (good_text is_address) (codes "address") d))

abbrev pub document_of : Data → Option (Key × List Component)
document_of d = of_members 2 d (option_and_then (λ name. option_map (λ op. (name, op))
    (in_member component_list (codes "operation") d)) (in_member (good_text is_id) (codes "name") d))

abbrev pub joined : State → Key × Role → Option State
joined s e = option_and_then (λ t. apply_act t (Sets e.0 Full e.1)) (apply_act s (Adds e.0))

abbrev pub not_empty : Key → State → Option State
not_empty name s = if is_some (kept (items_of_document s name)) then Some s else None

abbrev pub opened : State → Key × List Component → Option State
opened s e = option_and_then (not_empty e.0) (apply_act s (Mutates e.0 (actions e.1)))

-- ---- all of them

module _ {X : Type 0} (read : Data → Option (Key × X)) (step : State → Key × X → Option State) where
  abbrev pub states_from : State → Option Key → Items → Option State
  states_from s last no_items = Some s
  states_from s last (item d ds) = option_and_then
      (λ e. if is_next last e.0 then option_and_then (λ t. states_from t (Some e.0) ds) (step s e) else None) (read d)

abbrev pub with_members : Items → Option State
with_members ds = states_from member_of joined empty_state None ds

abbrev pub with_documents : State → Items → Option State
with_documents s ds = states_from document_of opened s None ds

abbrev pub state_of : Data → Option State
state_of d = option_and_then
    (λ members. option_and_then (λ documents. option_and_then (λ s. with_documents s documents) (with_members members))
    (in_member as_array (codes "documents") d)) (in_member as_array (codes "participants") d)
