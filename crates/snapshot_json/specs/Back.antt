-- When what is written of a state is read as the state.
--     role_at s a              the role that is written for a participant
--     IsMemberBack s a         what is written of a participant is read as the participant with this role
--     IsDocumentBack s d       what is written of a document is read as its name and the operation, which makes its items, some
--     AreMembersBack s         what is written of all participants gives a state with these and no document
--     AreDocumentsBack s       what is written of all documents puts these into a state that has none
use Rattle.std.specs.Prelude.{◌≡◌, [], map, Some, unwrap_or}
use Rattle.std.specs.FinMap.{empty, keys}
use Rattle.serde_json.specs.View.{items_of}
use Rattle.doc_items.specs.Maps.{Key, Map}
use Rattle.doc_op.specs.Actions.{actions}
use Rattle.wavelet_op.specs.States.{State, role_of, kept, mutate, document_of as items_of_document}
use Rattle.wavelet_op.specs.declared.role.Role.{Role}
use Rattle.wavelet_op.specs.declared.role.Role.TheVariants.{Full}
use Rattle.snapshot_json.specs.Read.{member_of, document_of, with_members, with_documents}
use Rattle.snapshot_json.specs.Write.{insertion_of, member_data, document_data}

abbrev pub role_at : State → Key → Role
role_at s a = unwrap_or (role_of s a) Full

abbrev pub IsMemberBack : State → Key → Type 0
IsMemberBack s a = member_of (member_data s a) ≡ Some (a, role_at s a)

pub record IsDocumentBack (s : State) (d : Key) : Type 0 where
  pub read : document_of (document_data s d) ≡ Some (d, insertion_of (items_of_document s d))
  pub makes : mutate (actions (insertion_of (items_of_document s d))) [] ≡ Some (items_of_document s d)
  pub some : kept (items_of_document s d) ≡ Some (items_of_document s d)

abbrev pub AreMembersBack : State → Type 0
AreMembersBack s = with_members (items_of (map (member_data s) (keys s.roles))) ≡ Some (record { roles = s.roles; documents = empty })

abbrev pub AreDocumentsBack : State → Type 0
AreDocumentsBack s = (r : Map Role)
    → with_documents (record { roles = r; documents = empty }) (items_of (map (document_data s) (keys s.documents)))
    ≡ Some (record { roles = r; documents = s.documents })
