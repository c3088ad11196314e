-- What an edit comes to at a screen: the operations that it asks for, or the number of its refusal.
--     IsTyped, IsPlaced, IsErased, IsNoted     on the items of a document: a text or an element comes in, items go, or get an annotation
--     IsOn d P ops             the operations are one on the document d, of which P holds
--     manifest_name            the document of the threads
--     manifest_of s            its items
--     IsReplied, IsContinued, IsDeleted        on a manifest: a blip has one thread more, a thread one blip more, a blip is deleted
--     anchor_attributes t      the attributes of the anchor of a thread
--     IsAnchoredAfter s p t a b    the act a, and then the anchor of a thread in a document
--     IsInline s p t n b       an inline reply to the blip of a document, and then its anchor there
--     IsBuilt s e b            what an edit comes to at the screen s
use Rattle.std.specs.Prelude.{◌≡◌, ◌⊎◌, ℕ, Bool, true, false, List, [], ◌∷◌, length, Option, Some, None, unwrap_or, codes}
use Rattle.std.specs.FinMap.{empty}
use Rattle.std.specs.Str.{chars}
use Rattle.doc_items.specs.Maps.{Key, Map, set_key}
use Rattle.doc_items.specs.declared.item.Item.{Item}
use Rattle.doc_op.specs.Actions.{actions}
use Rattle.doc_op.specs.declared.component.Component.{Component}
use Rattle.op_build.specs.Plans.{typing, erasing, annotating, adding_element}
use Rattle.op_build.specs.Refusals.{CanInsert, IsInsertingRefused, CanErase, IsErasingRefused, CanAnnotate, IsAnnotatingRefused}
use Rattle.conversation.specs.Edits.{replied, continued, deleted, is_taken}
use Rattle.conversation.specs.Refusals.{IsTreeEdit, AreNew, IsReplyRefused, IsNextRefused, IsDeleteRefused}
use Rattle.conversation.specs.Trees.{thread_tree}
use Rattle.wavelet_op.specs.Acts.{Act, Mutates, meanings}
use Rattle.wavelet_op.specs.States.{State, role_of, document_of, apply_act}
use Rattle.wavelet_op.specs.declared.op.WaveletOp.{WaveletOp}
use Rattle.wavelet_op.specs.declared.op.WaveletOp.TheVariants as op
use Rattle.wavelet_op.specs.declared.role.Role.TheVariants.{Full}
use Rattle.client_commands.specs.declared.command.Edit.{Edit}
use Rattle.client_commands.specs.declared.command.Edit.TheVariants as edit
use Rattle.client_commands.specs.declared.command.Spot.{Spot}
use Rattle.client_commands.specs.declared.command.Stretch.{Stretch}
use Rattle.client_edits.specs.Numbers.{IsRefusedBuild, IsRefusedTalk}
use Rattle.client_edits.specs.declared.built.Built.{Built}
use Rattle.client_edits.specs.declared.built.Built.TheVariants.{Ops, Refused}

-- ---- documents

abbrev pub IsTyped : List Item → Spot → Key → Built → Type 0
IsTyped items p t (Ops ops) = CanInsert items p.place (length (chars t))
    × (meanings ops ≡ Mutates p.document (typing items p.place (chars t)) ∷ [])
IsTyped items p t (Refused n) = IsRefusedBuild (λ e. IsInsertingRefused e items p.place (length (chars t))) n

abbrev pub IsPlaced : List Item → Spot → Key → Map Key → Built → Type 0
IsPlaced items p kind m (Ops ops) = CanInsert items p.place 2
    × (meanings ops ≡ Mutates p.document (adding_element items p.place (chars kind) m) ∷ [])
IsPlaced items p kind m (Refused n) = IsRefusedBuild (λ e. IsInsertingRefused e items p.place 2) n

abbrev pub IsErased : List Item → Stretch → Built → Type 0
IsErased items r (Ops ops) = CanErase items r.from r.count × (meanings ops ≡ Mutates r.document (erasing items r.from r.count) ∷ [])
IsErased items r (Refused n) = IsRefusedBuild (λ e. IsErasingRefused e items r.from r.count) n

abbrev pub IsNoted : List Item → Stretch → Key → Option Key → Built → Type 0
IsNoted items r k v (Ops ops) = CanAnnotate items r.from r.count
    × (meanings ops ≡ Mutates r.document (annotating items r.from r.count k v) ∷ [])
IsNoted items r k v (Refused n) = IsRefusedBuild (λ e. IsAnnotatingRefused e items r.from r.count) n

-- ---- conversations

abbrev pub manifest_name : Key
manifest_name = codes "conversation"

abbrev pub manifest_of : State → List Item
manifest_of s = document_of s manifest_name

abbrev pub IsOnManifest : (List Component → Type 0) → List WaveletOp → Type 0
IsOnManifest P ops = (cs : List Component) × (ops ≡ op.Mutate manifest_name cs ∷ []) × P cs

abbrev pub IsReply : List Item → Bool → Key → Key → Key → List Component → Type 0
IsReply items inline b t n cs = IsTreeEdit cs items (replied inline b t n (thread_tree items)) × AreNew (thread_tree items) t n

abbrev pub IsReplied : List Item → Key → Key → Key → Built → Type 0
IsReplied items b t n (Ops ops) = IsOnManifest (IsReply items false b t n) ops
IsReplied items b t n (Refused k) = IsRefusedTalk (IsReplyRefused items b t n) k

abbrev pub IsContinued : List Item → Key → Key → Built → Type 0
IsContinued items t n (Ops ops) = IsOnManifest
    (λ cs. IsTreeEdit cs items (continued t n (thread_tree items)) × (is_taken n (thread_tree items) ≡ false)) ops
IsContinued items t n (Refused k) = IsRefusedTalk (IsNextRefused items t n) k

abbrev pub IsDeleted : List Item → Key → Built → Type 0
IsDeleted items b (Ops ops) = IsOnManifest (λ cs. IsTreeEdit cs items (deleted b (thread_tree items))) ops
IsDeleted items b (Refused k) = IsRefusedTalk (IsDeleteRefused items b) k

-- ---- an inline reply

abbrev pub anchor_kind : Key
anchor_kind = codes "reply"

abbrev pub anchor_attributes : Key → Map Key
anchor_attributes t = set_key empty (codes "id") (Some t)

-- at the state x, after the first act
abbrev pub IsAnchored : State → Spot → Key → Act → Built → Type 0
IsAnchored x p t first (Ops ops) = CanInsert (document_of x p.document) p.place 2
    × (meanings ops ≡ first ∷ Mutates p.document
    (adding_element (document_of x p.document) p.place (chars anchor_kind) (anchor_attributes t)) ∷ [])
IsAnchored x p t first (Refused k) = IsRefusedBuild (λ e. IsInsertingRefused e (document_of x p.document) p.place 2) k

abbrev pub IsAnchoredAfter : State → Spot → Key → Act → Built → Type 0
IsAnchoredAfter s p t first b = (x : State) × (apply_act s first ≡ Some x) × IsAnchored x p t first b

pub record IsInlineReply (s : State) (p : Spot) (t n : Key) (b : Built) : Type 0 where
  pub cs : List Component
  pub reply : IsReply (manifest_of s) true p.document t n cs
  pub anchor : IsAnchoredAfter s p t (Mutates manifest_name (actions cs)) b

abbrev pub IsRefusedInline : State → Spot → Key → Key → Built → Type 0
IsRefusedInline s p t n (Ops ops) = ⊥
IsRefusedInline s p t n (Refused k) = IsRefusedTalk (IsReplyRefused (manifest_of s) p.document t n) k

abbrev pub IsInline : State → Spot → Key → Key → Built → Type 0
IsInline s p t n b = IsInlineReply s p t n b ⊎ IsRefusedInline s p t n b

-- ---- all

abbrev pub IsBuilt : State → Edit → Built → Type 0
IsBuilt s (edit.Add a) b = b ≡ Ops (op.Add a ∷ [])
IsBuilt s (edit.Remove a) b = b ≡ Ops (op.Remove a ∷ [])
IsBuilt s (edit.SetRole a r) b = b ≡ Ops (op.SetRole a (unwrap_or (role_of s a) Full) r ∷ [])
IsBuilt s (edit.Write p t) b = IsTyped (document_of s p.document) p t b
IsBuilt s (edit.Erase r) b = IsErased (document_of s r.document) r b
IsBuilt s (edit.Note r k v) b = IsNoted (document_of s r.document) r k v b
IsBuilt s (edit.Element p kind) b = IsPlaced (document_of s p.document) p kind empty b
IsBuilt s (edit.Reply blip t n) b = IsReplied (manifest_of s) blip t n b
IsBuilt s (edit.Inline p t n) b = IsInline s p t n b
IsBuilt s (edit.Next t n) b = IsContinued (manifest_of s) t n b
IsBuilt s (edit.Delete blip) b = IsDeleted (manifest_of s) blip b
