-- Edits of the manifest that were built.
--     is_manifest             the items of the manifest
--     talked, untalked        an edit of it, and one that is refused
--     leads                   the edit of a manifest applies
--     anchored, unanchored, led_anchor     the anchor of an inline reply after it, and one that is refused
--     inlined, not_inlined    an inline reply with its anchor, and one that is refused
use Rattle.std.proofs.Common.{◌≡◌, ◌⊎◌, inl, inr, ℕ, true, List, [], ◌∷◌, length, Option, None, Some, IsSome, option_and_then, Result, Ok, Err, refl, sym, ap, subst, ◌∙◌}
use Rattle.std.specs.Result.{IfOk}
use Rattle.std.specs.Str.{chars}
use Rattle.std.proofs.lemmas.Result.{IfOk-weaker}
use Rattle.doc_items.specs.Maps.{Key, Map}
use Rattle.doc_items.specs.declared.item.Item.{Item}
use Rattle.doc_op.specs.Actions.{actions}
use Rattle.doc_op.specs.Apply.{apply, valid}
use Rattle.doc_op.specs.Structure.{first_break}
use Rattle.doc_op.specs.declared.component.Component.{Component}
use Rattle.doc_op.proofs.Applying.{passed}
use Rattle.conversation.specs.Refusals.{IsTreeEdit, IsReplyRefused}
use Rattle.conversation.specs.declared.fault.ConversationFault.{ConversationFault}
use Rattle.conversation.specs.declared.node.Node.{Node}
use Rattle.op_build.specs.Plans.{IsEdit, adding_element}
use Rattle.op_build.specs.Refusals.{CanInsert, IsInsertingRefused}
use Rattle.op_build.specs.declared.fault.BuildFault.{BuildFault}
use Rattle.wavelet_op.specs.Acts.{Act, Mutates, meaning, meanings}
use Rattle.wavelet_op.specs.States.{State, document_of, with_document, mutate, apply_act}
use Rattle.wavelet_op.specs.declared.op.WaveletOp.{WaveletOp}
use Rattle.wavelet_op.specs.declared.op.WaveletOp.TheVariants as op
use Rattle.wavelet_op.proofs.Structures.{mutates}
use Rattle.client_commands.specs.declared.command.Spot.{Spot}
use Rattle.client_edits.specs.Asked.{IsOnManifest, IsAnchored, IsAnchoredAfter, IsInline, IsReply, anchor_kind, anchor_attributes, manifest_name, manifest_of}
use Rattle.client_edits.specs.Numbers.{built, build_number, talk_number, IsRefusedTalk}
use Rattle.client_edits.specs.declared.built.Built.{Built}
use Rattle.client_edits.specs.declared.built.Built.TheVariants.{Ops, Refused}
use Rattle.client_edits.proofs.Building.{built_as, refused_as, on_manifest}

pub is_manifest : (s : State) (xs : List Item) (d : Key) → d ≡ manifest_name → xs ≡ document_of s d → xs ≡ manifest_of s
is_manifest s xs d e f = f ∙ ap (document_of s) e

module _ {E : Type 0} (r : Result Built E) (s : State) (xs : List Item) (d : Key) (e : d ≡ manifest_name) (f : xs ≡ document_of s d) where
  pub talked : (cs : List Component) (Q : List Item → List Component → Type 0) (P : List Item → Built → Type 0) → ((ops : List WaveletOp) → IsOnManifest (Q xs) ops → P xs (Ops ops)) → Q xs cs
      → IfOk r (λ b. b ≡ Ops (op.Mutate d cs ∷ [])) → IfOk r (P (manifest_of s))
  talked cs Q P g q h = subst (λ z. IfOk r (P z)) (is_manifest s xs d e f) (on_manifest r d cs (Q xs) (P xs) g e q h)

  pub untalked : (t : ConversationFault) (R : List Item → ConversationFault → Type 0) (P : List Item → Built → Type 0) → ((k : ℕ) → IsRefusedTalk (R xs) k → P xs (Refused k)) → R xs t
      → IfOk r (λ b. built (talk_number t) ≡ Some b) → IfOk r (P (manifest_of s))
  untalked t R P g q h = subst (λ z. IfOk r (P z)) (is_manifest s xs d e f) (refused_as r (talk_number t) (P xs) (λ k n. g k (t, n, q)) h)

-- ---- an inline reply

pub leads : (s : State) (d : Key) (cs : List Component) (o : Option (List Node)) → IsTreeEdit cs (document_of s d) o → IsSome (apply_act s (Mutates d (actions cs)))
unfolding apply_act
leads s d cs o t =
    let applies : apply (actions cs) (document_of s d) ≡ Some t.out = (passed _ (apply (actions cs) (document_of s d)) t.out t.makes).rest in
    subst (λ (m : Option (List Item)). IsSome (option_and_then (λ items. Some (with_document s d items)) m)) (sym (mutates (actions cs) (document_of s d) t.out t.structured applies)) refl

module _ {E : Type 0} (r : Result Built E) (x : State) (p : Spot) (t : Key) (xs : List Item) (first : WaveletOp) (e : xs ≡ document_of x p.document) where
  pub anchored : (m : Map Key) (cs : List Component) (out : List Item) → m ≡ anchor_attributes t → CanInsert xs p.place 2 → IsEdit cs (adding_element xs p.place (chars anchor_kind) m) xs out
      → IfOk r (λ b. b ≡ Ops (first ∷ op.Mutate p.document cs ∷ [])) → IfOk r (IsAnchored x p t (meaning first))
  anchored m cs out a can edit h =
      built_as r (Ops (first ∷ op.Mutate p.document cs ∷ [])) (IsAnchored x p t (meaning first))
      (subst (λ z. CanInsert z p.place 2) e can, ap (λ z. meaning first ∷ Mutates p.document z ∷ []) (edit.is ∙ ap (adding_element xs p.place (chars anchor_kind)) a ∙ ap (λ z. adding_element z p.place (chars anchor_kind) (anchor_attributes t)) e))
      h

  pub unanchored : (b : BuildFault) → IsInsertingRefused b xs p.place 2 → IfOk r (λ y. built (build_number b) ≡ Some y) → IfOk r (IsAnchored x p t (meaning first))
  unanchored b q h = refused_as r (build_number b) (IsAnchored x p t (meaning first)) (λ k n. (b, n, subst (λ z. IsInsertingRefused b z p.place 2) e q)) h

pub led_anchor : {E : Type 0} (r : Result Built E) (s x : State) (p : Spot) (t d : Key) (cs : List Component) (first : WaveletOp) → first ≡ op.Mutate d cs → apply_act s (meaning first) ≡ Some x → IfOk r (IsAnchored x p t (meaning first))
    → IfOk r (IsAnchoredAfter s p t (Mutates d (actions cs)))
led_anchor r s x p t d cs first e led h =
    subst (λ o. IfOk r (IsAnchoredAfter s p t (meaning o))) e (IfOk-weaker r (IsAnchored x p t (meaning first)) (IsAnchoredAfter s p t (meaning first)) (λ b a. (x, led, a)) h)

pub not_inlined : {E : Type 0} (r : Result Built E) (s : State) (p : Spot) (t n : Key) (f : ConversationFault) → IsReplyRefused (manifest_of s) p.document t n f → IfOk r (λ b. built (talk_number f) ≡ Some b) → IfOk r (IsInline s p t n)
not_inlined r s p t n f q h = refused_as r (talk_number f) (IsInline s p t n) (λ k e. inr (f, e, q)) h

pub inlined : {E : Type 0} (r : Result Built E) (s : State) (p : Spot) (t n : Key) (cs : List Component) → IsReply (manifest_of s) true p.document t n cs
    → IfOk r (IsAnchoredAfter s p t (Mutates manifest_name (actions cs))) → IfOk r (IsInline s p t n)
inlined r s p t n cs reply h = IfOk-weaker r (IsAnchoredAfter s p t (Mutates manifest_name (actions cs))) (IsInline s p t n) (λ b a. inl (record { cs = cs; reply = reply; anchor = a })) h
