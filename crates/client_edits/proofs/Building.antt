-- What an edit is built as.
--     there, absent           a document that a state keeps, and one that it doesn't
--     built_as, refused_as    a result that holds this, or this refusal
--     on_document, on_manifest     an edit of a document, of the manifest
--     written, unwritten, placed, unplaced, erased, unerased, noted, unnoted     an edit of a document, and one that is refused
use Rattle.std.proofs.Common.{◌≡◌, ℕ, List, [], ◌∷◌, length, Option, None, Some, Result, Ok, Err, refl, sym, ap, subst, ◌∙◌}
use Rattle.std.specs.Option.{option_map}
use Rattle.std.specs.Result.{IfOk}
use Rattle.std.specs.Str.{chars}
use Rattle.std.proofs.lemmas.Result.{IfOk-weaker}
use Rattle.doc_items.specs.Maps.{Key, Map}
use Rattle.doc_items.specs.declared.item.Item.{Item}
use Rattle.doc_op.specs.Actions.{Action, actions}
use Rattle.doc_op.specs.declared.component.Component.{Component}
use Rattle.doc_op.proofs.Applying.{same_Some}
use Rattle.wavelet_op.specs.Acts.{Mutates, meanings}
use Rattle.wavelet_op.specs.States.{kept}
use Rattle.wavelet_op.specs.declared.op.WaveletOp.{WaveletOp}
use Rattle.wavelet_op.specs.declared.op.WaveletOp.TheVariants as op
use Rattle.op_build.specs.Plans.{IsEdit, typing, erasing, annotating, adding_element}
use Rattle.op_build.specs.Refusals.{CanInsert, IsInsertingRefused, CanErase, IsErasingRefused, CanAnnotate, IsAnnotatingRefused}
use Rattle.op_build.specs.declared.fault.BuildFault.{BuildFault}
use Rattle.client_commands.specs.declared.command.Spot.{Spot}
use Rattle.client_commands.specs.declared.command.Stretch.{Stretch}
use Rattle.client_edits.specs.Asked.{IsTyped, IsPlaced, IsErased, IsNoted, IsOnManifest, manifest_name}
use Rattle.client_edits.specs.Numbers.{built, build_number}
use Rattle.client_edits.specs.declared.built.Built.{Built}
use Rattle.client_edits.specs.declared.built.Built.TheVariants.{Ops, Refused}

pub there : (items xs : List Item) → Some xs ≡ kept items → xs ≡ items
there [] xs e = absurd (cc)
there (i ∷ items) xs e = cc

pub absent : (items : List Item) → None ≡ kept items → [] ≡ items
absent [] e = refl
absent (i ∷ items) e = absurd (cc)

module _ {E : Type 0} where
  pub built_as : (r : Result Built E) (b : Built) (P : Built → Type 0) → P b → IfOk r (λ x. x ≡ b) → IfOk r P
  built_as r b P p h = IfOk-weaker r (λ x. x ≡ b) P (λ x e. subst P (sym e) p) h

  pub refused_as : (r : Result Built E) (n : Option ℕ) (P : Built → Type 0) → ((k : ℕ) → n ≡ Some k → P (Refused k)) → IfOk r (λ b. built n ≡ Some b) → IfOk r P
  refused_as r n P f h = IfOk-weaker r (λ b. built n ≡ Some b) P (λ b e. go n b refl e) h
    where
      go : (m : Option ℕ) (b : Built) → n ≡ m → built m ≡ Some b → P b
      go None b q e = absurd (cc)
      go (Some k) b q e = subst P (same_Some e) (f k q)

  -- an edit of one document, of these actions
  pub on_document : (r : Result Built E) (d : Key) (cs : List Component) (acts : List Action) (P : Built → Type 0)
      → ((ops : List WaveletOp) → meanings ops ≡ Mutates d acts ∷ [] → P (Ops ops)) → actions cs ≡ acts → IfOk r (λ b. b ≡ Ops (op.Mutate d cs ∷ [])) → IfOk r P
  on_document r d cs acts P f e h = built_as r (Ops (op.Mutate d cs ∷ [])) P (f (op.Mutate d cs ∷ []) (ap (λ z. Mutates d z ∷ []) e)) h

  pub on_manifest : (r : Result Built E) (d : Key) (cs : List Component) (Q : List Component → Type 0) (P : Built → Type 0)
      → ((ops : List WaveletOp) → IsOnManifest Q ops → P (Ops ops)) → d ≡ manifest_name → Q cs → IfOk r (λ b. b ≡ Ops (op.Mutate d cs ∷ [])) → IfOk r P
  on_manifest r d cs Q P f e q h = built_as r (Ops (op.Mutate d cs ∷ [])) P (f (op.Mutate d cs ∷ []) (cs, ap (λ z. op.Mutate z cs ∷ []) e, q)) h

  -- ---- documents

  pub written : (r : Result Built E) (items xs out : List Item) (p : Spot) (t u : Key) (cs : List Component) → xs ≡ items → u ≡ t → CanInsert xs p.place (length (chars u)) → IsEdit cs (typing xs p.place (chars u)) xs out
      → IfOk r (λ b. b ≡ Ops (op.Mutate p.document cs ∷ [])) → IfOk r (IsTyped items p t)
  written r items xs out p t u cs e f can edit h =
      subst (λ z. IfOk r (IsTyped z p t)) e (subst (λ w. IfOk r (IsTyped xs p w)) f (on_document r p.document cs (typing xs p.place (chars u)) (IsTyped xs p u) (λ ops g. (can, g)) edit.is h))

  pub unwritten : (r : Result Built E) (items xs : List Item) (p : Spot) (t u : Key) (e : BuildFault) → xs ≡ items → u ≡ t → IsInsertingRefused e xs p.place (length (chars u)) → IfOk r (λ b. built (build_number e) ≡ Some b) → IfOk r (IsTyped items p t)
  unwritten r items xs p t u e f g refused h =
      subst (λ z. IfOk r (IsTyped z p t)) f (subst (λ w. IfOk r (IsTyped xs p w)) g (refused_as r (build_number e) (IsTyped xs p u) (λ k q. (e, q, refused)) h))

  pub placed : (r : Result Built E) (items xs out : List Item) (p : Spot) (t u : Key) (m n : Map Key) (cs : List Component) → xs ≡ items → u ≡ t → n ≡ m → CanInsert xs p.place 2 → IsEdit cs (adding_element xs p.place (chars u) n) xs out
      → IfOk r (λ b. b ≡ Ops (op.Mutate p.document cs ∷ [])) → IfOk r (IsPlaced items p t m)
  placed r items xs out p t u m n cs e f a can edit h =
      subst (λ z. IfOk r (IsPlaced z p t m)) e (subst (λ w. IfOk r (IsPlaced xs p w m)) f (subst (λ o. IfOk r (IsPlaced xs p u o)) a (on_document r p.document cs (adding_element xs p.place (chars u) n) (IsPlaced xs p u n) (λ ops g. (can, g)) edit.is h)))

  pub unplaced : (r : Result Built E) (items xs : List Item) (p : Spot) (t : Key) (m : Map Key) (e : BuildFault) → xs ≡ items → IsInsertingRefused e xs p.place 2 → IfOk r (λ b. built (build_number e) ≡ Some b) → IfOk r (IsPlaced items p t m)
  unplaced r items xs p t m e f refused h = subst (λ z. IfOk r (IsPlaced z p t m)) f (refused_as r (build_number e) (IsPlaced xs p t m) (λ k q. (e, q, refused)) h)

  pub erased : (r : Result Built E) (items xs out : List Item) (s : Stretch) (cs : List Component) → xs ≡ items → CanErase xs s.from s.count → IsEdit cs (erasing xs s.from s.count) xs out
      → IfOk r (λ b. b ≡ Ops (op.Mutate s.document cs ∷ [])) → IfOk r (IsErased items s)
  erased r items xs out s cs e can edit h = subst (λ z. IfOk r (IsErased z s)) e (on_document r s.document cs (erasing xs s.from s.count) (IsErased xs s) (λ ops g. (can, g)) edit.is h)

  pub unerased : (r : Result Built E) (items xs : List Item) (s : Stretch) (e : BuildFault) → xs ≡ items → IsErasingRefused e xs s.from s.count → IfOk r (λ b. built (build_number e) ≡ Some b) → IfOk r (IsErased items s)
  unerased r items xs s e f refused h = subst (λ z. IfOk r (IsErased z s)) f (refused_as r (build_number e) (IsErased xs s) (λ k q. (e, q, refused)) h)

  pub noted : (r : Result Built E) (items xs out : List Item) (s : Stretch) (k j : Key) (v w : Option Key) (cs : List Component) → xs ≡ items → j ≡ k → w ≡ v → CanAnnotate xs s.from s.count → IsEdit cs (annotating xs s.from s.count j w) xs out
      → IfOk r (λ b. b ≡ Ops (op.Mutate s.document cs ∷ [])) → IfOk r (IsNoted items s k v)
  noted r items xs out s k j v w cs e f a can edit h =
      subst (λ z. IfOk r (IsNoted z s k v)) e (subst (λ y. IfOk r (IsNoted xs s y v)) f (subst (λ o. IfOk r (IsNoted xs s j o)) a (on_document r s.document cs (annotating xs s.from s.count j w) (IsNoted xs s j w) (λ ops g. (can, g)) edit.is h)))

  pub unnoted : (r : Result Built E) (items xs : List Item) (s : Stretch) (k : Key) (v : Option Key) (e : BuildFault) → xs ≡ items → IsAnnotatingRefused e xs s.from s.count → IfOk r (λ b. built (build_number e) ≡ Some b) → IfOk r (IsNoted items s k v)
  unnoted r items xs s k v e f refused h = subst (λ z. IfOk r (IsNoted z s k v)) f (refused_as r (build_number e) (IsNoted xs s k v) (λ n q. (e, q, refused)) h)
