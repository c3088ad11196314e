-- Documents at one key and at all.
--     get-set                    a look-up after a change
--     document-set               a document after a change
--     balanced_set, balanced_removed, balanced_none    whether each is balanced, after a change
use Rattle.std.proofs.Common.{◌≡◌, ◌≢◌, ◌+◌, ◌≤◌, Bool, true, false, cond, List, [], ◌∷◌, refl, sym, ap, subst, ◌∙◌, Option, None, Some, unwrap_or, true≢false, IfSome, IsSome, is_some, IfOk, Bor, Result, Ok, Err, OnOk, OnErr, ℕ, length, ◌==◌, suc, arith}
use Rattle.std.specs.Option.{option_map, option_copied}
use Rattle.std.specs.Ordering.{nat_cmp}
use Rattle.std.proofs.lemmas.Bool.{ne_eqb}
use Rattle.std.specs.Cmp.Lexicographic.{slice_cmp}
use Rattle.std.proofs.lemmas.Cmp.{nat_list_cmp_total}
use Rattle.std.specs.FinMap.{get, empty, get-insert, get-remove, get-empty}
use Rattle.doc_items.specs.Balance.{Balanced}
use Rattle.doc_items.specs.Limits.{max_count}
use Rattle.doc_items.specs.Maps.{Key, Map, set_key}
use Rattle.doc_items.specs.declared.item.Item.{Item}
use Rattle.doc_items.proofs.Maps.{tie, tied, alike}
use Rattle.doc_op.specs.Apply.{valid}
use Rattle.doc_op.specs.declared.component.Component.{Component}
use Rattle.doc_rope.specs.Replacements.{replaced}
use Rattle.doc_rope.specs.declared.replacement.Replacement.{Replacement}
use Rattle.doc_op.specs.Actions.{actions}
use Rattle.op_validity.specs.declared.fault.CheckFault.{CheckFault}
use Rattle.op_validity.specs.declared.fault.CheckFault.TheVariants.{NotStructured, Mismatch, WrongLength, Memory as OutOfMemory}
use Rattle.wavelet_op.specs.Acts.{Mutates}
use Rattle.wavelet_op.specs.declared.fault.WaveletFault.{WaveletFault}
use Rattle.wavelet_op.proofs.Maps.{set_same, set_twice}
use Rattle.wavelet_op.proofs.Structures.{valid_is_mutate}
use Rattle.wavelet_op.specs.States.{kept}
use Rattle.wavelet_state.specs.Parts.{document, AreBalanced, is_empty_there, IsEdit, IsBack, IsStepFault, step_fault, on_documents}
use Rattle.wavelet_state.specs.Stretches.{Restores}

module _ {X : Type 0} where
  pub get-set : (m : Map X) (k : Key) (v : Option X) (q : Key) → get (set_key m k v) q ≡ cond (tie q k) v (get m q)
  unfolding tie
  get-set m k None q = get-remove nat_list_cmp_total m k q
  get-set m k (Some v) q = get-insert nat_list_cmp_total m k v q

chosen : (b : Bool) (v w : Option (List Item)) → unwrap_or (cond b v w) [] ≡ cond b (unwrap_or v []) (unwrap_or w [])
chosen true v w = refl
chosen false v w = refl

pub document-set : (m : Map (List Item)) (k : Key) (v : Option (List Item)) (q : Key) → document (set_key m k v) q ≡ cond (tie q k) (unwrap_or v []) (document m q)
document-set m k v q = ap (λ (o : Option (List Item)). unwrap_or o []) (get-set m k v q) ∙ chosen (tie q k) v (get m q)

either : (b : Bool) (x y : List Item) → Balanced x → Balanced y → Balanced (cond b x y)
either true x y h k = h
either false x y h k = k

pub balanced_set : (m : Map (List Item)) (k : Key) (v : Option (List Item)) → AreBalanced m → Balanced (unwrap_or v []) → AreBalanced (set_key m k v)
balanced_set m k v h b q = subst (λ (l : List Item). Balanced l) (sym (document-set m k v q)) (either (tie q k) (unwrap_or v []) (document m q) b (h q))

pub balanced_none : AreBalanced empty
balanced_none q = subst (λ (o : Option (List Item)). Balanced (unwrap_or o [])) (sym (get-empty (slice_cmp nat_cmp) q)) refl

pub lent_balanced : (o : Option (Bor (List Item))) (m : Map (List Item)) (q : Key) → option_copied o ≡ get m q → AreBalanced m → IfSome o (λ r. Balanced r.now)
lent_balanced None m q e h = tt
lent_balanced (Some r) m q e h = subst (λ (o : Option (List Item)). Balanced (unwrap_or o [])) (sym e) (h q)

-- ---- empty documents

pub empty_len : (l : List Item) (n : ℕ) → n ≡ length l → (n == 0) ≡ is_empty_there (Some l)
empty_len [] n e = ap (λ m. m == 0) e
empty_len (i ∷ l) n e = ap (λ m. m == 0) e ∙ ne_eqb (suc (length l)) 0 (λ d. absurd (omega (arith, d)))

empty_there : (o : Option (List Item)) → is_empty_there o ≡ true → kept (unwrap_or o []) ≡ None
empty_there None e = refl
empty_there (Some []) e = refl
empty_there (Some (i ∷ l)) e = absurd (true≢false (sym e))

other_there : (o : Option (List Item)) → is_empty_there o ≡ false → kept (unwrap_or o []) ≡ o
other_there None e = refl
other_there (Some []) e = absurd (true≢false e)
other_there (Some (i ∷ l)) e = refl

module _ {X : Type 0} where
  same_there : (m : Map X) (k q : Key) (b : Bool) → tie q k ≡ b → cond b (get m k) (get m q) ≡ get m q
  same_there m k q true e = ap (get m) (sym (tied q k e))
  same_there m k q false e = refl

  pub set_itself : (m : Map X) (k : Key) → set_key m k (get m k) ≡ m
  set_itself m k = alike _ _ (λ q. get-set m k (get m k) q ∙ same_there m k q (tie q k) refl)

pub trim_empty : (m : Map (List Item)) (k : Key) → is_empty_there (get m k) ≡ true → set_key m k None ≡ set_key m k (kept (document m k))
trim_empty m k e = ap (set_key m k) (sym (empty_there (get m k) e))

pub trim_other : (m : Map (List Item)) (k : Key) → is_empty_there (get m k) ≡ false → m ≡ set_key m k (kept (document m k))
trim_other m k e = sym (ap (set_key m k) (other_there (get m k) e) ∙ set_itself m k)

-- ---- edits

pub is_edit : (cs : List Component) (d : Key) (m n : Map (List Item)) (items : List Item) → valid cs (document m d) ≡ Some items → n ≡ set_key m d (Some items) → IsEdit cs d m n
is_edit cs d m n items v e =
    let same : document n d ≡ items = ap (λ k. document k d) e ∙ ap (λ (o : Option (List Item)). unwrap_or o []) (set_same m d (Some items)) in
    record { value = v ∙ ap Some (sym same); is = e ∙ ap (λ l. set_key m d (Some l)) (sym same) }

pub document_there : (m : Map (List Item)) (d : Key) (items : List Item) → get m d ≡ Some items → document m d ≡ items
document_there m d items e = ap (λ (o : Option (List Item)). unwrap_or o []) e

module _ {E : Type 0} where
  pub stays_balanced : {A : Type 0} (r : Result A E) (a b : List Item) → OnOk r (Balanced a → Balanced b) → OnErr r (b ≡ a) → Balanced a → Balanced b
  stays_balanced (Ok x) a b h k l = h l
  stays_balanced (Err e) a b h k l = subst (λ (items : List Item). Balanced items) (sym k) l

module _ {A E : Type 0} where
  pub ok_to : (r : Result A E) {P Q : Type 0} → (P → Q) → OnOk r P → OnOk r Q
  ok_to (Ok x) f h = f h
  ok_to (Err e) f h = tt

  pub err_to : (r : Result A E) {P Q : Type 0} → (P → Q) → OnErr r P → OnErr r Q
  err_to (Ok x) f h = tt
  err_to (Err e) f h = f h

-- what is written back unchanged
pub rewritten : (m n : Map (List Item)) (k : Key) (a b : List Item) → get m k ≡ Some a → n ≡ set_key m k (Some b) → b ≡ a → n ≡ m
rewritten m n k a b g e same = e ∙ ap (set_key m k) (ap Some same ∙ sym g) ∙ set_itself m k

pub back_none : (m : Map (List Item)) (d : Key) → get m d ≡ None → document m d ≡ []
back_none m d e = ap (λ (o : Option (List Item)). unwrap_or o []) e

there_in : (o : Option (List Item)) → IsSome o → Some (unwrap_or o []) ≡ o
there_in None h = absurd (true≢false (sym h))
there_in (Some l) h = refl

pub there_is : (m : Map (List Item)) (d : Key) → IsSome (get m d) → Some (document m d) ≡ get m d
there_is m d h = there_in (get m d) h

pub none_there : (o : Option (List Item)) → is_some o ≡ false → o ≡ None
none_there None e = refl
none_there (Some l) e = absurd (true≢false e)

pub document_set : (m n : Map (List Item)) (d : Key) (items : List Item) → n ≡ set_key m d (Some items) → document n d ≡ items
document_set m n d items e = ap (λ k. document k d) e ∙ ap (λ (o : Option (List Item)). unwrap_or o []) (set_same m d (Some items))

there_some : (m : Map (List Item)) (d : Key) (a : List Item) → get m d ≡ Some a → Some (document m d) ≡ get m d
there_some m d a e = ap Some (document_there m d a e) ∙ sym e

pub back_to : {E : Type 0} (m n : Map (List Item)) (d : Key) (a b : List Item) (r : Result Replacement E) → get m d ≡ Some a → document n d ≡ b → Balanced (document m d)
    → OnOk r (length a ≤ max_count) → IfOk r (λ back. Restores back b a) → IfOk r (λ back. IsBack (Some back) d m n)
back_to m n d a b (Ok back) g e h small k = record {
  is = ap Some (ap (replaced back) e ∙ k.is) ∙ sym g;
  inside = subst (λ (l : List Item). back.from + back.count ≤ length l) (sym e) k.inside;
  balanced = h;
  bound = subst (λ (l : List Item). length l ≤ max_count) (sym (document_there m d a g)) small;
}
back_to m n d a b (Err x) g e h small k = tt

pub back_absent : (m n : Map (List Item)) (d : Key) → get m d ≡ None → IsBack None d m n
back_absent m n d g = record {
  is = sym g;
  inside = tt;
  balanced = subst (λ (l : List Item). Balanced l) (sym (back_none m d g)) refl;
  bound = subst (λ (l : List Item). length l ≤ max_count) (sym (back_none m d g)) (omega arith);
}

-- ---- acts on documents

pub mutated : (cs : List Component) (d : Key) (m mid n : Map (List Item)) → IsEdit cs d m mid → n ≡ set_key mid d (kept (document mid d)) → on_documents m (Mutates d (actions cs)) ≡ Some n
mutated cs d m mid n e t =
    ap (option_map (λ items. set_key m d (kept items))) (sym (valid_is_mutate cs (document m d)) ∙ e.value)
    ∙ ap Some (sym (t ∙ ap (λ k. set_key k d (kept (document mid d))) e.is ∙ set_twice m d (Some (document mid d)) (kept (document mid d))))

invalid_mutation : (cs : List Component) (d : Key) (m : Map (List Item)) → valid cs (document m d) ≡ None → on_documents m (Mutates d (actions cs)) ≡ None
invalid_mutation cs d m v = ap (option_map (λ items. set_key m d (kept items))) (sym (valid_is_mutate cs (document m d)) ∙ v)

not_valid : (cs : List Component) (d : Key) (m : Map (List Item)) (f : CheckFault) (k : ℕ) → (f ≢ OutOfMemory → valid cs (document m d) ≡ None) → IsStepFault k (on_documents m (Mutates d (actions cs))) (step_fault f k)
not_valid cs d m (NotStructured p) k h = (refl, invalid_mutation cs d m (h (λ e. absurd (cc))))
not_valid cs d m (Mismatch p) k h = (refl, invalid_mutation cs d m (h (λ e. absurd (cc))))
not_valid cs d m WrongLength k h = (refl, invalid_mutation cs d m (h (λ e. absurd (cc))))
not_valid cs d m OutOfMemory k h = tt

pub not_mutated : (cs : List Component) (d : Key) (m : Map (List Item)) (f : CheckFault) (k : ℕ) (g : WaveletFault) → g ≡ step_fault f k → (f ≢ OutOfMemory → valid cs (document m d) ≡ None) → IsStepFault k (on_documents m (Mutates d (actions cs))) g
not_mutated cs d m f k g e h = subst (λ (x : WaveletFault). IsStepFault k (on_documents m (Mutates d (actions cs))) x) (sym e) (not_valid cs d m f k h)
