-- Acts on both parts of a state, and on one after the other.
--     role_law, document_law      an act on roles, and on a document, as an act on a state
--     get-trimmed, document-trimmed, trimmed-edit, trimmed-trim, trimmed_is     the documents that aren't empty
--     edit_act                    an edit is the act on the state that is seen
--     runs, refused_now, refused_then     one act, and those after it
--     trim_through, taken_back    an edit, what happens after it, and the end
use Rattle.std.proofs.Common.{◌≡◌, ℕ, suc, ◌+◌, Bool, true, false, cond, List, [], ◌∷◌, refl, sym, ap, subst, ◌∙◌, arith, Option, None, Some, unwrap_or, Result, Ok, Err, IfErr, IfSome, IsSome, is_some, length, ◌≤◌}
use Rattle.std.specs.Option.{option_map, option_map_or, option_and_then}
use Rattle.std.specs.FinMap.{get, empty, get-empty}
use Rattle.std.specs.Ordering.{nat_cmp}
use Rattle.std.specs.Cmp.Lexicographic.{slice_cmp}
use Rattle.doc_items.specs.Balance.{Balanced}
use Rattle.doc_items.specs.Limits.{max_count}
use Rattle.doc_items.specs.Maps.{Key, Map, set_key}
use Rattle.doc_items.specs.declared.item.Item.{Item}
use Rattle.doc_items.proofs.Maps.{tie, tied, alike, get-merge}
use Rattle.doc_op.specs.Actions.{Action, actions}
use Rattle.doc_op.specs.Apply.{valid}
use Rattle.doc_op.specs.declared.component.Component.{Component}
use Rattle.doc_rope.specs.Replacements.{replaced}
use Rattle.doc_rope.specs.declared.replacement.Replacement.{Replacement}
use Rattle.wavelet_op.proofs.Maps.{set_same, set_twice}
use Rattle.wavelet_op.proofs.Structures.{valid_is_mutate}
use Rattle.wavelet_op.specs.declared.op.WaveletOp.{WaveletOp}
use Rattle.wavelet_op.specs.declared.op.WaveletOp.TheVariants.{NoOp, Add, Remove, Mutate, SetRole}
use Rattle.wavelet_op.specs.Acts.{Act, meaning, Idle, Adds, Removes, Sets, Mutates}
use Rattle.wavelet_op.specs.States.{State, on_role, with_document, kept, mutate, apply_act, run, first_invalid, added, removed, role_set}
use Rattle.wavelet_op.specs.declared.fault.WaveletFault.{WaveletFault}
use Rattle.wavelet_op.specs.declared.fault.WaveletFault.TheVariants.{OpInvalid, CountTooLarge, Conflict, DontFit, Memory}
use Rattle.wavelet_op.specs.declared.role.Role.{Role}
use Rattle.wavelet_state.specs.Drafts.{seen, whole, IsRefusedFrom}
use Rattle.wavelet_state.specs.Parts.{changed, on_roles, on_documents, document, trimmed, put_back, IsTrimAt, IsTrim, IsEdit, IsBack, IsStepFault}
use Rattle.wavelet_state.proofs.Parts.{get-set, document-set, set_itself}

-- ---- one act

abbrev pub IsOnRoles : Act → Type 0
IsOnRoles Idle = Unit {0}
IsOnRoles (Adds a) = Unit {0}
IsOnRoles (Removes a) = Unit {0}
IsOnRoles (Sets a old new) = Unit {0}
IsOnRoles (Mutates d acts) = ⊥

on_one : (r : Map Role) (d : Map (List Item)) (a : Key) (o : Option (Option Role)) → on_role (whole r d) a o ≡ option_map (λ x. whole x d) (changed r a o)
on_one r d a None = refl
on_one r d a (Some v) = refl

pub role_law : (a : Act) (r : Map Role) (d : Map (List Item)) → IsOnRoles a → apply_act (whole r d) a ≡ option_map (λ x. whole x d) (on_roles r a)
unfolding apply_act
role_law Idle r d h = refl
role_law (Adds a) r d h = on_one r d a (added (get r a))
role_law (Removes a) r d h = on_one r d a (removed (get r a))
role_law (Sets a old new) r d h = on_one r d a (role_set old new (get r a))
role_law (Mutates n acts) r d h = absurd h

on_items : (r : Map Role) (d : Map (List Item)) (n : Key) (o : Option (List Item)) → option_and_then (λ items. Some (with_document (whole r d) n items)) o ≡ option_map (λ x. whole r x) (option_map (λ items. set_key d n (kept items)) o)
on_items r d n None = refl
on_items r d n (Some items) = refl

pub document_law : (r : Map Role) (d : Map (List Item)) (n : Key) (acts : List Action) → apply_act (whole r d) (Mutates n acts) ≡ option_map (λ x. whole r x) (on_documents d (Mutates n acts))
unfolding apply_act
document_law r d n acts = on_items r d n (mutate acts (document d n))

module _ {X Y : Type 0} where
  pub fault_to : (k : ℕ) (o : Option X) (p : Option Y) (f : WaveletFault) → (o ≡ None → p ≡ None) → IsStepFault k o f → IsStepFault k p f
  fault_to k o p (OpInvalid j) h g = (g.0, h g.1)
  fault_to k o p CountTooLarge h g = g
  fault_to k o p (Conflict j) h g = g
  fault_to k o p (DontFit place) h g = g
  fault_to k o p Memory h g = tt

module _ {A E : Type 0} where
  pub if_err_to : (r : Result A E) (P Q : E → Type 0) → ((e : E) → P e → Q e) → IfErr r P → IfErr r Q
  if_err_to (Ok x) P Q f h = tt
  if_err_to (Err e) P Q f h = f e h

-- ---- the documents that aren't empty

kept_items : (l : List Item) → unwrap_or (kept l) [] ≡ l
kept_items [] = refl
kept_items (i ∷ l) = refl

pub get-trimmed : (m : Map (List Item)) (q : Key) → get (trimmed m) q ≡ kept (document m q)
unfolding trimmed
get-trimmed m q = get-merge (λ o _. kept (unwrap_or o [])) m m q refl

pub document-trimmed : (m : Map (List Item)) (q : Key) → document (trimmed m) q ≡ document m q
document-trimmed m q = ap (λ (o : Option (List Item)). unwrap_or o []) (get-trimmed m q) ∙ kept_items (document m q)

pub trimmed_is : (m : Map (List Item)) → IsTrim m → trimmed m ≡ m
trimmed_is m h = alike _ _ (λ q. get-trimmed m q ∙ sym (h q))

kept_cond : (b : Bool) (x y : List Item) → kept (cond b x y) ≡ cond b (kept x) (kept y)
kept_cond true x y = refl
kept_cond false x y = refl

trimmed-edit : (m : Map (List Item)) (d : Key) (items : List Item) → trimmed (set_key m d (Some items)) ≡ set_key (trimmed m) d (kept items)
trimmed-edit m d items = alike _ _ (λ q.
    get-trimmed (set_key m d (Some items)) q ∙ ap kept (document-set m d (Some items) q) ∙ kept_cond (tie q d) items (document m q)
    ∙ ap (cond (tie q d) (kept items)) (sym (get-trimmed m q)) ∙ sym (get-set (trimmed m) d (kept items) q))

trim_at : (m : Map (List Item)) (d q : Key) (b : Bool) → tie q d ≡ b → cond b (unwrap_or (kept (document m d)) []) (document m q) ≡ document m q
trim_at m d q true e = kept_items (document m d) ∙ ap (document m) (sym (tied q d e))
trim_at m d q false e = refl

document-trim : (m : Map (List Item)) (d q : Key) → document (set_key m d (kept (document m d))) q ≡ document m q
document-trim m d q = document-set m d (kept (document m d)) q ∙ trim_at m d q (tie q d) refl

pub trimmed-trim : (m n : Map (List Item)) (d : Key) → n ≡ set_key m d (kept (document m d)) → trimmed n ≡ trimmed m
trimmed-trim m n d e = ap trimmed e ∙ alike _ _ (λ q. get-trimmed (set_key m d (kept (document m d))) q ∙ ap kept (document-trim m d q) ∙ sym (get-trimmed m q))

-- ---- an edit, and what comes after it

pub edit_act : (cs : List Component) (d : Key) (r : Map Role) (m n : Map (List Item)) → IsEdit cs d m n → apply_act (seen r m) (Mutates d (actions cs)) ≡ Some (seen r n)
edit_act cs d r m n e =
    document_law r (trimmed m) d (actions cs)
    ∙ ap (λ o. option_map (λ x. whole r x) (option_map (λ items. set_key (trimmed m) d (kept items)) o)) (ap (mutate (actions cs)) (document-trimmed m d) ∙ sym (valid_is_mutate cs (document m d)) ∙ e.value)
    ∙ ap (λ x. Some (whole r x)) (sym (ap trimmed e.is ∙ trimmed-edit m d (document n d)))

pub refused_edit : (cs : List Component) (d : Key) (r : Map Role) (m : Map (List Item)) → valid cs (document m d) ≡ None → apply_act (seen r m) (Mutates d (actions cs)) ≡ None
refused_edit cs d r m v =
    document_law r (trimmed m) d (actions cs)
    ∙ ap (λ o. option_map (λ x. whole r x) (option_map (λ items. set_key (trimmed m) d (kept items)) o)) (ap (mutate (actions cs)) (document-trimmed m d) ∙ sym (valid_is_mutate cs (document m d)) ∙ v)

pub runs : (s t : State) (a : Act) (more : List Act) → apply_act s a ≡ Some t → run s (a ∷ more) ≡ run t more
runs s t a more e = ap (option_and_then (λ u. run u more)) e

pub refused_now : (k : ℕ) (s : State) (a : Act) (more : List Act) (f : WaveletFault) → IsStepFault k (apply_act s a) f → IsRefusedFrom k s (a ∷ more) f
refused_now k s a more (OpInvalid j) h =
    let none = ap (λ o. option_map_or (λ t. suc (first_invalid t more)) o 0) h.1 in
    (omega (arith, h.0, none), ap (option_and_then (λ u. run u more)) h.1)
refused_now k s a more CountTooLarge h = h
refused_now k s a more (Conflict j) h = h
refused_now k s a more (DontFit place) h = h
refused_now k s a more Memory h = tt

pub refused_then : (k : ℕ) (s t : State) (a : Act) (more : List Act) (f : WaveletFault) → apply_act s a ≡ Some t → IsRefusedFrom (k + 1) t more f → IsRefusedFrom k s (a ∷ more) f
refused_then k s t a more (OpInvalid j) e h =
    let one = ap (λ o. option_map_or (λ u. suc (first_invalid u more)) o 0) e in
    (omega (arith, h.0, one), runs s t a more e ∙ h.1)
refused_then k s t a more CountTooLarge e h = h
refused_then k s t a more (Conflict j) e h = h
refused_then k s t a more (DontFit place) e h = h
refused_then k s t a more Memory e h = tt

-- ---- and its end

apart_at : (m : Map (List Item)) (d q : Key) (v : Option (List Item)) → tie q d ≡ false → get (set_key m d v) q ≡ get m q
apart_at m d q v e = get-set m d v q ∙ ap (λ b. cond b v (get m q)) e

trim_kept : (l : List Item) → kept (unwrap_or (kept l) []) ≡ kept l
trim_kept l = ap kept (kept_items l)

trims : (b : Bool) (m n o p : Map (List Item)) (d q : Key) (items : List Item) → tie q d ≡ b → n ≡ set_key m d (Some items) → (IsTrimAt n q → IsTrimAt o q) → p ≡ set_key o d (kept (document o d)) → IsTrimAt m q → IsTrimAt p q
trims true m n o p d q items e f h g t =
    let here = ap (λ k. get k q) g ∙ get-set o d (kept (document o d)) q ∙ ap (λ b. cond b (kept (document o d)) (get o q)) e in
    here ∙ sym (ap (λ (v : Option (List Item)). kept (unwrap_or v [])) here ∙ trim_kept (document o d))
trims false m n o p d q items e f h g t =
    let first = ap (λ k. get k q) f ∙ apart_at m d q (Some items) e in
    let last = ap (λ k. get k q) g ∙ apart_at o d q (kept (document o d)) e in
    subst (λ (v : Option (List Item)). v ≡ kept (unwrap_or v [])) (sym last) (h (subst (λ (v : Option (List Item)). v ≡ kept (unwrap_or v [])) (sym first) t))

pub trim_through : (m n o p : Map (List Item)) (d : Key) (items : List Item) → n ≡ set_key m d (Some items) → ((q : Key) → IsTrimAt n q → IsTrimAt o q) → p ≡ set_key o d (kept (document o d))
    → (q : Key) → IsTrimAt m q → IsTrimAt p q
trim_through m n o p d items f h g q t = trims (tie q d) m n o p d q items refl f (h q) g t

pub taken_back : (m n o p : Map (List Item)) (d : Key) (items : List Item) (back : Option Replacement) → n ≡ set_key m d (Some items) → put_back back (document n d) ≡ get m d → o ≡ n
    → p ≡ set_key o d (put_back back (document o d)) → p ≡ m
taken_back m n o p d items back f b same g =
    g ∙ (λ i. set_key (same i) d (put_back back (document (same i) d)))
    ∙ (λ i. set_key (f i) d (b i)) ∙ set_twice m d (Some items) (get m d) ∙ set_itself m d

pub back_there : (back : Option Replacement) (n : Map (List Item)) (d : Key) (items : List Item) (m : Map (List Item)) → n ≡ set_key m d (Some items) → IfSome back (λ r. IsSome (get n d))
back_there None n d items m f = tt
back_there (Some r) n d items m f = ap is_some (ap (λ k. get k d) f ∙ set_same m d (Some items))

pub back_whole : (back : Option Replacement) (m n : Map (List Item)) (d : Key) → IsBack back d m n → IfSome back (λ r. Balanced (replaced r (document n d)) × (length (replaced r (document n d)) ≤ max_count))
back_whole None m n d b = tt
back_whole (Some r) m n d b =
    let same : replaced r (document n d) ≡ document m d = sym (ap (λ (o : Option (List Item)). unwrap_or o []) (sym b.is)) in
    (subst (λ (l : List Item). Balanced l) (sym same) b.balanced, subst (λ (l : List Item). length l ≤ max_count) (sym same) b.bound)

pub on_roles_of : (o : WaveletOp) → ((d : Key) (x : List Component) → o ≡ Mutate d x → ⊥) → IsOnRoles (meaning o)
on_roles_of NoOp h = tt
on_roles_of (Add a) h = tt
on_roles_of (Remove a) h = tt
on_roles_of (Mutate d x) h = absurd (h d x refl)
on_roles_of (SetRole a old new) h = tt

module _ {X Y : Type 0} where
  unmapped : (f : X → Y) (o : Option X) → option_map f o ≡ None → o ≡ None
  unmapped f None e = refl
  unmapped f (Some x) e = absurd (cc)

pub step_refused : (k : ℕ) (a : Act) (r : Map Role) (m : Map (List Item)) (f : WaveletFault) → IsOnRoles a → IsStepFault k (on_roles r a) f → IsStepFault k (apply_act (seen r m) a) f
step_refused k a r m f on h = fault_to k (on_roles r a) _ f (λ e. role_law a r (trimmed m) on ∙ ap (option_map (λ x. whole x (trimmed m))) e) h

pub edit_refused : (k : ℕ) (cs : List Component) (d : Key) (r : Map Role) (m : Map (List Item)) (f : WaveletFault) → IsStepFault k (on_documents m (Mutates d (actions cs))) f
    → IsStepFault k (apply_act (seen r m) (Mutates d (actions cs))) f
edit_refused k cs d r m f h = fault_to k (on_documents m (Mutates d (actions cs))) _ f (λ e. refused_edit cs d r m (valid_is_mutate cs (document m d) ∙ unmapped (λ items. set_key m d (kept items)) (mutate (actions cs) (document m d)) e)) h

pub trim_none : IsTrim empty
trim_none q = subst (λ (o : Option (List Item)). o ≡ kept (unwrap_or o [])) (sym (get-empty (slice_cmp nat_cmp) q)) refl
