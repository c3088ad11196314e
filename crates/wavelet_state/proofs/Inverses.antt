-- What takes acts back at a state.
--     act_back            one act, and then its inverse
--     acts_back_law       acts in turn, and then their inverses
--     led_none, led_on    acts in front of what is kept: none; those of an act and of what comes after it
--     edit_put            the inverse of an operation on a document, in front
--     gathered            what is kept in the end
use Rattle.std.proofs.Common.{◌≡◌, Bool, true, false, cond, List, [], ◌∷◌, ◌++◌, refl, sym, ap, ap₂, subst, ◌∙◌, append_assoc, append-nil, Option, None, Some, option_and_then}
use Rattle.std.specs.FinMap.{get}
use Rattle.std.specs.Option.{option_map_or}
use Rattle.doc_items.specs.Maps.{Key, Map, set_key}
use Rattle.doc_items.specs.declared.item.Item.{Item}
use Rattle.doc_op.specs.Actions.{Action, actions}
use Rattle.doc_op.specs.Apply.{apply}
use Rattle.doc_op.specs.declared.component.Component.{Component}
use Rattle.doc_op.proofs.Applying.{no_value, same_Some, passed}
use Rattle.op_invert.specs.Inverse.{inverse}
use Rattle.op_invert.proofs.Undoing.{inverse_applies, inverse_structured}
use Rattle.wavelet_op.proofs.Grids.{run_append}
use Rattle.wavelet_op.proofs.Maps.{set_same, set_twice}
use Rattle.wavelet_op.proofs.Partial.{and_then_some}
use Rattle.wavelet_op.proofs.Squares.{same_role_is, same_role_itself, document_there}
use Rattle.wavelet_op.proofs.Structures.{is_structured-holds, mutates}
use Rattle.wavelet_op.proofs.Wholes.{states_hold}
use Rattle.wavelet_op.specs.Acts.{Act, Idle, Adds, Removes, Sets, Mutates, meanings, same_role}
use Rattle.wavelet_op.specs.Laws.{IsWhole}
use Rattle.wavelet_op.specs.States.{State, role_of, with_role, on_role, added, removed, role_set, document_of, kept, with_document, is_structured, mutate, apply_act, run}
use Rattle.wavelet_op.specs.declared.op.WaveletOp.{WaveletOp}
use Rattle.wavelet_op.specs.declared.op.WaveletOp.TheVariants.{Mutate}
use Rattle.wavelet_op.specs.declared.role.Role.{Role}
use Rattle.wavelet_op.specs.declared.role.Role.TheVariants.{Full, ReadOnly}
use Rattle.wavelet_state.specs.Drafts.{whole}
use Rattle.wavelet_state.specs.Inverses.{readded, inverse_act, inverse_acts, back_at, acts_back, led, TakesBack}
use Rattle.wavelet_state.specs.Parts.{document}
use Rattle.wavelet_state.proofs.Drafts.{document-trimmed}
use Rattle.wavelet_state.proofs.Parts.{set_itself}

module _ {X : Type 0} where
  put_back : (m : Map X) (k : Key) (v w : Option X) → get m k ≡ w → set_key (set_key m k v) k w ≡ m
  put_back m k v w e = set_twice m k v w ∙ ap (set_key m k) (sym e) ∙ set_itself m k

-- ---- roles

role_back : (s : State) (a : Key) (v w : Option Role) → role_of s a ≡ w → with_role (with_role s a v) a w ≡ s
role_back s a v w e = ap (λ m. whole m s.documents) (put_back s.roles a v w e)

add_back : (s t : State) (a : Key) (o : Option Role) → role_of s a ≡ o → on_role s a (added o) ≡ Some t → run t (Removes a ∷ []) ≡ Some s
unfolding apply_act
add_back s t a (Some r) e h = no_value h
add_back s t a None e h =
    subst (λ (u : State). run u (Removes a ∷ []) ≡ Some s) (same_Some h)
    (ap (λ (o : Option Role). option_and_then (λ u. Some u) (on_role (with_role s a (Some Full)) a (removed o))) (set_same s.roles a (Some Full)) ∙ ap Some (role_back s a (Some Full) None e))

remove_back : (s t : State) (a : Key) (o : Option Role) → role_of s a ≡ o → on_role s a (removed o) ≡ Some t → run t (readded a o) ≡ Some s
unfolding apply_act
remove_back s t a None e h = no_value h
remove_back s t a (Some Full) e h =
    subst (λ (u : State). run u (Adds a ∷ []) ≡ Some s) (same_Some h)
    (ap (λ (o : Option Role). option_and_then (λ u. Some u) (on_role (with_role s a None) a (added o))) (set_same s.roles a None) ∙ ap Some (role_back s a None (Some Full) e))
remove_back s t a (Some ReadOnly) e h =
    let there = with_role (with_role s a None) a (Some Full) in
    subst (λ (u : State). run u (Adds a ∷ Sets a Full ReadOnly ∷ []) ≡ Some s) (same_Some h)
    (ap (λ (o : Option Role). option_and_then (λ u. run u (Sets a Full ReadOnly ∷ [])) (on_role (with_role s a None) a (added o))) (set_same s.roles a None)
    ∙ ap (λ (o : Option Role). option_and_then (λ u. Some u) (on_role there a (role_set Full ReadOnly o))) (set_same (set_key s.roles a None) a (Some Full))
    ∙ ap (λ m. Some (whole m s.documents)) (set_twice (set_key s.roles a None) a (Some Full) (Some ReadOnly) ∙ put_back s.roles a None (Some ReadOnly) e))

set_there : (s t : State) (a : Key) (old new r : Role) (b : Bool) → same_role r old ≡ b → role_of s a ≡ Some r → on_role s a (cond b (Some (Some new)) None) ≡ Some t → run t (Sets a new old ∷ []) ≡ Some s
unfolding apply_act
set_there s t a old new r false b e h = no_value h
set_there s t a old new r true b e h =
    let there = with_role s a (Some new) in
    subst (λ (u : State). run u (Sets a new old ∷ []) ≡ Some s) (same_Some h)
    (ap (λ (o : Option Role). option_and_then (λ u. Some u) (on_role there a (role_set new old o))) (set_same s.roles a (Some new))
    ∙ ap (λ c. option_and_then (λ u. Some u) (on_role there a (cond c (Some (Some old)) None))) (same_role_itself new)
    ∙ ap Some (role_back s a (Some new) (Some old) (e ∙ ap Some (same_role_is r old b))))

set_back : (s t : State) (a : Key) (old new : Role) (o : Option Role) → role_of s a ≡ o → on_role s a (role_set old new o) ≡ Some t → run t (Sets a new old ∷ []) ≡ Some s
set_back s t a old new None e h = no_value h
set_back s t a old new (Some r) e h = set_there s t a old new r (same_role r old) refl e h

-- ---- documents

document_back : (s : State) (d : Key) (acts : List Action) (out : List Item) → IsWhole s → is_structured acts ≡ true → apply acts (document_of s d) ≡ Some out
    → run (with_document s d out) (Mutates d (inverse acts (document_of s d)) ∷ []) ≡ Some s
unfolding apply_act
document_back s d acts out w q e =
    let items = document_of s d in
    let there = with_document s d out in
    ap (λ x. option_and_then (λ u. Some u) (option_and_then (λ z. Some (with_document there d z)) (mutate (inverse acts items) x))) (document_there s d out)
    ∙ ap (λ o. option_and_then (λ u. Some u) (option_and_then (λ z. Some (with_document there d z)) o)) (mutates (inverse acts items) out items (inverse_structured acts items out e (is_structured-holds acts q)) (inverse_applies acts items out e))
    ∙ ap (λ m. Some (whole s.roles m)) (put_back s.documents d (kept out) (kept items) (w.some_items d))

mutation_back : (s t : State) (d : Key) (acts : List Action) → IsWhole s → option_and_then (λ z. Some (with_document s d z)) (mutate acts (document_of s d)) ≡ Some t
    → run t (Mutates d (inverse acts (document_of s d)) ∷ []) ≡ Some s
mutation_back s t d acts w h =
    let x = and_then_some (mutate acts (document_of s d)) (λ z. Some (with_document s d z)) t h in
    let m = passed (is_structured acts) (apply acts (document_of s d)) x.0 x.1 in
    subst (λ (u : State). run u (Mutates d (inverse acts (document_of s d)) ∷ []) ≡ Some s) (same_Some x.2) (document_back s d acts x.0 w m.test m.rest)

-- ---- acts

pub act_back : (s t : State) (a : Act) → IsWhole s → apply_act s a ≡ Some t → run t (inverse_act s a) ≡ Some s
unfolding apply_act
act_back s t Idle w h = sym h
act_back s t (Adds a) w h = add_back s t a (role_of s a) refl h
act_back s t (Removes a) w h = remove_back s t a (role_of s a) refl h
act_back s t (Sets a old new) w h = set_back s t a old new (role_of s a) refl h
act_back s t (Mutates d acts) w h = mutation_back s t d acts w h

pub acts_back_law : TakesBack
acts_back_law s t [] w h = sym h
acts_back_law s t (a ∷ more) w h =
    let x = and_then_some (apply_act s a) (λ u. run u more) t h in
    let after = states_hold s x.0 (a ∷ []) w (ap (option_and_then (λ u. Some u)) x.1) in
    ap (λ o. run t (option_map_or (λ u. inverse_acts u more ++ inverse_act s a) o [])) x.1
    ∙ run_append t (inverse_acts x.0 more) (inverse_act s a)
    ∙ ap (option_and_then (λ u. run u (inverse_act s a))) (acts_back_law x.0 t more after x.2)
    ∙ act_back s x.0 a w x.1

-- ---- as they are gathered

pub led_none : (o : Option (List Act)) → o ≡ led [] o
led_none None = refl
led_none (Some acts) = refl

led_twice : (xs ys : List Act) (o : Option (List Act)) → led xs (led ys o) ≡ led (xs ++ ys) o
led_twice xs ys None = refl
led_twice xs ys (Some acts) = ap Some (sym (append_assoc xs ys acts))

pub led_on : (s t : State) (a : Act) (more : List Act) (o p q : Option (List Act)) → apply_act s a ≡ Some t → p ≡ led (inverse_act s a) o → q ≡ led (inverse_acts t more) p → q ≡ led (inverse_acts s (a ∷ more)) o
led_on s t a more o p q e h k =
    k ∙ ap (led (inverse_acts t more)) h ∙ led_twice (inverse_acts t more) (inverse_act s a) o
    ∙ ap (λ z. led (option_map_or (λ u. inverse_acts u more ++ inverse_act s a) z []) o) (sym e)

pub edit_put : (r : Map Role) (m : Map (List Item)) (d c : Key) (cs inv : List Component) (old new : List WaveletOp) → new ≡ Mutate c inv ∷ old → c ≡ d → actions inv ≡ inverse (actions cs) (document m d)
    → meanings new ≡ back_at r m (Mutates d (actions cs)) ++ meanings old
edit_put r m d c cs inv old new n k i = ap meanings n ∙ ap₂ (λ z acts. Mutates z acts ∷ meanings old) k (i ∙ ap (inverse (actions cs)) (sym (document-trimmed m d)))

pub gathered : (acts : List Act) (o : Option (List WaveletOp)) (back empty : List WaveletOp) → o ≡ Some back → empty ≡ [] → acts_back o ≡ led acts (acts_back (Some empty)) → meanings back ≡ acts
gathered acts o back empty e n h = same_Some (ap acts_back (sym e) ∙ h ∙ ap (λ l. Some (acts ++ meanings l)) n ∙ ap Some (append-nil acts))
