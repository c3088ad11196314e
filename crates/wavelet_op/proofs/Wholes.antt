-- Acts keep every document balanced, and none that is empty.
use Rattle.std.proofs.Common.{◌≡◌, Bool, true, false, List, Option, None, Some, [], ◌∷◌, refl, sym, ap, subst, ◌∙◌}
use Rattle.std.specs.FinMap.{get}
use Rattle.doc_items.specs.Balance.{Balanced}
use Rattle.doc_items.specs.Maps.{Key, same_text}
use Rattle.doc_items.specs.declared.item.Item.{Item}
use Rattle.doc_op.specs.Apply.{apply}
use Rattle.doc_op.proofs.Applying.{no_value, same_Some, passed, keeps_balance}
use Rattle.wavelet_op.specs.Acts.{Act, Idle, Adds, Removes, Sets, Mutates}
use Rattle.wavelet_op.specs.Laws.{IsWhole, StatesHold}
use Rattle.wavelet_op.specs.States.{State, role_of, on_role, added, removed, role_set, document_of, kept, with_document, is_structured, mutate, apply_act, run}
use Rattle.wavelet_op.specs.declared.role.Role.{Role}
use Rattle.wavelet_op.proofs.Maps.{same_text_is, different, set_same, set_other}
use Rattle.wavelet_op.proofs.Partial.{and_then_some}
use Rattle.wavelet_op.proofs.Squares.{document_there, document_elsewhere}
use Rattle.wavelet_op.proofs.Structures.{is_structured-holds}

on_roles : (s t : State) (a : Key) (m : Option (Option Role)) → IsWhole s → on_role s a m ≡ Some t → IsWhole t
on_roles s t a None h e = no_value e
on_roles s t a (Some r) h e = subst IsWhole (same_Some e) (record { balanced = h.balanced; some_items = h.some_items })

with_balanced : (s : State) (d : Key) (x : List Item) → IsWhole s → Balanced x → IsWhole (with_document s d x)
with_balanced s d x h b = record { balanced = λ q. balance q (same_text q d) refl; some_items = λ q. items q (same_text q d) refl }
  where
    balance : (q : Key) (c : Bool) → same_text q d ≡ c → Balanced (document_of (with_document s d x) q)
    balance q true e = subst (λ (z : Key). Balanced (document_of (with_document s d x) z)) (sym (same_text_is q d e)) (subst Balanced (sym (document_there s d x)) b)
    balance q false e = subst Balanced (sym (document_elsewhere s d q x (different q d e))) (h.balanced q)

    items : (q : Key) (c : Bool) → same_text q d ≡ c → get (with_document s d x).documents q ≡ kept (document_of (with_document s d x) q)
    items q true e = subst (λ (z : Key). get (with_document s d x).documents z ≡ kept (document_of (with_document s d x) z)) (sym (same_text_is q d e)) (set_same s.documents d (kept x) ∙ ap kept (sym (document_there s d x)))
    items q false e = set_other s.documents d q (kept x) (different q d e) ∙ h.some_items q ∙ ap kept (sym (document_elsewhere s d q x (different q d e)))

act_holds : (s t : State) (a : Act) → IsWhole s → apply_act s a ≡ Some t → IsWhole t
unfolding apply_act
act_holds s t Idle h e = subst IsWhole (same_Some e) h
act_holds s t (Adds a) h e = on_roles s t a (added (role_of s a)) h e
act_holds s t (Removes a) h e = on_roles s t a (removed (role_of s a)) h e
act_holds s t (Sets a old new) h e = on_roles s t a (role_set old new (role_of s a)) h e
act_holds s t (Mutates d acts) h e =
    let x = and_then_some (mutate acts (document_of s d)) (λ items. Some (with_document s d items)) t e in
    let m = passed (is_structured acts) (apply acts (document_of s d)) x.0 x.1 in
    subst IsWhole (same_Some x.2) (with_balanced s d x.0 h (keeps_balance acts (document_of s d) x.0 0 0 0 0 refl (is_structured-holds acts m.test) (h.balanced d) m.rest))

pub states_hold : StatesHold
states_hold s t [] h e = subst IsWhole (same_Some e) h
states_hold s t (a ∷ more) h e = let x = and_then_some (apply_act s a) (λ u. run u more) t e in states_hold x.0 t more (act_holds s x.0 a h x.1) x.2
