-- Who was a participant before acts.
--     act_before, acts_before     the tests of `Presence` are right of acts that apply
--     step_before     one act nearer the first of a list
use Rattle.std.proofs.Common.{◌≡◌, ℕ, ◌+◌, ◌-◌, ◌<◌, ◌≤◌, Bool, true, false, cond, not, ◌&&◌, ◌||◌, List, [], ◌∷◌, Option, Some, None, is_some, length, drop, get_or, arith, refl, sym, ap, ◌∙◌}
use Rattle.std.proofs.lemmas.List.{drop_more}
use Rattle.doc_items.specs.Maps.{Key, same_text}
use Rattle.doc_op.proofs.Applying.{no_value, same_Some}
use Rattle.wavelet_op.specs.Acts.{Act, Idle, Adds, Removes, Sets, Mutates, same_role, meaning, meanings}
use Rattle.wavelet_op.specs.States.{State, role_of, added, removed, role_set, on_role, with_role, with_document, document_of, mutate, apply_act, run}
use Rattle.wavelet_op.specs.declared.op.WaveletOp.{WaveletOp}
use Rattle.wavelet_op.specs.declared.role.Role.{Role}
use Rattle.wavelet_op.proofs.Maps.{same_text_is, different, set_same, set_other}
use Rattle.wavelet_op.proofs.Partial.{and_then_some}
use Rattle.robot_host.specs.Presence.{was_before, were_before}

record IsRoleSet (s t : State) (b : Key) (m : Option (Option Role)) : Type 0 where
  role : Option Role
  is : m ≡ Some role
  state : with_role s b role ≡ t

role_set_to : (s t : State) (b : Key) (m : Option (Option Role)) → on_role s b m ≡ Some t → IsRoleSet s t b m
role_set_to s t b None e = no_value e
role_set_to s t b (Some r) e = record { role = r; is = refl; state = same_Some e }

-- at the address itself, and at another one
role_here : (s t : State) (a b : Key) (m : Option (Option Role)) (e : IsRoleSet s t b m) → same_text a b ≡ true → (role_of s a ≡ role_of s b) × (role_of t a ≡ e.role)
role_here s t a b m e same =
    let is : a ≡ b = same_text_is a b same in
    (ap (role_of s) is, ap (role_of t) is ∙ ap (λ z. role_of z b) (sym e.state) ∙ set_same s.roles b e.role)

role_there : (s t : State) (a b : Key) (m : Option (Option Role)) → IsRoleSet s t b m → same_text a b ≡ false → role_of t a ≡ role_of s a
role_there s t a b m e other = ap (λ z. role_of z a) (sym e.state) ∙ set_other s.roles b a e.role (different a b other)

added_none : (o : Option Role) (r : Option Role) → added o ≡ Some r → is_some o ≡ false
added_none None r e = refl
added_none (Some x) r e = no_value e

removed_some : (o : Option Role) (r : Option Role) → removed o ≡ Some r → is_some o ≡ true
removed_some None r e = no_value e
removed_some (Some x) r e = refl

set_some : (old new : Role) (o : Option Role) (r : Option Role) → role_set old new o ≡ Some r → (is_some o ≡ true) × (is_some r ≡ true)
set_some old new None r e = no_value e
set_some old new (Some x) r e = (refl, go (same_role x old) e)
  where
    go : (b : Bool) → cond b (Some (Some new)) None ≡ Some r → is_some r ≡ true
    go true e = ap is_some (sym (same_Some e))
    go false e = no_value e

by_text : (a b : Key) (P : Bool → Type 0) → ((same_text a b ≡ true) → P true) → ((same_text a b ≡ false) → P false) → P (same_text a b)
by_text a b P f g = go (same_text a b) refl
  where
    go : (x : Bool) → same_text a b ≡ x → P x
    go true e = f e
    go false e = g e

pub act_before : (s t : State) (x : Act) (a : Key) → apply_act s x ≡ Some t → is_some (role_of s a) ≡ was_before a x (is_some (role_of t a))
unfolding apply_act
act_before s t Idle a e = ap (λ z. is_some (role_of z a)) (same_Some e)
act_before s t (Adds b) a e =
    let set = role_set_to s t b (added (role_of s b)) e in
    by_text a b (λ x. is_some (role_of s a) ≡ (not x && is_some (role_of t a)))
    (λ same. ap is_some (role_here s t a b (added (role_of s b)) set same).0 ∙ added_none (role_of s b) set.role set.is)
    (λ other. ap is_some (sym (role_there s t a b (added (role_of s b)) set other)))
act_before s t (Removes b) a e =
    let set = role_set_to s t b (removed (role_of s b)) e in
    by_text a b (λ x. is_some (role_of s a) ≡ (x || is_some (role_of t a)))
    (λ same. ap is_some (role_here s t a b (removed (role_of s b)) set same).0 ∙ removed_some (role_of s b) set.role set.is)
    (λ other. ap is_some (sym (role_there s t a b (removed (role_of s b)) set other)))
act_before s t (Sets b old new) a e =
    let set = role_set_to s t b (role_set old new (role_of s b)) e in
    let some = set_some old new (role_of s b) set.role set.is in
    by_text a b (λ x. is_some (role_of s a) ≡ is_some (role_of t a))
    (λ same. let here = role_here s t a b (role_set old new (role_of s b)) set same in ap is_some here.0 ∙ some.0 ∙ sym (ap is_some here.1 ∙ some.1))
    (λ other. ap is_some (sym (role_there s t a b (role_set old new (role_of s b)) set other)))
act_before s t (Mutates d acts) a e =
    let m = and_then_some (mutate acts (document_of s d)) (λ items. Some (with_document s d items)) t e in
    ap (λ z. is_some (role_of z a)) (same_Some m.2)

pub acts_before : (s t : State) (xs : List Act) (a : Key) → run s xs ≡ Some t → is_some (role_of s a) ≡ were_before a xs (is_some (role_of t a))
acts_before s t [] a e = ap (λ z. is_some (role_of z a)) (same_Some e)
acts_before s t (x ∷ xs) a e =
    let m = and_then_some (apply_act s x) (λ z. run z xs) t e in
    act_before s m.0 x a m.1 ∙ ap (was_before a x) (acts_before m.0 t xs a m.2)

-- ---- from the last act to the first

pub step_before : (a : Key) (ops : List WaveletOp) (now here r : Bool) (n : ℕ) (op : WaveletOp) → 0 < n → n ≤ length ops → op ≡ get_or ops (n - 1) op → were_before a (meanings (drop n ops)) now ≡ here → r ≡ was_before a (meaning op) here → were_before a (meanings (drop (n - 1) ops)) now ≡ r
step_before a ops now here r n op some within is e f =
    let more : drop (n - 1) ops ≡ op ∷ drop n ops = drop_more ops (n - 1) op (omega (arith, some, within)) ∙ ap (λ z. z ∷ drop (n - 1 + 1) ops) (sym is) ∙ ap (λ z. op ∷ drop z ops) (let same : n - 1 + 1 ≡ n = omega (arith, some) in same) in
    ap (λ z. were_before a (meanings z) now) more ∙ ap (was_before a (meaning op)) e ∙ sym f
