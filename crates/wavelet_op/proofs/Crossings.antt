-- What becomes of two operations, and that what is structured stays so.
--     mutations_cross, mutations_refused       two operations on one document
--     structured_step      of both results
use Rattle.std.proofs.Common.{◌≡◌, ℕ, ◌<◌, ◌≤◌, Bool, true, false, cond, not, ◌||◌, nat_le, List, Option, Some, None, Ok, Err, refl, sym, ap, subst, ◌∙◌, arith}
use Rattle.std.specs.Option.{ok_or}
use Rattle.std.proofs.lemmas.Bool.Decides.{nat_tests}
use Rattle.doc_items.specs.Limits.{max_count}
use Rattle.doc_items.specs.Maps.{Key, same_text}
use Rattle.doc_op.specs.declared.component.Component.{Component}
use Rattle.doc_op.specs.Actions.{Action, actions}
use Rattle.doc_op.specs.Structure.{Structured}
use Rattle.doc_op.proofs.Applying.{no_value, same_Some, passed}
use Rattle.op_transform.proofs.Laws.{are_structured}
use Rattle.op_transform.specs.Results.{together, IsRefused}
use Rattle.op_transform.specs.Transform.{Outcome, transform}
use Rattle.op_transform.specs.declared.fault.TransformFault.{TransformFault}
use Rattle.op_transform.specs.declared.fault.TransformFault.TheVariants as of_transform
use Rattle.wavelet_op.specs.Acts.{Act, Idle, Adds, Removes, Sets, Mutates, same_role, IsStructuredAct}
use Rattle.wavelet_op.specs.Grids.{at_index}
use Rattle.wavelet_op.specs.Results.{fault_of, Refuses}
use Rattle.wavelet_op.specs.Transform.{Both, TooLarge, Clash, mutations, role_transform, role_key, by_role, is_within, act_transform, exact, bounded}

fits : (n : ℕ) → n ≤ max_count → nat_le n max_count ≡ true
fits n h = grind (arith, nat_tests)

exceeds : (n : ℕ) → max_count < n → nat_le n max_count ≡ false
exceeds n h = grind (arith, nat_tests)

-- `bounded` of two mutations of one document
at_document : (d c : Key) (x y : List Action) (b : Bool) → same_text d c ≡ true → nat_le (together x y) max_count ≡ b → bounded (Mutates d x) (Mutates c y) ≡ cond b (ok_or (mutations d c (transform x y)) Clash) (Err TooLarge)
unfolding bounded exact act_transform is_within
at_document d c x y b s n = λ i. cond (not (s i) || n i) (ok_or (cond (s i) (mutations d c (transform x y)) (Some (Mutates d x, Mutates c y))) Clash) (Err TooLarge)

pub mutations_cross : (d c : Key) (x y x' y' : List Action) → same_text d c ≡ true → together x y ≤ max_count → transform x y ≡ Ok (x', y') → bounded (Mutates d x) (Mutates c y) ≡ Ok (Mutates d x', Mutates c y')
mutations_cross d c x y x' y' s n h = at_document d c x y true s (fits _ n) ∙ ap (λ r. ok_or (mutations d c r) Clash) h

pub mutations_refused : (f : TransformFault) (k : ℕ) (d c : Key) (x y : List Component) → same_text d c ≡ true → IsRefused f x y → Refuses (at_index k (bounded (Mutates d (actions x)) (Mutates c (actions y)))) (fault_of f k)
mutations_refused of_transform.CountTooLarge k d c x y s h = (k, ap (at_index k) (at_document d c (actions x) (actions y) false s (exceeds _ h)))
mutations_refused (of_transform.Conflict place) k d c x y s h = ap (at_index k) (at_document d c (actions x) (actions y) true s (fits _ h.0) ∙ ap (λ r. ok_or (mutations d c r) Clash) h.1)
mutations_refused of_transform.Memory k d c x y s h = tt

-- ---- what is structured stays so

abbrev AreBoth : Both → Type 0
AreBoth p = IsStructuredAct p.0 × IsStructuredAct p.1

given : (l e : Act) (o : Option Both) (p : Both) → o ≡ Some (l, e) → IsStructuredAct l → IsStructuredAct e → o ≡ Some p → AreBoth p
given l e o p is s t h = subst AreBoth (same_Some (sym is ∙ h)) (s, t)

roles : (l e : Act) (p : Both) → IsStructuredAct l → IsStructuredAct e → role_transform l e ≡ Some p → AreBoth p
roles (Adds a) (Adds b) p s t h = given Idle Idle _ p refl tt tt h
roles (Removes a) (Removes b) p s t h = given Idle Idle _ p refl tt tt h
roles (Sets a o n) (Sets b q m) p s t h = given (Sets a m n) Idle _ p refl tt tt (passed (same_role o q) (Some (Sets a m n, Idle)) p h).rest
roles (Sets a o n) (Removes b) p s t h = given Idle (Removes b) _ p refl tt tt h
roles (Removes a) (Sets b o n) p s t h = given (Removes a) Idle _ p refl tt tt h
roles (Adds a) (Removes b) p s t h = no_value h
roles (Adds a) (Sets b o n) p s t h = no_value h
roles (Adds a) Idle p s t h = no_value h
roles (Adds a) (Mutates c y) p s t h = no_value h
roles (Removes a) (Adds b) p s t h = no_value h
roles (Removes a) Idle p s t h = no_value h
roles (Removes a) (Mutates c y) p s t h = no_value h
roles (Sets a o n) (Adds b) p s t h = no_value h
roles (Sets a o n) Idle p s t h = no_value h
roles (Sets a o n) (Mutates c y) p s t h = no_value h
roles Idle e p s t h = no_value h
roles (Mutates d x) e p s t h = no_value h

chosen : (l e : Act) (b : Bool) (p : Both) → IsStructuredAct l → IsStructuredAct e → cond b (role_transform l e) (Some (l, e)) ≡ Some p → AreBoth p
chosen l e true p s t h = roles l e p s t h
chosen l e false p s t h = given l e _ p refl s t h

by_key : (l e : Act) (j k : Option Key) (p : Both) → IsStructuredAct l → IsStructuredAct e → by_role l e j k ≡ Some p → AreBoth p
by_key l e None k p s t h = given l e _ p refl s t h
by_key l e (Some a) None p s t h = given l e _ p refl s t h
by_key l e (Some a) (Some b) p s t h = chosen l e (same_text a b) p s t h

on_documents : (d c : Key) (x y : List Action) (b : Bool) (p : Both) → Structured x → Structured y → cond b (mutations d c (transform x y)) (Some (Mutates d x, Mutates c y)) ≡ Some p → AreBoth p
on_documents d c x y false p s t h = given (Mutates d x) (Mutates c y) _ p refl s t h
on_documents d c x y true p s t h = from (transform x y) refl h
  where
    from : (r : Outcome) → transform x y ≡ r → mutations d c r ≡ Some p → AreBoth p
    from (Ok q) is g = let w = are_structured x y q s t is in given (Mutates d q.0) (Mutates c q.1) _ p refl w.0 w.1 g
    from (Err place) is g = no_value g

pub structured_results : (l e : Act) (p : Both) → IsStructuredAct l → IsStructuredAct e → act_transform l e ≡ Some p → AreBoth p
unfolding act_transform
structured_results (Mutates d x) (Mutates c y) p s t h = on_documents d c x y (same_text d c) p s t h
structured_results (Mutates d x) Idle p s t h = by_key (Mutates d x) Idle None None p s t h
structured_results (Mutates d x) (Adds b) p s t h = by_key (Mutates d x) (Adds b) None (Some b) p s t h
structured_results (Mutates d x) (Removes b) p s t h = by_key (Mutates d x) (Removes b) None (Some b) p s t h
structured_results (Mutates d x) (Sets b o n) p s t h = by_key (Mutates d x) (Sets b o n) None (Some b) p s t h
structured_results Idle e p s t h = by_key Idle e None (role_key e) p s t h
structured_results (Adds a) e p s t h = by_key (Adds a) e (Some a) (role_key e) p s t h
structured_results (Removes a) e p s t h = by_key (Removes a) e (Some a) (role_key e) p s t h
structured_results (Sets a o n) e p s t h = by_key (Sets a o n) e (Some a) (role_key e) p s t h

some_of : (b : Bool) (o : Option Both) (p : Both) → cond b (ok_or o Clash) (Err TooLarge) ≡ Ok p → o ≡ Some p
some_of true None p h = absurd (cc)
some_of true (Some q) p h = cc
some_of false o p h = absurd (cc)

pub structured_step : (l e : Act) (p : Both) → IsStructuredAct l → IsStructuredAct e → bounded l e ≡ Ok p → IsStructuredAct p.0 × IsStructuredAct p.1
unfolding bounded exact
structured_step l e p s t h = structured_results l e p s t (some_of (is_within l e) (act_transform l e) p h)
