-- What a builder took.
--     built_more             a component more that it takes
--     built_at               it took each component after those before
--     ascending_of_update    the keys of an update that it took ascend
--     fits_of_boundary       a boundary that it took fits
--     has_room, taken_on     what it takes
use Rattle.std.proofs.Common.{◌≡◌, ℕ, zero, suc, ◌<◌, ◌≤◌, ◌==◌, ◌&&◌, ◌||◌, nat_lt, Bool, true, false, not, if◌then◌else◌, List, [], ◌∷◌, ◌++◌, length, take, get_or, Option, None, Some, refl, sym, subst, ap, ◌∙◌, arith, append_assoc, append-nil, true≢false}
use Rattle.std.proofs.lemmas.Bool.{and_parts, and_from, ne_eqb, le-ltb}
use Rattle.doc_items.specs.Changes.{ChangeSet, ascends, AscendsFrom, IsAscending, is_named, EndsFit, NoneNamed, Fits}
use Rattle.doc_items.specs.declared.change.Change.{Change}
use Rattle.doc_items.specs.declared.change.Boundary.{Boundary}
use Rattle.doc_op.specs.declared.component.Component.{Component}
use Rattle.doc_op.specs.declared.component.Component.TheVariants.{Retain, UpdateAttributes, AnnotationBoundary}
use Rattle.doc_op.specs.declared.fault.OpFault.TheVariants.{ZeroCount, CountTooLarge}
use Rattle.doc_items.specs.Limits.{max_count}
use Rattle.doc_op.specs.Actions.{running, actions}
use Rattle.doc_op.specs.Cursors.{IsFitAt}
use Rattle.doc_op.specs.Lengths.{input_len, output_len}
use Rattle.doc_op.specs.Refusals.{first_of, component_len, zero_fault, key_fault, count_fault, runs, bad_end, bad_change, bad_key, refusal, BuiltFrom, IsBuilt}

from-add : (done cs : List Component) (c : Component) → BuiltFrom done cs → refusal (done ++ cs) c ≡ None → BuiltFrom done (cs ++ c ∷ [])
from-add done [] c h e = (ap (λ d. refusal d c) (sym (append-nil done)) ∙ e, tt)
from-add done (b ∷ cs) c h e = (h.0, from-add (done ++ b ∷ []) cs c h.1 (ap (λ d. refusal d c) (append_assoc done (b ∷ []) cs) ∙ e))

pub built_more : (cs : List Component) (c : Component) → IsBuilt cs → refusal cs c ≡ None → IsBuilt (cs ++ c ∷ [])
built_more cs c h e = from-add [] cs c h e

from-at : (done cs : List Component) (i : ℕ) (c : Component) → BuiltFrom done cs → i < length cs → c ≡ get_or cs i c → refusal (done ++ take i cs) c ≡ None
from-at done [] i c h lt is = absurd (omega (arith, lt))
from-at done (b ∷ cs) zero c h lt is = subst (λ (x : Component). refusal (done ++ []) x ≡ None) (sym is) (ap (λ d. refusal d b) (append-nil done) ∙ h.0)
from-at done (b ∷ cs) (suc i) c h lt is = ap (λ d. refusal d c) (sym (append_assoc done (b ∷ []) (take i cs))) ∙ from-at (done ++ b ∷ []) cs i c h.1 (omega (arith, lt)) is

pub built_at : (cs : List Component) (i : ℕ) (c : Component) → IsBuilt cs → i < length cs → c ≡ get_or cs i c → refusal (take i cs) c ≡ None
built_at cs i c h lt is = from-at [] cs i c h lt is

-- ---- no refusal

pub none_first : {X : Type 0} (x y : Option X) → first_of x y ≡ None → (x ≡ None) × (y ≡ None)
none_first None y e = (refl, e)
none_first (Some x) y e = absurd (cc)

no_bad_key : (k : Option (List ℕ)) → key_fault k ≡ None → k ≡ None
no_bad_key None e = refl
no_bad_key (Some k) e = absurd (cc)

no_key_fault : (cs : List Component) (c : Component) → refusal cs c ≡ None → bad_key (running cs) c ≡ None
no_key_fault cs c e = no_bad_key _ (none_first _ _ (none_first _ _ e).1).0

goes_on : {X : Type 0} (b : Bool) (x : Option X) (y : X) → (if b then x else Some y) ≡ None → (b ≡ true) × (x ≡ None)
goes_on true x y e = (refl, e)
goes_on false x y e = absurd (cc)

not_true : (b : Bool) → not b ≡ true → b ≡ false
not_true true e = absurd (true≢false (sym e))
not_true false e = refl

ends_fit : (u : ChangeSet) (p : Option (List ℕ)) (ks : List (List ℕ)) → bad_end u p ks ≡ None → EndsFit u p ks
ends_fit u p [] e = tt
ends_fit u p (k ∷ ks) e =
    let g = goes_on (ascends p k && runs u k) (bad_end u (Some k) ks) k e in
    let b = and_parts (ascends p k) (runs u k) g.0 in
    (b.0, b.1, ends_fit u (Some k) ks g.1)

changes_fit : (ends : List (List ℕ)) (p : Option (List ℕ)) (cs : List Change) → bad_change ends p cs ≡ None → AscendsFrom p cs × NoneNamed ends cs
changes_fit ends p [] e = (tt, tt)
changes_fit ends p (c ∷ cs) e =
    let g = goes_on (ascends p c.key && not (is_named ends c.key)) (bad_change ends (Some c.key) cs) c.key e in
    let b = and_parts (ascends p c.key) (not (is_named ends c.key)) g.0 in
    let more = changes_fit ends (Some c.key) cs g.1 in
    ((b.0, more.0), (not_true (is_named ends c.key) b.1, more.1))

pub ascending_of_update : (cs : List Component) (changes : List Change) → refusal cs (UpdateAttributes changes) ≡ None → IsAscending changes
ascending_of_update cs changes e = (changes_fit [] None changes (no_key_fault cs (UpdateAttributes changes) e)).0

pub fits_of_boundary : (cs : List Component) (b : Boundary) → refusal cs (AnnotationBoundary b) ≡ None → Fits (running cs) b
fits_of_boundary cs b e =
    let both = none_first (bad_end (running cs) None b.end) (bad_change b.end None b.change) (no_key_fault cs (AnnotationBoundary b) e) in
    let changes = changes_fit b.end None b.change both.1 in
    (ends_fit (running cs) None b.end both.0, changes.0, changes.1)

-- ---- what a builder takes

taken_branch : {X : Type 0} (b : Bool) (x y : X) → b ≡ true → (if b then x else y) ≡ x
taken_branch true x y e = refl
taken_branch false x y e = absurd (true≢false (sym e))

other_branch : {X : Type 0} (b : Bool) (x y : X) → b ≡ false → (if b then x else y) ≡ y
other_branch true x y e = absurd (true≢false e)
other_branch false x y e = refl

none_of : {X : Type 0} (x y : Option X) → x ≡ None → y ≡ None → first_of x y ≡ None
none_of None y e f = f
none_of (Some x) y e f = e

no_bad_end : (u : ChangeSet) (p : Option (List ℕ)) (ks : List (List ℕ)) → EndsFit u p ks → bad_end u p ks ≡ None
no_bad_end u p [] h = refl
no_bad_end u p (k ∷ ks) h = taken_branch (ascends p k && runs u k) (bad_end u (Some k) ks) (Some k) (and_from _ _ h.0 h.1) ∙ no_bad_end u (Some k) ks h.2

no_bad_change : (ends : List (List ℕ)) (p : Option (List ℕ)) (cs : List Change) → AscendsFrom p cs → NoneNamed ends cs → bad_change ends p cs ≡ None
no_bad_change ends p [] h n = refl
no_bad_change ends p (c ∷ cs) h n =
    taken_branch (ascends p c.key && not (is_named ends c.key)) (bad_change ends (Some c.key) cs) (Some c.key) (and_from _ _ h.0 (ap not n.0))
    ∙ no_bad_change ends (Some c.key) cs h.1 n.1

none_named : (cs : List Change) → NoneNamed [] cs
none_named [] = tt
none_named (c ∷ cs) = (refl, none_named cs)

no_fault_key : (u : ChangeSet) (c : Component) → IsFitAt u c → bad_key u c ≡ None
no_fault_key u (UpdateAttributes changes) h = no_bad_change [] None changes h (none_named changes)
no_fault_key u (AnnotationBoundary b) h = none_of _ _ (no_bad_end u None b.end h.0) (no_bad_change b.end None b.change h.1 h.2)
no_fault_key u (Retain n) h = refl
no_fault_key u c h = refl

some_component : (n : ℕ) → 0 < n → zero_fault n ≡ None
some_component zero h = absurd (omega (arith, h))
some_component (suc n) h = other_branch (suc n == 0) (Some ZeroCount) None (ne_eqb (suc n) 0 (λ e. absurd (omega (arith, e))))

pub has_room : (cs : List Component) → input_len (actions cs) ≤ max_count → output_len (actions cs) ≤ max_count
    → (if nat_lt max_count (input_len (actions cs)) || nat_lt max_count (output_len (actions cs)) then Some CountTooLarge else None) ≡ None
has_room cs i o =
    ap (λ b. if b || nat_lt max_count (output_len (actions cs)) then Some CountTooLarge else None) (le-ltb max_count (input_len (actions cs)) i)
    ∙ other_branch (nat_lt max_count (output_len (actions cs))) (Some CountTooLarge) None (le-ltb max_count (output_len (actions cs)) o)

pub taken_on : (cs : List Component) (c : Component) → 0 < component_len c → IsFitAt (running cs) c → input_len (actions (cs ++ c ∷ [])) ≤ max_count → output_len (actions (cs ++ c ∷ [])) ≤ max_count
    → refusal cs c ≡ None
taken_on cs c s h i o =
    none_of (zero_fault (component_len c)) _ (some_component (component_len c) s)
    (none_of (key_fault (bad_key (running cs) c)) (count_fault (cs ++ c ∷ [])) (ap key_fault (no_fault_key (running cs) c h)) (has_room (cs ++ c ∷ []) i o))
