-- The keys that were touched since both operations kept.
--     any_key        any key may differ
--     moved_first, moved_second     changes of one operation started or ended at keys that are noted
--     just_kept      no key was touched
use Rattle.std.proofs.Common.{◌≡◌, ℕ, false, true, ◌∙◌, sym, ap, subst, refl, List, ◌++◌, [], replicate, Option, None, Some, ◌<◌}
use Rattle.std.proofs.lemmas.List.Folds.{list_any-append}
use Rattle.std.specs.FinMap.{get}
use Rattle.doc_items.specs.Maps.{Key}
use Rattle.doc_items.specs.Changes.{ChangeSet}
use Rattle.doc_items.proofs.Maps.{get-merge, matches_at, or_false}
use Rattle.change_view.specs.Rules.{one_then, passing}
use Rattle.change_view.specs.declared.rule.Test.TheVariants.{NewIsOld}
use Rattle.change_table.specs.Keys.{is_among, Touches}
use Rattle.doc_op.specs.Actions.{AttributeChange, Action, Keep}
use Rattle.doc_op.specs.Normal.{shown_last}
use Rattle.doc_op.proofs.Applying.{no_value}
use Rattle.doc_op.proofs.Shown.{shown_kept}
use Rattle.op_compose.specs.Chains.{follows, then}
use Rattle.op_compose.specs.Weaves.{IsInStepBut, IsInStep}
use Rattle.op_compose.specs.declared.weave.Weave.{Weave}

pub any_key : (done : Weave) (w u : ChangeSet) → done.touched ≡ None → IsInStep done w u
any_key done w u e = subst (λ t. IsInStepBut t (shown_last done.out) (then w u) w u) (sym e) tt

-- ---- changes of one operation

-- neither one nor the other keys
among_neither : (ks more : List (List ℕ)) (q : Key) → is_among (ks ++ more) q ≡ false → (is_among ks q ≡ false) × (is_among more q ≡ false)
among_neither ks more q e = or_false _ _ (sym (list_any-append _ ks more) ∙ e)

-- the same but at more keys
abbrev SameBut : List (List ℕ) → ChangeSet → ChangeSet → ChangeSet → ChangeSet → Type 0
SameBut more w u w' u' = (q : Key) → is_among more q ≡ false → (get w q ≡ get w' q) × (get u q ≡ get u' q)

then_at : (w u : ChangeSet) (q : Key) → get (then w u) q ≡ one_then (get w q) (get u q)
then_at w u q = get-merge one_then w u q refl

more_touched : (ks more : List (List ℕ)) (v w u w' u' : ChangeSet) → SameBut more w u w' u' → IsInStepBut (Some ks) v (then w u) w u → IsInStepBut (Some (ks ++ more)) v (then w' u') w' u'
more_touched ks more v w u w' u' same h = (
  λ q e.
      let out = among_neither ks more q e in
      let s = same q out.1 in
      h.0 q out.0 ∙ then_at w u q ∙ (λ i. one_then (s.0 i) (s.1 i)) ∙ sym (then_at w' u' q),
  λ q e.
      let out = among_neither ks more q e in
      let s = same q out.1 in
      (λ i. passing NewIsOld (sym s.0 i) (sym s.1 i)) ∙ h.1 q out.0,
)

pub moved_first : (s t : Option (List (List ℕ))) (v w w' u : ChangeSet) → Touches s w t w' → IsInStepBut s v (then w u) w u → IsInStepBut t v (then w' u) w' u
moved_first s None v w w' u k h = tt
moved_first None (Some ls) v w w' u k h = no_value (sym k)
moved_first (Some ks) (Some ls) v w w' u k h = subst (λ l. IsInStepBut (Some l) v (then w' u) w' u) (sym k.is) (more_touched ks k.more v w u w' u (λ q e. (k.kept q e, refl)) h)

pub moved_second : (s t : Option (List (List ℕ))) (v w u u' : ChangeSet) → Touches s u t u' → IsInStepBut s v (then w u) w u → IsInStepBut t v (then w u') w u'
moved_second s None v w u u' k h = tt
moved_second None (Some ls) v w u u' k h = no_value (sym k)
moved_second (Some ks) (Some ls) v w u u' k h = subst (λ l. IsInStepBut (Some l) v (then w u') w u') (sym k.is) (more_touched ks k.more v w u w u' (λ q e. (refl, k.kept q e)) h)

-- ---- both keep

pub just_kept : (t : Option (List (List ℕ))) (out new : List Action) (n : ℕ) (a : AttributeChange) (w u : ChangeSet) → 0 < n → new ≡ out ++ replicate n (Keep (then w u) a) → follows w u ≡ true → t ≡ Some []
    → IsInStepBut t (shown_last new) (then w u) w u
just_kept t out new n a w u some e h none =
    let last : shown_last new ≡ then w u = ap shown_last e ∙ shown_kept out n (then w u) a some in
    subst (λ x. IsInStepBut x (shown_last new) (then w u) w u) (sym none)
    (λ q _. ap (λ x. get x q) last, λ q _. matches_at (passing NewIsOld) w u q refl h)
