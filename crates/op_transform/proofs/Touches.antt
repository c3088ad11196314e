-- What the walk knows of the changes that run, from step to step.
--     forgotten                   any key may be touched
--     both_shown                  behind items that both operations keep
--     skipped_later, skipped_earlier     a cursor went on
use Rattle.std.proofs.Common.{◌≡◌, ℕ, ◌<◌, Bool, true, false, refl, sym, ap, subst, ◌∙◌, List, [], ◌++◌, Option, None, Some}
use Rattle.std.specs.Ordering.{nat_cmp, eq_by_cmp}
use Rattle.std.specs.Cmp.Lexicographic.{slice_cmp}
use Rattle.std.specs.Str.{encode_utf8_all}
use Rattle.std.specs.FinMap.{get}
use Rattle.std.proofs.lemmas.Bool.{and_parts}
use Rattle.std.proofs.lemmas.List.Folds.{list_any-append}
use Rattle.doc_items.specs.Changes.{ChangeSet}
use Rattle.doc_items.specs.Maps.{Key}
use Rattle.doc_items.proofs.Maps.{get-merge, matches_at, or_false}
use Rattle.change_view.specs.Rules.{one_over, one_under, same_old}
use Rattle.change_table.specs.Keys.{is_among, AgreeBut, Touches}
use Rattle.doc_op.specs.Actions.{Action}
use Rattle.doc_op.specs.Normal.{shown_last}
use Rattle.doc_op.proofs.Shown.{shown_kept}
use Rattle.op_transform.specs.Crossing.{over, under}
use Rattle.op_transform.specs.Touches.{AreInStepBut, AreInStep}
use Rattle.op_transform.specs.Walks.{AreKept}
use Rattle.op_runs.specs.declared.kept.Kept.{Kept}
use Rattle.op_transform.specs.declared.walk.Walk.{Walk}

pub forgotten : (t : Option (List (List ℕ))) (later earlier : List Action) (u w : ChangeSet) → t ≡ None → AreInStep t later earlier u w
forgotten t later earlier u w e = subst (λ x. AreInStep x later earlier u w) (sym e) tt

pub both_shown : (x y : Kept) (u w : ChangeSet) (done after : Walk) (t : Bool) (keys : Option (List (List ℕ))) → t ≡ true → AreKept t x u y w done after → 0 < x.count → 0 < y.count → keys ≡ Some []
    → AreInStep keys after.later.out after.earlier.out u w
both_shown x y u w done after t keys is h m n e =
    let k = subst (λ b. AreKept b x u y w done after) is h in
    let l : shown_last after.later.out ≡ over u w = ap shown_last k.later.out ∙ shown_kept done.later.out x.count (over u w) _ m in
    let r : shown_last after.earlier.out ≡ under w u = ap shown_last k.earlier.out ∙ shown_kept done.earlier.out y.count (under w u) _ n in
    subst (λ ks. AreInStep ks after.later.out after.earlier.out u w) (sym e) (record {
      later_shows = λ q _. ap (λ v. get v q) l;
      earlier_shows = λ q _. ap (λ v. get v q) r;
      cross = λ q _. matches_at same_old u w q refl (and_parts _ _ k.stays).0;
    })

-- ---- a cursor goes on

among-append : (ks more : List (List ℕ)) (q : Key) → is_among (ks ++ more) q ≡ false → (is_among ks q ≡ false) × (is_among more q ≡ false)
among-append ks more q e = or_false _ _ (sym (list_any-append (λ k. eq_by_cmp (slice_cmp nat_cmp) q (encode_utf8_all k)) ks more) ∙ e)

over_alike : (u u' w w' : ChangeSet) (q : Key) → get u q ≡ get u' q → get w q ≡ get w' q → get (over u w) q ≡ get (over u' w') q
over_alike u u' w w' q e f = get-merge one_over u w q refl ∙ (λ i. one_over (e i) (f i)) ∙ sym (get-merge one_over u' w' q refl)

under_alike : (u u' w w' : ChangeSet) (q : Key) → get u q ≡ get u' q → get w q ≡ get w' q → get (under w u) q ≡ get (under w' u') q
under_alike u u' w w' q e f = get-merge one_under w u q refl ∙ (λ i. one_under (f i) (e i)) ∙ sym (get-merge one_under w' u' q refl)

in_step_on : (ks more : List (List ℕ)) (later earlier : List Action) (u u' w w' : ChangeSet) → AgreeBut more u u' → AgreeBut more w w' → AreInStepBut ks later earlier u w → AreInStepBut (ks ++ more) later earlier u' w'
in_step_on ks more later earlier u u' w w' e f h = record {
  later_shows = λ q n. let p = among-append ks more q n in h.later_shows q p.0 ∙ over_alike u u' w w' q (e q p.1) (f q p.1);
  earlier_shows = λ q n. let p = among-append ks more q n in h.earlier_shows q p.0 ∙ under_alike u u' w w' q (e q p.1) (f q p.1);
  cross = λ q n. let p = among-append ks more q n in sym (λ i. same_old (e q p.1 i) (f q p.1 i)) ∙ h.cross q p.0;
}

pub skipped_later : (t s : Option (List (List ℕ))) (later earlier : List Action) (u u' w : ChangeSet) → Touches t u s u' → AreInStep t later earlier u w → AreInStep s later earlier u' w
skipped_later None s later earlier u u' w h k = forgotten s later earlier u' w h
skipped_later (Some ks) None later earlier u u' w h k = absurd h
skipped_later (Some ks) (Some ls) later earlier u u' w h k = subst (λ x. AreInStepBut x later earlier u' w) (sym h.is) (in_step_on ks h.more later earlier u u' w w h.kept (λ q _. refl) k)

pub skipped_earlier : (t s : Option (List (List ℕ))) (later earlier : List Action) (u w w' : ChangeSet) → Touches t w s w' → AreInStep t later earlier u w → AreInStep s later earlier u w'
skipped_earlier None s later earlier u w w' h k = forgotten s later earlier u w' h
skipped_earlier (Some ks) None later earlier u w w' h k = absurd h
skipped_earlier (Some ks) (Some ls) later earlier u w w' h k = subst (λ x. AreInStepBut x later earlier u w') (sym h.is) (in_step_on ks h.more later earlier u u w w' (λ q _. refl) h.kept k)
