-- Which operations change a document, and the changed versions after one more delta.
--     retains_keep       retains change nothing
--     other_changes      an operation in normal form that has another component does
--     first_other, all_retain    component by component
--     version_more       one more delta
use Rattle.std.proofs.Common.{◌≡◌, ◌+◌, ◌<◌, ◌≤◌, ℕ, zero, suc, Bool, true, false, cond, not, ◌||◌, ◌&&◌, List, [], ◌∷◌, ◌++◌, length, drop, get_or, drop-cons, add-one, replicate, refl, sym, ap, subst, ◌∙◌, true≢false}
use Rattle.std.specs.List.{list_any, list_all}
use Rattle.std.proofs.Math.ListN.{drop_of_length-le}
use Rattle.std.proofs.lemmas.List.Folds.{list_any-append}
use Rattle.doc_items.specs.Changes.{ChangeSet, none_running}
use Rattle.doc_items.specs.Maps.{Key}
use Rattle.doc_items.proofs.Maps.{or_false}
use Rattle.change_view.specs.Sets.{same_changes}
use Rattle.change_view.specs.Texts.{boundary_between}
use Rattle.change_view.proofs.Sets.{same_changes-is, same_changes-refl}
use Rattle.doc_op.specs.Actions.{Unchanged, Update, Replace, Action, Keep, Ins, Del, keep, actions}
use Rattle.doc_op.specs.Normal.{normal_form, normal_from, in_front}
use Rattle.doc_op.specs.declared.component.Component.{Component}
use Rattle.doc_op.specs.declared.component.Component.TheVariants.{Retain, Characters, ElementStart, ElementEnd, DeleteCharacters, DeleteElementStart, DeleteElementEnd, ReplaceAttributes, UpdateAttributes, AnnotationBoundary}
use Rattle.wavelet_op.specs.Deltas.{DeltaOf}
use Rattle.delta_history.specs.Points.{acts_of}
use Rattle.wave_index.specs.Changes.{is_idle, changes_by, is_changed, end_of_delta, changed_from}
use Rattle.wave_index.specs.Versions.{is_retain}

idle_none : not (same_changes none_running none_running) ≡ false
idle_none = ap not (same_changes-refl none_running)

kept_idle : (n : ℕ) → list_any (λ a. not (is_idle a)) (replicate n (keep none_running)) ≡ false
kept_idle zero = refl
kept_idle (suc n) = ap (λ b. b || list_any (λ a. not (is_idle a)) (replicate n (keep none_running))) idle_none ∙ kept_idle n

neither : (a b : Bool) → a ≡ false → b ≡ false → (a || b) ≡ false
neither true b e f = e
neither false b e f = f

pub retains_keep : (cs : List Component) → list_all is_retain cs ≡ true → changes_by (actions cs) ≡ false
retains_keep [] e = refl
retains_keep (Retain n ∷ cs) e = list_any-append (λ a. not (is_idle a)) (replicate n (keep none_running)) (actions cs) ∙ neither _ _ (kept_idle n) (retains_keep cs e)
retains_keep (Characters t ∷ cs) e = absurd (true≢false (sym e))
retains_keep (ElementStart kind m ∷ cs) e = absurd (true≢false (sym e))
retains_keep (ElementEnd ∷ cs) e = absurd (true≢false (sym e))
retains_keep (DeleteCharacters t ∷ cs) e = absurd (true≢false (sym e))
retains_keep (DeleteElementStart kind m ∷ cs) e = absurd (true≢false (sym e))
retains_keep (DeleteElementEnd ∷ cs) e = absurd (true≢false (sym e))
retains_keep (ReplaceAttributes old new ∷ cs) e = absurd (true≢false (sym e))
retains_keep (UpdateAttributes changes ∷ cs) e = absurd (true≢false (sym e))
retains_keep (AnnotationBoundary b ∷ cs) e = absurd (true≢false (sym e))

-- ---- in normal form

retain_in_front : (cs : List Component) → list_all is_retain cs ≡ true → list_all is_retain (in_front (Retain 1) cs) ≡ true
retain_in_front [] e = refl
retain_in_front (Retain n ∷ cs) e = e
retain_in_front (Characters t ∷ cs) e = absurd (true≢false (sym e))
retain_in_front (ElementStart kind m ∷ cs) e = absurd (true≢false (sym e))
retain_in_front (ElementEnd ∷ cs) e = absurd (true≢false (sym e))
retain_in_front (DeleteCharacters t ∷ cs) e = absurd (true≢false (sym e))
retain_in_front (DeleteElementStart kind m ∷ cs) e = absurd (true≢false (sym e))
retain_in_front (DeleteElementEnd ∷ cs) e = absurd (true≢false (sym e))
retain_in_front (ReplaceAttributes old new ∷ cs) e = absurd (true≢false (sym e))
retain_in_front (UpdateAttributes changes ∷ cs) e = absurd (true≢false (sym e))
retain_in_front (AnnotationBoundary b ∷ cs) e = absurd (true≢false (sym e))

no_step : (cs : List Component) → cond (same_changes none_running none_running) [] (AnnotationBoundary (boundary_between none_running none_running) ∷ []) ++ cs ≡ cs
no_step cs = ap (λ b. cond b [] (AnnotationBoundary (boundary_between none_running none_running) ∷ []) ++ cs) (same_changes-refl none_running)

no_last_step : cond (same_changes none_running none_running) [] (AnnotationBoundary (boundary_between none_running none_running) ∷ []) ≡ []
no_last_step = ap (λ b. cond b [] (AnnotationBoundary (boundary_between none_running none_running) ∷ [])) (same_changes-refl none_running)

not_false : (b : Bool) → not b ≡ false → b ≡ true
not_false true e = refl
not_false false e = absurd (true≢false e)

idle_retains : (acts : List Action) → changes_by acts ≡ false → list_all is_retain (normal_from none_running acts) ≡ true
idle_retains [] e = ap (list_all is_retain) no_last_step
idle_retains (Keep u Unchanged ∷ acts) e =
    let parts = or_false _ _ e in
    let same : none_running ≡ u = same_changes-is none_running u (not_false _ parts.0) in
    subst (λ (w : ChangeSet). list_all is_retain (normal_from none_running (Keep w Unchanged ∷ acts)) ≡ true) same
    (ap (list_all is_retain) (no_step (in_front (Retain 1) (normal_from none_running acts))) ∙ retain_in_front (normal_from none_running acts) (idle_retains acts parts.1))
idle_retains (Keep u (Update c) ∷ acts) e = absurd (true≢false e)
idle_retains (Keep u (Replace old new) ∷ acts) e = absurd (true≢false e)
idle_retains (Ins x ∷ acts) e = absurd (true≢false e)
idle_retains (Del c n ∷ acts) e = absurd (true≢false e)

pub other_changes : (cs : List Component) → cs ≡ normal_form (actions cs) → list_all is_retain cs ≡ false → true ≡ changes_by (actions cs)
other_changes cs n e = go (changes_by (actions cs)) refl
  where
    go : (b : Bool) → changes_by (actions cs) ≡ b → true ≡ b
    go true f = refl
    go false f = absurd (true≢false (sym (ap (list_all is_retain) n ∙ idle_retains (actions cs) f) ∙ e))

-- ---- versions

pub version_more : (d : Key) (v : ℕ) (ds : List DeltaOf) (x : DeltaOf) → changed_from d v (ds ++ x ∷ []) ≡ cond (is_changed d (acts_of x)) (end_of_delta x) (changed_from d v ds)
version_more d v [] x = refl
version_more d v (y ∷ ds) x = version_more d (cond (is_changed d (acts_of y)) (end_of_delta y) v) ds x

-- ---- component by component

pub first_other : (cs : List Component) (i : ℕ) (k : Component) → i < length cs → k ≡ get_or cs i k → is_retain k ≡ false → list_all is_retain (drop i cs) ≡ list_all is_retain cs → list_all is_retain cs ≡ false
first_other cs i k h is e inv =
    sym inv ∙ ap (list_all is_retain) (drop-cons cs i k h ∙ (λ j. sym is j ∷ drop (sym (add-one i) j) cs)) ∙ ap (λ b. b && list_all is_retain (drop (i + 1) cs)) e

pub all_retain : (cs : List Component) (i : ℕ) → length cs ≤ i → list_all is_retain (drop i cs) ≡ list_all is_retain cs → list_all is_retain cs ≡ true
all_retain cs i h inv = sym inv ∙ ap (list_all is_retain) (drop_of_length-le cs h)
