-- The normal form of actions that have a spelling: it has these actions, and a builder takes it.
--     same_actions     its actions
--     is_built         a builder takes each component in turn
--     same_again       it is the normal form of its own actions
use Rattle.std.proofs.Common.{◌≡◌, ◌≢◌, ℕ, ◌+◌, ◌<◌, ◌≤◌, true, false, cond, List, [], ◌∷◌, ◌++◌, length, replicate, refl, sym, ap, subst, ◌∙◌, arith, append_assoc, append-nil, Option, None, Some, option_map, option_and_then}
use Rattle.std.specs.Ordering.{nat_cmp}
use Rattle.std.specs.Cmp.Lexicographic.{slice_cmp}
use Rattle.std.proofs.lemmas.List.{replicate-append-replicate}
use Rattle.std.specs.FinMap.{get, get-empty}
use Rattle.doc_items.specs.Limits.{max_count}
use Rattle.doc_items.specs.Maps.{Key, Map}
use Rattle.doc_items.specs.Changes.{KeyChange, ChangeSet, none_running, change_set}
use Rattle.doc_items.specs.declared.change.Change.{Change}
use Rattle.doc_items.specs.declared.item.Content.{Content}
use Rattle.doc_items.specs.declared.item.Content.TheVariants.{Character, Start, End}
use Rattle.doc_items.proofs.Maps.{alike, get-each, get-picked}
use Rattle.change_view.specs.Sets.{same_changes, fresh, from_absent}
use Rattle.change_view.specs.Texts.{is_text_at, AreTexts, change_list, boundary_between}
use Rattle.change_view.proofs.Boundaries.{after_between, fits_between}
use Rattle.change_view.proofs.Owned.{ascending_list, list_value}
use Rattle.change_view.proofs.Sets.{same_changes-is}
use Rattle.doc_op.specs.declared.component.Component.{Component}
use Rattle.doc_op.specs.declared.component.Component.TheVariants.{Retain, Characters, DeleteCharacters, AnnotationBoundary}
use Rattle.doc_op.specs.Actions.{Unchanged, Update, Replace, Names, Action, Keep, Ins, Del, new_values, old_values, keep, component_actions, running, actions_from, actions}
use Rattle.doc_op.specs.Cursors.{IsSoundFrom}
use Rattle.doc_op.specs.Lengths.{input_len, output_len}
use Rattle.doc_op.specs.Refusals.{BuiltFrom, IsBuilt}
use Rattle.doc_op.specs.Normal.{gone, to_absent, shown, component_of, in_front, step, normal_from, normal_form, IsWritable, AreWritable}
use Rattle.doc_op.proofs.Built.{taken_on}
use Rattle.doc_op.proofs.Lengths.{running-add, actions_from-append, input_len-append, output_len-append}
use Rattle.doc_op.proofs.Outputs.{some_boundary}

-- ---- one action

new_one : (v : Option Key) → option_and_then (λ (c : KeyChange). c.new) (option_map fresh v) ≡ v
new_one None = refl
new_one (Some v) = refl

new_values_back : (m : Map Key) → new_values (from_absent m) ≡ m
new_values_back m = alike _ _ (λ q. get-picked (λ (c : KeyChange). c.new) (from_absent m) q ∙ ap (option_and_then (λ (c : KeyChange). c.new)) (get-each fresh m q) ∙ new_one (get m q))

old_one : (v : Option (Option Key)) → option_map (λ (c : KeyChange). c.old) (option_map gone v) ≡ v
old_one None = refl
old_one (Some v) = refl

old_values_back : (n : Names) → old_values (to_absent n) ≡ n
old_values_back n = alike _ _ (λ q. get-each (λ (c : KeyChange). c.old) (to_absent n) q ∙ ap (option_map (λ (c : KeyChange). c.old)) (get-each gone n q) ∙ old_one (get n q))

inserted_actions : (c : Content) (m : Map Key) → component_actions (from_absent m) (component_of (Ins (record { content = c; notes = m }))) ≡ Ins (record { content = c; notes = m }) ∷ []
inserted_actions (Character x) m = ap (λ (n : Map Key). Ins (record { content = Character x; notes = n }) ∷ []) (new_values_back m)
inserted_actions (Start kind attributes) m = ap (λ (n : Map Key). Ins (record { content = Start kind attributes; notes = n }) ∷ []) (new_values_back m)
inserted_actions End m = ap (λ (n : Map Key). Ins (record { content = End; notes = n }) ∷ []) (new_values_back m)

deleted_actions : (c : Content) (n : Names) → component_actions (to_absent n) (component_of (Del c n)) ≡ Del c n ∷ []
deleted_actions (Character x) n = ap (λ m. Del (Character x) m ∷ []) (old_values_back n)
deleted_actions (Start kind attributes) n = ap (λ m. Del (Start kind attributes) m ∷ []) (old_values_back n)
deleted_actions End n = ap (λ m. Del End m ∷ []) (old_values_back n)

one_action : (a : Action) → IsWritable a → component_actions (shown a) (component_of a) ≡ a ∷ []
one_action (Keep u Unchanged) h = refl
one_action (Keep u (Update c)) h = ap (λ d. Keep u (Update d) ∷ []) (list_value c h.1)
one_action (Keep u (Replace old new)) h = refl
one_action (Ins x) h = inserted_actions x.content x.notes
one_action (Del c n) h = deleted_actions c n

shown_texts : (a : Action) → IsWritable a → AreTexts (shown a)
shown_texts (Keep u Unchanged) h = h
shown_texts (Keep u (Update c)) h = h.0
shown_texts (Keep u (Replace old new)) h = h
shown_texts (Ins x) h = h
shown_texts (Del c n) h = h

-- ---- components in a row

retain_actions : (u : ChangeSet) (m n : ℕ) (acts : List Action) → replicate (m + n) (keep u) ++ acts ≡ replicate m (keep u) ++ (replicate n (keep u) ++ acts)
retain_actions u m n acts = ap (λ xs. xs ++ acts) (sym (replicate-append-replicate m n (keep u))) ∙ append_assoc (replicate m (keep u)) (replicate n (keep u)) acts

front_actions : (u : ChangeSet) (a : Action) (cs : List Component) → actions_from u (in_front (component_of a) cs) ≡ component_actions u (component_of a) ++ actions_from u cs
front_actions u (Keep w Unchanged) [] = refl
front_actions u (Keep w Unchanged) (Retain n ∷ cs) = retain_actions u 1 n (actions_from u cs)
front_actions u (Keep w Unchanged) (c ∷ cs) = refl
front_actions u (Keep w (Update d)) cs = refl
front_actions u (Keep w (Replace old new)) cs = refl
front_actions u (Ins x) cs = inserted x.content cs
  where
    inserted : (c : Content) (ds : List Component) → actions_from u (in_front (component_of (Ins (record { content = c; notes = x.notes }))) ds) ≡ component_actions u (component_of (Ins (record { content = c; notes = x.notes }))) ++ actions_from u ds
    inserted (Character y) [] = refl
    inserted (Character y) (Characters t ∷ ds) = refl
    inserted (Character y) (d ∷ ds) = refl
    inserted (Start kind attributes) ds = refl
    inserted End ds = refl
front_actions u (Del (Character y) n) [] = refl
front_actions u (Del (Character y) n) (DeleteCharacters t ∷ cs) = refl
front_actions u (Del (Character y) n) (d ∷ cs) = refl
front_actions u (Del (Start kind attributes) n) cs = refl
front_actions u (Del End n) cs = refl

step_actions : (u w : ChangeSet) (cs : List Component) → AreTexts u → AreTexts w → actions_from u (step u w ++ cs) ≡ actions_from w cs
step_actions u w cs t s = elim (same_changes u w) as (λ b. same_changes u w ≡ b → actions_from u (cond b [] (AnnotationBoundary (boundary_between u w) ∷ []) ++ cs) ≡ actions_from w cs) [
  | true ↦ λ e. ap (λ v. actions_from v cs) (same_changes-is u w e)
  | false ↦ λ e. ap (λ v. actions_from v cs) (after_between u w t s)
] refl

texts_none : AreTexts none_running
texts_none k = ap (is_text_at k) (get-empty (slice_cmp nat_cmp) k)

-- ---- its actions

actions_back : (acts : List Action) (u : ChangeSet) → AreTexts u → AreWritable acts → actions_from u (normal_from u acts) ≡ acts
actions_back [] u t h = ap (actions_from u) (sym (append-nil (step u none_running))) ∙ step_actions u none_running [] t texts_none
actions_back (a ∷ acts) u t h =
    let w = shown a in
    let s = shown_texts a h.0 in
    step_actions u w (in_front (component_of a) (normal_from w acts)) t s ∙ front_actions w a (normal_from w acts)
    ∙ (λ i. one_action a h.0 i ++ actions_back acts w s h.1 i)

pub same_actions : (acts : List Action) → AreWritable acts → actions (normal_form acts) ≡ acts
same_actions acts h = actions_back acts none_running texts_none h

pub same_again : (acts : List Action) → AreWritable acts → normal_form (actions (normal_form acts)) ≡ normal_form acts
same_again acts h = ap normal_form (same_actions acts h)

-- ---- a builder takes it

some_entry : (c : ChangeSet) → AreTexts c → c ≢ none_running → 0 < length (change_list c)
some_entry c t h = some (change_list c) (λ e. h (sym (list_value c t) ∙ ap change_set e))
  where
    some : (cs : List Change) → cs ≢ [] → 0 < length cs
    some [] k = absurd (k refl)
    some (d ∷ cs) k = omega arith

sound_front : (u : ChangeSet) (a : Action) (cs : List Component) → IsWritable a → IsSoundFrom u cs → IsSoundFrom u (in_front (component_of a) cs)
sound_front u (Keep w Unchanged) [] h s = ((omega arith, tt), s)
sound_front u (Keep w Unchanged) (Retain n ∷ cs) h s = ((omega arith, tt), s.1)
sound_front u (Keep w Unchanged) (c ∷ cs) h s = ((omega arith, tt), s)
sound_front u (Keep w (Update d)) cs h s = ((some_entry d h.1 h.2, ascending_list d h.1), s)
sound_front u (Keep w (Replace old new)) cs h s = ((omega arith, tt), s)
sound_front u (Ins x) cs h s = inserted x.content cs s
  where
    inserted : (c : Content) (ds : List Component) → IsSoundFrom u ds → IsSoundFrom u (in_front (component_of (Ins (record { content = c; notes = x.notes }))) ds)
    inserted (Character y) [] k = ((omega arith, tt), k)
    inserted (Character y) (Characters t ∷ ds) k = ((omega arith, tt), k.1)
    inserted (Character y) (d ∷ ds) k = ((omega arith, tt), k)
    inserted (Start kind attributes) ds k = ((omega arith, tt), k)
    inserted End ds k = ((omega arith, tt), k)
sound_front u (Del (Character y) n) [] h s = ((omega arith, tt), s)
sound_front u (Del (Character y) n) (DeleteCharacters t ∷ cs) h s = ((omega arith, tt), s.1)
sound_front u (Del (Character y) n) (d ∷ cs) h s = ((omega arith, tt), s)
sound_front u (Del (Start kind attributes) n) cs h s = ((omega arith, tt), s)
sound_front u (Del End n) cs h s = ((omega arith, tt), s)

sound_step : (u w : ChangeSet) (cs : List Component) → AreTexts u → AreTexts w → IsSoundFrom w cs → IsSoundFrom u (step u w ++ cs)
sound_step u w cs t s h = elim (same_changes u w) as (λ b. same_changes u w ≡ b → IsSoundFrom u (cond b [] (AnnotationBoundary (boundary_between u w) ∷ []) ++ cs)) [
  | true ↦ λ e. subst (λ v. IsSoundFrom v cs) (sym (same_changes-is u w e)) h
  | false ↦ λ e. (
    (some_boundary u w (boundary_between u w).end (boundary_between u w).change e (after_between u w t s), fits_between u w t s),
    subst (λ v. IsSoundFrom v cs) (sym (after_between u w t s)) h,
  )
] refl

sound_from : (acts : List Action) (u : ChangeSet) → AreTexts u → AreWritable acts → IsSoundFrom u (normal_from u acts)
sound_from [] u t h = subst (IsSoundFrom u) (append-nil (step u none_running)) (sound_step u none_running [] t texts_none tt)
sound_from (a ∷ acts) u t h =
    let w = shown a in
    let s = shown_texts a h.0 in
    sound_step u w (in_front (component_of a) (normal_from w acts)) t s (sound_front w a (normal_from w acts) h.0 (sound_from acts w s h.1))

fewer : (f : List Action → ℕ) → ((xs ys : List Action) → f (xs ++ ys) ≡ f xs + f ys) → (done cs : List Component) → f (actions (done ++ cs)) ≤ max_count → f (actions done) ≤ max_count
fewer f adds done cs h = omega (arith, h, ap f (actions_from-append none_running done cs), adds (actions done) (actions_from (running done) cs))

built_from : (done cs : List Component) → IsSoundFrom (running done) cs → input_len (actions (done ++ cs)) ≤ max_count → output_len (actions (done ++ cs)) ≤ max_count → BuiltFrom done cs
built_from done [] s i o = tt
built_from done (c ∷ cs) s i o =
    let joined = sym (append_assoc done (c ∷ []) cs) in
    let input = subst (λ (ds : List Component). input_len (actions ds) ≤ max_count) joined i in
    let output = subst (λ (ds : List Component). output_len (actions ds) ≤ max_count) joined o in (
      taken_on done c s.0.0 s.0.1 (fewer input_len input_len-append (done ++ c ∷ []) cs input) (fewer output_len output_len-append (done ++ c ∷ []) cs output),
      built_from (done ++ c ∷ []) cs (subst (λ u. IsSoundFrom u cs) (sym (running-add done c)) s.1) input output,
    )

pub is_built : (acts : List Action) → AreWritable acts → input_len acts ≤ max_count → output_len acts ≤ max_count → IsBuilt (normal_form acts)
is_built acts h i o =
    let same = sym (same_actions acts h) in
    built_from [] (normal_form acts) (sound_from acts none_running texts_none h) (subst (λ xs. input_len xs ≤ max_count) same i) (subst (λ xs. output_len xs ≤ max_count) same o)
