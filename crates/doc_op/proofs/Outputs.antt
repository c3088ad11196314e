-- An output that goes on: with its last component, after it, and to its end.
--     grown_open      the last component goes on
--     settled_same    after it, where no other changes are to run
--     neither         a test of two that fails
--     opened          a component after it that may go on
--     set_down        a component after it that doesn't
--     some_boundary   a boundary between different changes isn't empty
--     turn_test, turn_fits     where a turn is none, and that it fits where it is one
--     ended           the end
use Rattle.std.proofs.Common.{◌≡◌, ℕ, ◌+◌, ◌<◌, ◌≤◌, Bool, true, false, cond, not, ◌&&◌, List, [], ◌∷◌, ◌++◌, length, map, replicate, refl, sym, ap, subst, ◌∙◌, arith, append_assoc, append-nil, true≢false, Option, None, Some, is_some, IfSome}
use Rattle.std.proofs.lemmas.List.{replicate-append-replicate}
use Rattle.doc_items.specs.Limits.{max_count}
use Rattle.doc_items.specs.Changes.{ChangeSet, none_running, without, with_changes}
use Rattle.doc_items.specs.declared.change.Boundary.{Boundary}
use Rattle.doc_items.specs.declared.change.Change.{Change}
use Rattle.doc_items.specs.declared.item.Content.TheVariants.{Character}
use Rattle.change_view.specs.Sets.{same_changes}
use Rattle.change_view.specs.Texts.{boundary_between}
use Rattle.change_view.proofs.Sets.{same_changes-is, same_changes-refl}
use Rattle.change_table.specs.Joints.{IsTurn}
use Rattle.doc_op.specs.declared.component.Component.{Component}
use Rattle.doc_op.specs.declared.component.Component.TheVariants.{Retain, Characters, DeleteCharacters, AnnotationBoundary}
use Rattle.doc_op.specs.Actions.{Action, Unchanged, keep, insertion, deletion, running, running_after, actions_from, actions, component_actions}
use Rattle.doc_op.specs.Lengths.{input_len, output_len}
use Rattle.doc_op.specs.Refusals.{component_len}
use Rattle.doc_op.specs.Normal.{shown_last, in_front, normal_from, normal_form}
use Rattle.doc_op.specs.Outputs.{shut, onto, joins, grown, open_len, is_lone, IsFull, IsSpelling, IsLone, IsSettled, IsTurnOf, IsOpenNormal}
use Rattle.doc_op.proofs.Shown.{shown_more}
use Rattle.doc_op.proofs.Lengths.{actions-add, actions_from-append, input_len-append, output_len-append, input_len-kept, input_len-deleted, output_len-inserted, input_len-add, output_len-add}
use Rattle.doc_op.proofs.Spelling.{in_front_retain, in_front_text, in_front_deletion, step_none, goes_fresh, goes_to_end}

-- ---- what runs over the last action

shown_added : (acts now : List Action) (w : ChangeSet) (c : Component) → now ≡ acts ++ component_actions w c → IsSpelling w c → shown_last now ≡ w
shown_added acts now w c e s = ap shown_last e ∙ shown_more none_running acts (component_actions w c) ∙ s.shown (shown_last acts)

-- ---- with the last component

onto_grown : (o : Option Component) (c : Component) (cs : List Component) → joins o c ≡ true → onto o (in_front c cs) ≡ onto (grown o c) cs
onto_grown (Some (Retain m)) (Retain n) cs e = in_front_retain m n cs
onto_grown (Some (Characters s)) (Characters t) cs e = in_front_text s t cs
onto_grown (Some (DeleteCharacters s)) (DeleteCharacters t) cs e = in_front_deletion s t cs
onto_grown o c cs e = absurd (true≢false (sym e))

map_joined : {X Y : Type 0} (f : X → Y) (xs ys : List X) → map f xs ++ map f ys ≡ map f (xs ++ ys)
map_joined f [] ys = refl
map_joined f (x ∷ xs) ys = ap (λ zs. f x ∷ zs) (map_joined f xs ys)

grown_actions : (u : ChangeSet) (o : Option Component) (c : Component) → joins o c ≡ true → actions_from u (shut o) ++ component_actions u c ≡ actions_from u (shut (grown o c))
grown_actions u (Some (Retain m)) (Retain n) e =
    ap (λ xs. xs ++ replicate n (keep u)) (append-nil (replicate m (keep u))) ∙ replicate-append-replicate m n (keep u) ∙ sym (append-nil (replicate (m + n) (keep u)))
grown_actions u (Some (Characters s)) (Characters t) e =
    let f : ℕ → Action = λ c. insertion u (Character c) in ap (λ xs. xs ++ map f t) (append-nil (map f s)) ∙ map_joined f s t ∙ sym (append-nil (map f (s ++ t)))
grown_actions u (Some (DeleteCharacters s)) (DeleteCharacters t) e =
    let f : ℕ → Action = λ c. deletion u (Character c) in ap (λ xs. xs ++ map f t) (append-nil (map f s)) ∙ map_joined f s t ∙ sym (append-nil (map f (s ++ t)))
grown_actions u o c e = absurd (true≢false (sym e))

pub grown_value : (done : List Component) (o : Option Component) (c : Component) (u : ChangeSet) → running done ≡ u → joins o c ≡ true
    → actions (done ++ shut (grown o c)) ≡ actions (done ++ shut o) ++ component_actions u c
grown_value done o c u r e =
    actions_from-append none_running done (shut (grown o c)) ∙ ap (λ xs. actions done ++ xs) (ap (λ w. actions_from w (shut (grown o c))) r ∙ sym (grown_actions u o c e))
    ∙ sym (append_assoc (actions done) (actions_from u (shut o)) (component_actions u c))
    ∙ ap (λ xs. xs ++ component_actions u c) (ap (λ w. actions done ++ actions_from w (shut o)) (sym r) ∙ sym (actions_from-append none_running done (shut o)))

full_grown : (o : Option Component) (c : Component) → joins o c ≡ true → 0 < component_len c → IsFull (grown o c)
full_grown (Some (Retain m)) (Retain n) e h = omega (arith, h)
full_grown (Some (Characters s)) (Characters t) e h = longer s t h
  where
    longer : (xs ys : List ℕ) → 0 < length ys → 0 < length (xs ++ ys)
    longer [] ys k = k
    longer (x ∷ xs) ys k = omega arith
full_grown (Some (DeleteCharacters s)) (DeleteCharacters t) e h = longer s t h
  where
    longer : (xs ys : List ℕ) → 0 < length ys → 0 < length (xs ++ ys)
    longer [] ys k = k
    longer (x ∷ xs) ys k = omega arith
full_grown o c e h = absurd (true≢false (sym e))

goes_grown : (acts : List Action) (done : List Component) (o : Option Component) (u : ChangeSet) (c : Component) → ((rest : List Action) → normal_form (acts ++ rest) ≡ done ++ onto o (normal_from u rest))
    → IsSpelling u c → joins o c ≡ true → (rest : List Action) → normal_form (acts ++ component_actions u c ++ rest) ≡ done ++ onto (grown o c) (normal_from u rest)
goes_grown acts done o u c g s e rest =
    let cs = normal_from u rest in
    ap normal_form (append_assoc acts (component_actions u c) rest) ∙ g (component_actions u c ++ rest)
    ∙ ap (λ x. done ++ onto o x) (s.spelled u rest ∙ ap (λ x. x ++ in_front c cs) (step_none u))
    ∙ ap (λ x. done ++ x) (onto_grown o c cs e)

pub grown_open : (done : List Component) (o : Option Component) (u w : ChangeSet) (c : Component) → IsOpenNormal (actions (done ++ shut o)) done o u → IsSpelling w c → joins o c ≡ true → same_changes u w ≡ true
    → 0 < component_len c → input_len (actions (done ++ shut o) ++ component_actions w c) ≤ max_count → output_len (actions (done ++ shut o) ++ component_actions w c) ≤ max_count
    → IsOpenNormal (actions (done ++ shut (grown o c))) done (grown o c) u
grown_open done o u w c h s e t l i x =
    let same : w ≡ u = sym (same_changes-is u w t) in
    let spelled : IsSpelling u c = subst (λ v. IsSpelling v c) same s in
    let value = grown_value done o c u h.runs e in
    let now : actions (done ++ shut o) ++ component_actions w c ≡ actions (done ++ shut (grown o c)) = ap (λ v. actions (done ++ shut o) ++ component_actions v c) same ∙ sym value in
    record {
      normal = λ rest. ap (λ acts. normal_form (acts ++ rest)) value ∙ goes_grown (actions (done ++ shut o)) done o u c h.normal spelled e rest;
      runs = h.runs;
      last = shown_added _ _ u c value spelled;
      full = full_grown o c e l;
      input = subst (λ acts. input_len acts ≤ max_count) now i;
      output = subst (λ acts. output_len acts ≤ max_count) now x;
    }

-- ---- after the last component

-- what was taken so far, and one component more
pub more_value : (done : List Component) (c : Component) (w : ChangeSet) → running done ≡ w → actions (done ++ c ∷ []) ≡ actions done ++ component_actions w c
more_value done c w r = actions-add done c ∙ ap (λ xs. actions done ++ xs) (append-nil (component_actions (running done) c) ∙ ap (λ v. component_actions v c) r)

-- both lengths together are within the limit
pub room : (done : List Component) (o : Option Component) (c : Component) (w : ChangeSet) → joins o c ≡ true
    → input_len (actions (done ++ shut o) ++ component_actions w c) ≤ max_count → output_len (actions (done ++ shut o) ++ component_actions w c) ≤ max_count → open_len o + component_len c ≤ max_count
room done (Some (Retain m)) (Retain n) w e i x =
    omega (arith, i, input_len-append (actions (done ++ Retain m ∷ [])) (replicate n (keep w)), input_len-kept n w Unchanged, input_len-add done (Retain m), input_len-kept m (running done) Unchanged)
room done (Some (Characters s)) (Characters t) w e i x =
    omega (arith, x, output_len-append (actions (done ++ Characters s ∷ [])) (component_actions w (Characters t)), output_len-inserted w t, output_len-add done (Characters s), output_len-inserted (running done) s)
room done (Some (DeleteCharacters s)) (DeleteCharacters t) w e i x =
    omega (arith, i, input_len-append (actions (done ++ DeleteCharacters s ∷ [])) (component_actions w (DeleteCharacters t)), input_len-deleted w t, input_len-add done (DeleteCharacters s), input_len-deleted (running done) s)
room done o c w e i x = absurd (true≢false (sym e))

pub boundary_value : (done : List Component) (b : Boundary) → actions (done ++ AnnotationBoundary b ∷ []) ≡ actions done
boundary_value done b = actions-add done (AnnotationBoundary b) ∙ append-nil (actions done)

pub settled_same : (done : List Component) (o : Option Component) (u w : ChangeSet) (shut_down : List Component) → shut_down ≡ done ++ shut o → running shut_down ≡ running done → running done ≡ u → IsTurn None u w
    → IsSettled done o u w shut_down
settled_same done o u w shut_down is r q e = record {
  value = is ∙ sym (append-nil (done ++ shut o)) ∙ ap (λ t. done ++ shut o ++ cond t [] (AnnotationBoundary (boundary_between u w) ∷ [])) (sym e);
  runs = r ∙ q ∙ same_changes-is u w e;
  acts = ap actions is;
}

pub neither : (j s : Bool) → s ≡ false → (j && s) ≡ false
neither true s e = e
neither false s e = refl

pub opened : (done : List Component) (o : Option Component) (u w : ChangeSet) (c : Component) (settled : List Component) → IsOpenNormal (actions (done ++ shut o)) done o u → IsSettled done o u w settled → IsSpelling w c
    → (joins o c && same_changes u w) ≡ false → 0 < component_len c
    → input_len (actions (done ++ shut o) ++ component_actions w c) ≤ max_count → output_len (actions (done ++ shut o) ++ component_actions w c) ≤ max_count
    → IsOpenNormal (actions (settled ++ c ∷ [])) settled (Some c) w
opened done o u w c settled h t s e l i x =
    let value = more_value settled c w t.runs ∙ ap (λ xs. xs ++ component_actions w c) t.acts in
    record {
      normal = λ rest. ap (λ acts. normal_form (acts ++ rest)) value ∙ goes_fresh (actions (done ++ shut o)) done o u w c h.normal s e rest ∙ ap (λ cs. cs ++ in_front c (normal_from w rest)) (sym t.value);
      runs = t.runs;
      last = shown_added _ _ w c value s;
      full = l;
      input = subst (λ acts. input_len acts ≤ max_count) (sym value) i;
      output = subst (λ acts. output_len acts ≤ max_count) (sym value) x;
    }

lone_joins : (o : Option Component) (c : Component) (b : Bool) → is_lone c ≡ true → (joins o c && b) ≡ false
lone_joins (Some (Retain m)) (Retain n) b e = absurd (true≢false (sym e))
lone_joins (Some (Characters s)) (Characters t) b e = absurd (true≢false (sym e))
lone_joins (Some (DeleteCharacters s)) (DeleteCharacters t) b e = absurd (true≢false (sym e))
lone_joins o c b e = refl

lone_in_front : (c : Component) (cs : List Component) → is_lone c ≡ true → in_front c cs ≡ c ∷ cs
lone_in_front (Retain n) cs e = absurd (true≢false (sym e))
lone_in_front (Characters s) cs e = absurd (true≢false (sym e))
lone_in_front (DeleteCharacters s) cs e = absurd (true≢false (sym e))
lone_in_front c cs e = refl

pub lone_running : (u : ChangeSet) (c : Component) → is_lone c ≡ true → running_after u c ≡ u
lone_running u (AnnotationBoundary b) e = absurd (true≢false (sym e))
lone_running u (Retain n) e = refl
lone_running u c e = refl

pub set_down : (done : List Component) (o : Option Component) (u w : ChangeSet) (c : Component) (settled all : List Component) → IsOpenNormal (actions (done ++ shut o)) done o u → IsSettled done o u w settled → IsLone w c
    → all ≡ settled ++ c ∷ [] → running all ≡ w
    → input_len (actions (done ++ shut o) ++ component_actions w c) ≤ max_count → output_len (actions (done ++ shut o) ++ component_actions w c) ≤ max_count
    → IsOpenNormal (actions (all ++ [])) all None w
set_down done o u w c settled all h t l is r i x =
    let value = ap actions (append-nil all ∙ is) ∙ more_value settled c w t.runs ∙ ap (λ xs. xs ++ component_actions w c) t.acts in
    record {
      normal = λ rest.
          ap (λ acts. normal_form (acts ++ rest)) value ∙ goes_fresh (actions (done ++ shut o)) done o u w c h.normal l.spelled (lone_joins o c (same_changes u w) l.lone) rest
          ∙ (λ k. sym t.value k ++ lone_in_front c (normal_from w rest) l.lone k) ∙ sym (append_assoc settled (c ∷ []) (normal_from w rest)) ∙ ap (λ cs. cs ++ normal_from w rest) (sym is);
      runs = r;
      last = shown_added _ _ w c value l.spelled;
      full = tt;
      input = subst (λ acts. input_len acts ≤ max_count) (sym value) i;
      output = subst (λ acts. output_len acts ≤ max_count) (sym value) x;
    }

-- ---- a boundary, and the end

pub some_boundary : (u w : ChangeSet) (ends : List (List ℕ)) (changes : List Change) → same_changes u w ≡ false → with_changes (without u ends) changes ≡ w → 0 < length ends + length changes
some_boundary u w [] [] e h = absurd (true≢false (sym (ap (same_changes u) (sym h) ∙ same_changes-refl u) ∙ e))
some_boundary u w [] (c ∷ changes) e h = omega arith
some_boundary u w (k ∷ ends) changes e h = omega arith

-- a turn is none exactly where the changes are the same
pub turn_test : (t : Option Boundary) (u w : ChangeSet) (b : Bool) → is_some t ≡ not b → IsTurn t u w → b ≡ same_changes u w
turn_test None u w true e h = sym h
turn_test None u w false e h = absurd (true≢false (sym e))
turn_test (Some x) u w true e h = absurd (true≢false e)
turn_test (Some x) u w false e h = sym h.differ

pub turn_fits : (t : Option Boundary) (u w : ChangeSet) → IsTurn t u w → IfSome t (IsTurnOf u)
turn_fits None u w h = tt
turn_fits (Some b) u w h = (some_boundary u w b.end b.change h.differ h.after, h.fits)

pub ended : (done : List Component) (o : Option Component) (u : ChangeSet) (settled : List Component) → IsOpenNormal (actions (done ++ shut o)) done o u → IsSettled done o u none_running settled → settled ≡ normal_form (actions (done ++ shut o))
ended done o u settled h t = t.value ∙ sym (goes_to_end (actions (done ++ shut o)) done o u h.normal)
