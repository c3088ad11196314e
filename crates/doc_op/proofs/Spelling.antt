-- How the normal form goes on.
--     shown_inserted, shown_deleted     what runs over insertions and deletions
--     insertions_same, deletions_same     which values of the running changes they show
--     in_front_retain, in_front_text, in_front_deletion     three components in a row
--     apart                             what doesn't join
--     spelling_*                        the components that the normal form writes
use Rattle.std.proofs.Common.{◌≡◌, ℕ, zero, suc, ◌+◌, ◌<◌, Bool, true, false, cond, ◌&&◌, List, [], ◌∷◌, ◌++◌, length, map, replicate, refl, sym, ap, ◌∙◌, arith, append_assoc, append-nil, true≢false, Option, None, Some, option_map, option_and_then}
use Rattle.std.specs.FinMap.{get}
use Rattle.doc_items.specs.Maps.{Key, Map}
use Rattle.doc_items.specs.Changes.{KeyChange, ChangeSet, none_running, change_set}
use Rattle.doc_items.specs.declared.change.Change.{Change}
use Rattle.doc_items.specs.declared.change.Boundary.{Boundary}
use Rattle.doc_items.specs.declared.item.Content.{Content}
use Rattle.doc_items.specs.declared.item.Content.TheVariants.{Character, Start, End}
use Rattle.doc_items.proofs.Maps.{alike, get-each, get-picked}
use Rattle.change_view.specs.Sets.{same_changes, fresh, one_inserted, as_inserted, one_deleted, as_deleted}
use Rattle.change_view.specs.Texts.{change_list, boundary_between}
use Rattle.change_view.proofs.Sets.{same_changes-refl}
use Rattle.doc_op.specs.declared.component.Component.{Component}
use Rattle.doc_op.specs.declared.component.Component.TheVariants.{Retain, Characters, ElementStart, ElementEnd, DeleteCharacters, DeleteElementStart, DeleteElementEnd, ReplaceAttributes, UpdateAttributes, AnnotationBoundary}
use Rattle.doc_op.specs.Actions.{Unchanged, Action, Ins, Del, new_values, old_values, keep, insertion, deletion, component_actions}
use Rattle.doc_op.specs.Normal.{gone, shown, component_of, in_front, step, normal_from, normal_form}
use Rattle.doc_op.specs.Outputs.{joins, is_lone, shut, onto, IsSpelling}
use Rattle.doc_op.proofs.Shown.{shown_mapped, shown_copies}

-- ---- what runs over an item

one_inserted_twice : (c : Option KeyChange) → option_and_then one_inserted (option_and_then one_inserted c) ≡ option_and_then one_inserted c
one_inserted_twice None = refl
one_inserted_twice (Some c) = elim c.new as (λ v. option_and_then one_inserted (option_map fresh v) ≡ option_map fresh v) [ None ↦ refl | Some v ↦ refl ]

pub inserted_twice : (u : ChangeSet) → as_inserted (as_inserted u) ≡ as_inserted u
inserted_twice u = alike _ _ (λ q. get-picked one_inserted (as_inserted u) q ∙ ap (option_and_then one_inserted) (get-picked one_inserted u q) ∙ one_inserted_twice (get u q) ∙ sym (get-picked one_inserted u q))

one_deleted_twice : (c : Option KeyChange) → option_map one_deleted (option_map one_deleted c) ≡ option_map one_deleted c
one_deleted_twice None = refl
one_deleted_twice (Some c) = refl

pub deleted_twice : (u : ChangeSet) → as_deleted (as_deleted u) ≡ as_deleted u
deleted_twice u = alike _ _ (λ q. get-each one_deleted (as_deleted u) q ∙ ap (option_map one_deleted) (get-each one_deleted u q) ∙ one_deleted_twice (get u q) ∙ sym (get-each one_deleted u q))

one_new : (c : Option KeyChange) → option_and_then (λ (d : KeyChange). d.new) (option_and_then one_inserted c) ≡ option_and_then (λ (d : KeyChange). d.new) c
one_new None = refl
one_new (Some c) = elim c.new as (λ v. option_and_then (λ (d : KeyChange). d.new) (option_map fresh v) ≡ v) [ None ↦ refl | Some v ↦ refl ]

new_values_same : (u : ChangeSet) → new_values (as_inserted u) ≡ new_values u
new_values_same u = alike _ _ (λ q. get-picked (λ (d : KeyChange). d.new) (as_inserted u) q ∙ ap (option_and_then (λ (d : KeyChange). d.new)) (get-picked one_inserted u q) ∙ one_new (get u q) ∙ sym (get-picked (λ (d : KeyChange). d.new) u q))

insertion_same : (u : ChangeSet) (c : Content) → insertion (as_inserted u) c ≡ insertion u c
insertion_same u c = ap (λ (m : Map Key). Ins (record { content = c; notes = m })) (new_values_same u)

pub insertions_same : (u : ChangeSet) (cs : List Content) → map (insertion (as_inserted u)) cs ≡ map (insertion u) cs
insertions_same u [] = refl
insertions_same u (c ∷ cs) = λ i. insertion_same u c i ∷ insertions_same u cs i

one_old : (c : Option KeyChange) → option_map (λ (d : KeyChange). d.old) (option_map one_deleted c) ≡ option_map (λ (d : KeyChange). d.old) c
one_old None = refl
one_old (Some c) = refl

old_values_same : (u : ChangeSet) → old_values (as_deleted u) ≡ old_values u
old_values_same u = alike _ _ (λ q. get-each (λ (d : KeyChange). d.old) (as_deleted u) q ∙ ap (option_map (λ (d : KeyChange). d.old)) (get-each one_deleted u q) ∙ one_old (get u q) ∙ sym (get-each (λ (d : KeyChange). d.old) u q))

deletion_same : (u : ChangeSet) (c : Content) → deletion (as_deleted u) c ≡ deletion u c
deletion_same u c = ap (Del c) (old_values_same u)

pub deletions_same : (u : ChangeSet) (cs : List Content) → map (deletion (as_deleted u)) cs ≡ map (deletion u) cs
deletions_same u [] = refl
deletions_same u (c ∷ cs) = λ i. deletion_same u c i ∷ deletions_same u cs i

one_shown : (c : Option KeyChange) → option_map fresh (option_and_then (λ (d : KeyChange). d.new) c) ≡ option_and_then one_inserted c
one_shown None = refl
one_shown (Some c) = refl

pub shown_inserted : (u : ChangeSet) (c : Content) → shown (insertion u c) ≡ as_inserted u
shown_inserted u c = alike _ _ (λ q. get-each fresh (new_values u) q ∙ ap (option_map fresh) (get-picked (λ (d : KeyChange). d.new) u q) ∙ one_shown (get u q) ∙ sym (get-picked one_inserted u q))

one_gone : (c : Option KeyChange) → option_map gone (option_map (λ (d : KeyChange). d.old) c) ≡ option_map one_deleted c
one_gone None = refl
one_gone (Some c) = refl

pub shown_deleted : (u : ChangeSet) (c : Content) → shown (deletion u c) ≡ as_deleted u
shown_deleted u c = alike _ _ (λ q. get-each gone (old_values u) q ∙ ap (option_map gone) (get-each (λ (d : KeyChange). d.old) u q) ∙ one_gone (get u q) ∙ sym (get-each one_deleted u q))

-- ---- components in a row

pub in_front_retain : (m n : ℕ) (cs : List Component) → in_front (Retain m) (in_front (Retain n) cs) ≡ in_front (Retain (m + n)) cs
in_front_retain m n [] = refl
in_front_retain m n (Retain k ∷ cs) = let e : m + (n + k) ≡ m + n + k = omega arith in ap (λ x. Retain x ∷ cs) e
in_front_retain m n (c ∷ cs) = refl

pub in_front_text : (s t : List ℕ) (cs : List Component) → in_front (Characters s) (in_front (Characters t) cs) ≡ in_front (Characters (s ++ t)) cs
in_front_text s t [] = refl
in_front_text s t (Characters r ∷ cs) = ap (λ x. Characters x ∷ cs) (sym (append_assoc s t r))
in_front_text s t (c ∷ cs) = refl

pub in_front_deletion : (s t : List ℕ) (cs : List Component) → in_front (DeleteCharacters s) (in_front (DeleteCharacters t) cs) ≡ in_front (DeleteCharacters (s ++ t)) cs
in_front_deletion s t [] = refl
in_front_deletion s t (DeleteCharacters r ∷ cs) = ap (λ x. DeleteCharacters x ∷ cs) (sym (append_assoc s t r))
in_front_deletion s t (c ∷ cs) = refl

retain_first : (n : ℕ) (cs : List Component) → (k : ℕ) × (rest : List Component) × (in_front (Retain n) cs ≡ Retain k ∷ rest)
retain_first n [] = (n, [], refl)
retain_first n (Retain k ∷ cs) = (n + k, cs, refl)
retain_first n (c ∷ cs) = (n, c ∷ cs, refl)

text_first : (s : List ℕ) (cs : List Component) → (t : List ℕ) × (rest : List Component) × (in_front (Characters s) cs ≡ Characters t ∷ rest)
text_first s [] = (s, [], refl)
text_first s (Characters t ∷ cs) = (s ++ t, cs, refl)
text_first s (c ∷ cs) = (s, c ∷ cs, refl)

deletion_first : (s : List ℕ) (cs : List Component) → (t : List ℕ) × (rest : List Component) × (in_front (DeleteCharacters s) cs ≡ DeleteCharacters t ∷ rest)
deletion_first s [] = (s, [], refl)
deletion_first s (DeleteCharacters t ∷ cs) = (s ++ t, cs, refl)
deletion_first s (c ∷ cs) = (s, c ∷ cs, refl)

-- what joins with no other stands before it
before_retain : (o : Option Component) (n k : ℕ) (rest : List Component) → joins o (Retain n) ≡ false → onto o (Retain k ∷ rest) ≡ shut o ++ Retain k ∷ rest
before_retain None n k rest e = refl
before_retain (Some (Retain m)) n k rest e = absurd (true≢false e)
before_retain (Some c) n k rest e = refl

before_text : (o : Option Component) (s t : List ℕ) (rest : List Component) → joins o (Characters s) ≡ false → onto o (Characters t ∷ rest) ≡ shut o ++ Characters t ∷ rest
before_text None s t rest e = refl
before_text (Some (Characters r)) s t rest e = absurd (true≢false e)
before_text (Some c) s t rest e = refl

before_deletion : (o : Option Component) (s t : List ℕ) (rest : List Component) → joins o (DeleteCharacters s) ≡ false → onto o (DeleteCharacters t ∷ rest) ≡ shut o ++ DeleteCharacters t ∷ rest
before_deletion None s t rest e = refl
before_deletion (Some (DeleteCharacters r)) s t rest e = absurd (true≢false e)
before_deletion (Some c) s t rest e = refl

before_boundary : (o : Option Component) (b : Boundary) (rest : List Component) → onto o (AnnotationBoundary b ∷ rest) ≡ shut o ++ AnnotationBoundary b ∷ rest
before_boundary None b rest = refl
before_boundary (Some (Retain n)) b rest = refl
before_boundary (Some c) b rest = refl

before_lone : (o : Option Component) (c : Component) (rest : List Component) → is_lone c ≡ true → onto o (c ∷ rest) ≡ shut o ++ c ∷ rest
before_lone None c rest e = refl
before_lone (Some (Retain m)) (Retain n) rest e = absurd (true≢false (sym e))
before_lone (Some (Characters s)) (Characters t) rest e = absurd (true≢false (sym e))
before_lone (Some (DeleteCharacters s)) (DeleteCharacters t) rest e = absurd (true≢false (sym e))
before_lone (Some d) c rest e = refl

-- nothing grows where the boundary at the end stands, or where nothing follows
pub before_step : (o : Option Component) (u w : ChangeSet) → onto o (step u w) ≡ shut o ++ step u w
before_step o u w = elim (same_changes u w) as (λ b. onto o (cond b [] (AnnotationBoundary (boundary_between u w) ∷ [])) ≡ shut o ++ cond b [] (AnnotationBoundary (boundary_between u w) ∷ [])) [
  | true ↦ before_none o
  | false ↦ before_boundary o (boundary_between u w) []
]
  where
    before_none : (p : Option Component) → onto p [] ≡ shut p ++ []
    before_none None = refl
    before_none (Some (Retain n)) = refl
    before_none (Some c) = refl

apart : (o : Option Component) (c : Component) (cs : List Component) → joins o c ≡ false → onto o (in_front c cs) ≡ shut o ++ in_front c cs
apart o (Retain n) cs e = let h = retain_first n cs in ap (onto o) h.2 ∙ before_retain o n h.0 h.1 e ∙ ap (λ x. shut o ++ x) (sym h.2)
apart o (Characters s) cs e = let h = text_first s cs in ap (onto o) h.2 ∙ before_text o s h.0 h.1 e ∙ ap (λ x. shut o ++ x) (sym h.2)
apart o (DeleteCharacters s) cs e = let h = deletion_first s cs in ap (onto o) h.2 ∙ before_deletion o s h.0 h.1 e ∙ ap (λ x. shut o ++ x) (sym h.2)
apart o (AnnotationBoundary b) cs e = before_boundary o b cs
apart o c cs e = before_lone o c cs refl

and_true : (a : Bool) → (a && true) ≡ a
and_true true = refl
and_true false = refl

goes_after : (o : Option Component) (u w : ChangeSet) (c : Component) (cs : List Component) → (joins o c && same_changes u w) ≡ false
    → onto o (step u w ++ in_front c cs) ≡ shut o ++ step u w ++ in_front c cs
goes_after o u w c cs e =
    let b : Component = AnnotationBoundary (boundary_between u w) in
    elim (same_changes u w) as (λ t. (joins o c && t) ≡ false → onto o (cond t [] (b ∷ []) ++ in_front c cs) ≡ shut o ++ cond t [] (b ∷ []) ++ in_front c cs) [
      | true ↦ λ f. apart o c cs (sym (and_true (joins o c)) ∙ f) ∙ sym (ap (λ x. x ++ in_front c cs) (append-nil (shut o)))
      | false ↦ λ f. before_boundary o (boundary_between u w) (in_front c cs) ∙ sym (append_assoc (shut o) (b ∷ []) (in_front c cs))
    ] e

-- ---- what the normal form writes for the actions of one component

pub step_none : (u : ChangeSet) → step u u ≡ []
step_none u = ap (λ (t : Bool). cond t [] (AnnotationBoundary (boundary_between u u) ∷ [])) (same_changes-refl u)

spelling_first : (w : ChangeSet) (a : Action) (u : ChangeSet) (rest : List Action) → shown a ≡ w → normal_from u (a ∷ rest) ≡ step u w ++ in_front (component_of a) (normal_from w rest)
spelling_first w a u rest e = ap (λ v. step u v ++ in_front (component_of a) (normal_from v rest)) e

spelling_more : (w : ChangeSet) (a : Action) (acts : List Action) (c d : Component) → shown a ≡ w → ((cs : List Component) → in_front (component_of a) (in_front c cs) ≡ in_front d cs)
    → ((u : ChangeSet) (rest : List Action) → normal_from u (acts ++ rest) ≡ step u w ++ in_front c (normal_from w rest))
    → (u : ChangeSet) (rest : List Action) → normal_from u ((a ∷ acts) ++ rest) ≡ step u w ++ in_front d (normal_from w rest)
spelling_more w a acts c d e j h u rest =
    spelling_first w a u (acts ++ rest) e
    ∙ ap (λ cs. step u w ++ in_front (component_of a) cs) (h w rest ∙ ap (λ s. s ++ in_front c (normal_from w rest)) (step_none w))
    ∙ ap (λ cs. step u w ++ cs) (j (normal_from w rest))

pub spelling_retain : (w : ChangeSet) (n : ℕ) → 0 < n → IsSpelling w (Retain n)
spelling_retain w zero h = absurd (omega (arith, h))
spelling_retain w (suc zero) h = record { spelled = λ u rest. spelling_first w (keep w) u rest refl; shown = λ u. refl }
spelling_retain w (suc (suc n)) h =
    let e : 1 + suc n ≡ suc (suc n) = omega arith in
    record {
      spelled = spelling_more w (keep w) (replicate (suc n) (keep w)) (Retain (suc n)) (Retain (suc (suc n))) refl
          (λ cs. in_front_retain 1 (suc n) cs ∙ ap (λ k. in_front (Retain k) cs) e)
          (spelling_retain w (suc n) (omega arith)).spelled;
      shown = shown_copies (suc (suc n)) w Unchanged h;
    }

spelled_text : (w : ChangeSet) (text : List ℕ) → as_inserted w ≡ w → 0 < length text → (u : ChangeSet) (rest : List Action)
    → normal_from u (component_actions w (Characters text) ++ rest) ≡ step u w ++ in_front (Characters text) (normal_from w rest)
spelled_text w [] e h = absurd (omega (arith, h))
spelled_text w (c ∷ []) e h = λ u rest. spelling_first w (insertion w (Character c)) u rest (shown_inserted w (Character c) ∙ e)
spelled_text w (c ∷ d ∷ text) e h =
    spelling_more w (insertion w (Character c)) (map (λ x. insertion w (Character x)) (d ∷ text)) (Characters (d ∷ text)) (Characters (c ∷ d ∷ text))
    (shown_inserted w (Character c) ∙ e) (in_front_text (c ∷ []) (d ∷ text)) (spelled_text w (d ∷ text) e (omega arith))

pub spelling_text : (w : ChangeSet) (text : List ℕ) → as_inserted w ≡ w → 0 < length text → IsSpelling w (Characters text)
spelling_text w text e h = record {
  spelled = spelled_text w text e h;
  shown = shown_mapped (λ x. insertion w (Character x)) text w (λ x. shown_inserted w (Character x) ∙ e) h;
}

spelled_deletion : (w : ChangeSet) (text : List ℕ) → as_deleted w ≡ w → 0 < length text → (u : ChangeSet) (rest : List Action)
    → normal_from u (component_actions w (DeleteCharacters text) ++ rest) ≡ step u w ++ in_front (DeleteCharacters text) (normal_from w rest)
spelled_deletion w [] e h = absurd (omega (arith, h))
spelled_deletion w (c ∷ []) e h = λ u rest. spelling_first w (deletion w (Character c)) u rest (shown_deleted w (Character c) ∙ e)
spelled_deletion w (c ∷ d ∷ text) e h =
    spelling_more w (deletion w (Character c)) (map (λ x. deletion w (Character x)) (d ∷ text)) (DeleteCharacters (d ∷ text)) (DeleteCharacters (c ∷ d ∷ text))
    (shown_deleted w (Character c) ∙ e) (in_front_deletion (c ∷ []) (d ∷ text)) (spelled_deletion w (d ∷ text) e (omega arith))

pub spelling_deletion : (w : ChangeSet) (text : List ℕ) → as_deleted w ≡ w → 0 < length text → IsSpelling w (DeleteCharacters text)
spelling_deletion w text e h = record {
  spelled = spelled_deletion w text e h;
  shown = shown_mapped (λ x. deletion w (Character x)) text w (λ x. shown_deleted w (Character x) ∙ e) h;
}

pub spelling_start : (w : ChangeSet) (kind : List ℕ) (attributes : Map Key) → as_inserted w ≡ w → IsSpelling w (ElementStart kind attributes)
spelling_start w kind attributes e =
    let same = shown_inserted w (Start kind attributes) ∙ e in
    record { spelled = λ u rest. spelling_first w (insertion w (Start kind attributes)) u rest same; shown = λ u. same }

pub spelling_end : (w : ChangeSet) → as_inserted w ≡ w → IsSpelling w ElementEnd
spelling_end w e = let same = shown_inserted w End ∙ e in record { spelled = λ u rest. spelling_first w (insertion w End) u rest same; shown = λ u. same }

pub spelling_deleted_start : (w : ChangeSet) (kind : List ℕ) (attributes : Map Key) → as_deleted w ≡ w → IsSpelling w (DeleteElementStart kind attributes)
spelling_deleted_start w kind attributes e =
    let same = shown_deleted w (Start kind attributes) ∙ e in
    record { spelled = λ u rest. spelling_first w (deletion w (Start kind attributes)) u rest same; shown = λ u. same }

pub spelling_deleted_end : (w : ChangeSet) → as_deleted w ≡ w → IsSpelling w DeleteElementEnd
spelling_deleted_end w e = let same = shown_deleted w End ∙ e in record { spelled = λ u rest. spelling_first w (deletion w End) u rest same; shown = λ u. same }

pub spelling_replace : (w : ChangeSet) (old new : Map Key) → IsSpelling w (ReplaceAttributes old new)
spelling_replace w old new = record { spelled = λ u rest. refl; shown = λ u. refl }

pub spelling_update : (w : ChangeSet) (changes : List Change) → changes ≡ change_list (change_set changes) → IsSpelling w (UpdateAttributes changes)
spelling_update w changes e = record {
  spelled = λ u rest. ap (λ (list : List Change). step u w ++ in_front (UpdateAttributes list) (normal_from w rest)) (sym e);
  shown = λ u. refl;
}

-- ---- an output that goes on

abbrev Goes : List Action → List Component → Option Component → ChangeSet → Type 0
Goes acts done last u = (rest : List Action) → normal_form (acts ++ rest) ≡ done ++ onto last (normal_from u rest)

-- after the last component and perhaps a boundary
pub goes_fresh : (acts : List Action) (done : List Component) (last : Option Component) (u w : ChangeSet) (c : Component) → Goes acts done last u → IsSpelling w c
    → (joins last c && same_changes u w) ≡ false → (rest : List Action) → normal_form (acts ++ component_actions w c ++ rest) ≡ done ++ shut last ++ step u w ++ in_front c (normal_from w rest)
goes_fresh acts done last u w c g s e rest =
    let cs = normal_from w rest in
    ap normal_form (append_assoc acts (component_actions w c) rest) ∙ g (component_actions w c ++ rest)
    ∙ ap (λ x. done ++ x) (ap (onto last) (s.spelled u rest) ∙ goes_after last u w c cs e)
    ∙ sym (append_assoc done (shut last ++ step u w) (in_front c cs)) ∙ ap (λ x. x ++ in_front c cs) (sym (append_assoc done (shut last) (step u w)))

-- to its end
pub goes_to_end : (acts : List Action) (done : List Component) (last : Option Component) (u : ChangeSet) → Goes acts done last u → normal_form acts ≡ done ++ shut last ++ step u none_running
goes_to_end acts done last u g = ap normal_form (sym (append-nil acts)) ∙ g [] ∙ ap (λ x. done ++ x) (before_step last u none_running) ∙ sym (append_assoc done (shut last) (step u none_running))
