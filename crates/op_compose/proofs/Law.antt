-- The law of composition by one induction.
--     whole f s       the composition, where it is defined
--     one_step, ..    the clauses of the composition, for that
use Rattle.std.proofs.Common.{◌≡◌, ℕ, Bool, true, false, cond, ◌&&◌, refl, sym, ap, ◌∙◌, true≢false, Option, None, Some, List, [], ◌∷◌, Ok, Err, option_and_then}
use Rattle.std.specs.Option.{option_map}
use Rattle.doc_items.specs.Changes.{ChangeSet}
use Rattle.doc_items.specs.declared.item.Content.{Content}
use Rattle.doc_items.specs.declared.item.Item.{Item}
use Rattle.doc_op.specs.Actions.{AttributeChange, Names, Action, Keep, Ins, Del}
use Rattle.doc_op.specs.Apply.{put_content, keeps, kept, fits, apply}
use Rattle.op_compose.specs.Chains.{follows, then, names_before, attributes_back, attributes_follow, attributes_then, can_precede}
use Rattle.op_compose.specs.Compose.{Composed, ahead, compose, defined}
use Rattle.op_compose.specs.Laws.{CompositionHolds}
use Rattle.op_compose.proofs.Chains.{Both, keep_keep, keep_keep_out, keep_delete}

abbrev pub whole : List Action → List Action → Option (List Action)
whole f s = defined (compose f s)

abbrev pub before : Action → Option (List Action) → Option (List Action)
before x r = option_map (λ more. x ∷ more) r

pub one_step : (x : Action) (n : ℕ) (r : Composed) → defined (ahead (x ∷ []) n r) ≡ before x (defined r)
one_step x n (Ok more) = refl
one_step x n (Err place) = refl

pub tested_step : (b : Bool) (x : Action) (n : ℕ) (r : Composed) → defined (cond b (ahead (x ∷ []) n r) (Err 0)) ≡ cond b (before x (defined r)) None
tested_step true x n r = one_step x n r
tested_step false x n r = refl

no_step : (n : ℕ) (r : Composed) → defined (ahead [] n r) ≡ defined r
no_step n (Ok more) = refl
no_step n (Err place) = refl

pub dropped_step : (b : Bool) (n : ℕ) (r : Composed) → defined (cond b (ahead [] n r) (Err 0)) ≡ cond b (defined r) None
dropped_step true n r = no_step n r
dropped_step false n r = refl

-- ---- partial results

module _ {A B C : Type 0} where
  of_map : (g : A → B) (h : B → Option C) (o : Option A) → option_and_then h (option_map g o) ≡ option_and_then (λ x. h (g x)) o
  of_map g h None = refl
  of_map g h (Some x) = refl

  map_of : (g : B → C) (h : A → Option B) (o : Option A) → option_and_then (λ x. option_map g (h x)) o ≡ option_map g (option_and_then h o)
  map_of g h None = refl
  map_of g h (Some x) = refl

module _ {A B : Type 0} where
  of_test : (b : Bool) (h : A → Option B) (o : Option A) → option_and_then h (cond b o None) ≡ cond b (option_and_then h o) None
  of_test true h o = refl
  of_test false h o = refl

  test_of : (b : Bool) (h : A → Option B) (o : Option A) → option_and_then (λ x. cond b (h x) None) o ≡ cond b (option_and_then h o) None
  test_of true h o = refl
  test_of false h None = refl
  test_of false h (Some x) = refl

  nothing : (o : Option A) → option_and_then {U = B} (λ x. None) o ≡ None
  nothing None = refl
  nothing (Some x) = refl

-- two tests one after the other, against two others, with results that agree where the tests pass
tested : {A : Type 0} (p q r s : Bool) (x y : Option A) → Both p q r s → (p ≡ true → q ≡ true → x ≡ y) → cond p (cond q x None) None ≡ cond r (cond s y None) None
tested true true r s x y h e = let k = h.forth refl refl in e refl refl ∙ sym ((λ i. cond (k.0 i) (cond (k.1 i) y None) None))
tested true false true true x y h e = absurd (true≢false (sym (h.back refl refl).1))
tested true false true false x y h e = refl
tested true false false s x y h e = refl
tested false q true true x y h e = absurd (true≢false (sym (h.back refl refl).0))
tested false q true false x y h e = refl
tested false q false s x y h e = refl

-- ---- the law

-- what the two give one after the other, and what the composition gives
abbrev twice : List Action → List Action → List Item → Option (List Item)
twice f s items = option_and_then (apply s) (apply f items)

abbrev once : List Action → List Action → List Item → Option (List Item)
once f s items = option_and_then (λ c. apply c items) (whole f s)

first_deletes : (c : Content) (n : Names) (f s : List Action) (items : List Item) → ((rest : List Item) → twice f s rest ≡ once f s rest) → twice (Del c n ∷ f) s items ≡ option_and_then (λ k. apply k items) (before (Del c n) (whole f s))
first_deletes c n f s [] h = sym (of_map (λ (more : List Action). Del c n ∷ more) (λ k. apply k []) (whole f s) ∙ nothing (whole f s))
first_deletes c n f s (i ∷ items) h =
    of_test (fits c n i) (apply s) (apply f items)
    ∙ ap (λ o. cond (fits c n i) o None) (h items)
    ∙ sym (of_map (λ (more : List Action). Del c n ∷ more) (λ k. apply k (i ∷ items)) (whole f s) ∙ test_of (fits c n i) (λ k. apply k items) (whole f s))

second_inserts : (y : Item) (f s : List Action) (items : List Item) → twice f s items ≡ once f s items → twice f (Ins y ∷ s) items ≡ option_and_then (λ k. apply k items) (before (Ins y) (whole f s))
second_inserts y f s items h =
    map_of (λ (out : List Item). y ∷ out) (apply s) (apply f items)
    ∙ ap (option_map (λ out. y ∷ out)) h
    ∙ sym (of_map (λ (more : List Action). Ins y ∷ more) (λ k. apply k items) (whole f s) ∙ map_of (λ (out : List Item). y ∷ out) (λ k. apply k items) (whole f s))

insert_keep : (x : Item) (u : ChangeSet) (a : AttributeChange) (f s : List Action) (items : List Item) → twice f s items ≡ once f s items → twice (Ins x ∷ f) (Keep u a ∷ s) items ≡ option_and_then (λ k. apply k items) (cond (keeps u a x) (before (Ins (kept u a x)) (whole f s)) None)
insert_keep x u a f s items h =
    of_map (λ (out : List Item). x ∷ out) (apply (Keep u a ∷ s)) (apply f items)
    ∙ test_of (keeps u a x) (λ out. option_map (λ rest. kept u a x ∷ rest) (apply s out)) (apply f items)
    ∙ ap (λ o. cond (keeps u a x) o None) (map_of (λ (rest : List Item). kept u a x ∷ rest) (apply s) (apply f items) ∙ ap (option_map (λ rest. kept u a x ∷ rest)) h
    ∙ sym (of_map (λ (more : List Action). Ins (kept u a x) ∷ more) (λ k. apply k items) (whole f s) ∙ map_of (λ (out : List Item). kept u a x ∷ out) (λ k. apply k items) (whole f s)))
    ∙ sym (of_test (keeps u a x) (λ k. apply k items) (before (Ins (kept u a x)) (whole f s)))

insert_delete : (x : Item) (c : Content) (n : Names) (f s : List Action) (items : List Item) → twice f s items ≡ once f s items → twice (Ins x ∷ f) (Del c n ∷ s) items ≡ option_and_then (λ k. apply k items) (cond (fits c n x) (whole f s) None)
insert_delete x c n f s items h =
    of_map (λ (out : List Item). x ∷ out) (apply (Del c n ∷ s)) (apply f items)
    ∙ test_of (fits c n x) (apply s) (apply f items)
    ∙ ap (λ o. cond (fits c n x) o None) h
    ∙ sym (of_test (fits c n x) (λ k. apply k items) (whole f s))

keep_keep_row : (w u : ChangeSet) (o a : AttributeChange) (i : Item) (f s : List Action) (items : List Item) → twice f s items ≡ once f s items → twice (Keep w o ∷ f) (Keep u a ∷ s) (i ∷ items) ≡ option_and_then (λ k. apply k (i ∷ items)) (cond (follows w u && attributes_follow o a) (before (Keep (then w u) (attributes_then o a)) (whole f s)) None)
keep_keep_row w u o a i f s items h =
    of_test (keeps w o i) (apply (Keep u a ∷ s)) (option_map (λ out. kept w o i ∷ out) (apply f items))
    ∙ ap (λ r. cond (keeps w o i) r None) (
    of_map (λ (out : List Item). kept w o i ∷ out) (apply (Keep u a ∷ s)) (apply f items)
    ∙ test_of (keeps u a (kept w o i)) (λ out. option_map (λ rest. kept u a (kept w o i) ∷ rest) (apply s out)) (apply f items)
    ∙ ap (λ r. cond (keeps u a (kept w o i)) r None) (map_of (λ (rest : List Item). kept u a (kept w o i) ∷ rest) (apply s) (apply f items) ∙ ap (option_map (λ rest. kept u a (kept w o i) ∷ rest)) h))
    ∙ tested (keeps w o i) (keeps u a (kept w o i)) (follows w u && attributes_follow o a) (keeps (then w u) (attributes_then o a) i)
    (option_map (λ rest. kept u a (kept w o i) ∷ rest) (once f s items)) (option_map (λ rest. kept (then w u) (attributes_then o a) i ∷ rest) (once f s items))
    (keep_keep w u o a i) (λ p q. ap (λ x. option_map (λ rest. x ∷ rest) (once f s items)) (keep_keep_out w u o a i p q))
    ∙ sym (
    of_test (follows w u && attributes_follow o a) (λ k. apply k (i ∷ items)) (before (Keep (then w u) (attributes_then o a)) (whole f s))
    ∙ ap (λ r. cond (follows w u && attributes_follow o a) r None) (
    of_map (λ (more : List Action). Keep (then w u) (attributes_then o a) ∷ more) (λ k. apply k (i ∷ items)) (whole f s)
    ∙ test_of (keeps (then w u) (attributes_then o a) i) (λ k. option_map (λ out. kept (then w u) (attributes_then o a) i ∷ out) (apply k items)) (whole f s)
    ∙ ap (λ r. cond (keeps (then w u) (attributes_then o a) i) r None) (map_of (λ (out : List Item). kept (then w u) (attributes_then o a) i ∷ out) (λ k. apply k items) (whole f s))))

keep_delete_row : (w : ChangeSet) (o : AttributeChange) (c : Content) (n : Names) (i : Item) (f s : List Action) (items : List Item) → twice f s items ≡ once f s items → twice (Keep w o ∷ f) (Del c n ∷ s) (i ∷ items) ≡ option_and_then (λ k. apply k (i ∷ items)) (cond (can_precede c n w o) (before (Del (put_content (attributes_back o) c) (names_before n w)) (whole f s)) None)
keep_delete_row w o c n i f s items h =
    of_test (keeps w o i) (apply (Del c n ∷ s)) (option_map (λ out. kept w o i ∷ out) (apply f items))
    ∙ ap (λ r. cond (keeps w o i) r None) (
    of_map (λ (out : List Item). kept w o i ∷ out) (apply (Del c n ∷ s)) (apply f items)
    ∙ test_of (fits c n (kept w o i)) (apply s) (apply f items))
    ∙ tested (keeps w o i) (fits c n (kept w o i)) (can_precede c n w o) (fits (put_content (attributes_back o) c) (names_before n w) i) (twice f s items) (once f s items) (keep_delete w o c n i) (λ p q. h)
    ∙ sym (
    of_test (can_precede c n w o) (λ k. apply k (i ∷ items)) (before (Del (put_content (attributes_back o) c) (names_before n w)) (whole f s))
    ∙ ap (λ r. cond (can_precede c n w o) r None) (
    of_map (λ (more : List Action). Del (put_content (attributes_back o) c) (names_before n w) ∷ more) (λ k. apply k (i ∷ items)) (whole f s)
    ∙ test_of (fits (put_content (attributes_back o) c) (names_before n w) i) (λ k. apply k items) (whole f s)))

none : (b : Bool) → cond {A = Option (List Item)} b None None ≡ None
none true = refl
none false = refl

-- where the composition is undefined at once, the second doesn't apply after the first
ends_short : (x : Item) (f : List Action) (items : List Item) → twice (Ins x ∷ f) [] items ≡ None
ends_short x f items = of_map (λ (out : List Item). x ∷ out) (apply []) (apply f items) ∙ nothing (apply f items)

keep_short : (w : ChangeSet) (o : AttributeChange) (f : List Action) (i : Item) (items : List Item) → twice (Keep w o ∷ f) [] (i ∷ items) ≡ None
keep_short w o f i items = of_test (keeps w o i) (apply []) (option_map (λ out. kept w o i ∷ out) (apply f items)) ∙ ap (λ r. cond (keeps w o i) r None) (of_map (λ (out : List Item). kept w o i ∷ out) (apply []) (apply f items) ∙ nothing (apply f items)) ∙ none (keeps w o i)

keep_keep_end : (w u : ChangeSet) (o a : AttributeChange) (f s : List Action) → option_and_then (λ k. apply k []) (cond (follows w u && attributes_follow o a) (before (Keep (then w u) (attributes_then o a)) (whole f s)) None) ≡ None
keep_keep_end w u o a f s =
    of_test (follows w u && attributes_follow o a) (λ k. apply k []) (before (Keep (then w u) (attributes_then o a)) (whole f s))
    ∙ ap (λ r. cond (follows w u && attributes_follow o a) r None) (of_map (λ (more : List Action). Keep (then w u) (attributes_then o a) ∷ more) (λ k. apply k []) (whole f s) ∙ nothing (whole f s)) ∙ none _

keep_delete_end : (w : ChangeSet) (o : AttributeChange) (c : Content) (n : Names) (f s : List Action) → option_and_then (λ k. apply k []) (cond (can_precede c n w o) (before (Del (put_content (attributes_back o) c) (names_before n w)) (whole f s)) None) ≡ None
keep_delete_end w o c n f s =
    of_test (can_precede c n w o) (λ k. apply k []) (before (Del (put_content (attributes_back o) c) (names_before n w)) (whole f s))
    ∙ ap (λ r. cond (can_precede c n w o) r None) (of_map (λ (more : List Action). Del (put_content (attributes_back o) c) (names_before n w) ∷ more) (λ k. apply k []) (whole f s) ∙ nothing (whole f s)) ∙ none _

-- on a document, as the composition's clause says
on : (items : List Item) (p q : Option (List Action)) → p ≡ q → option_and_then (λ k. apply k items) q ≡ option_and_then (λ k. apply k items) p
on items p q e = ap (option_and_then (λ k. apply k items)) (sym e)

pub composition_law : CompositionHolds
composition_law (Del c n ∷ f) s items = first_deletes c n f s items (composition_law f s) ∙ on items _ _ (one_step (Del c n) 0 (compose f s))
composition_law [] (Ins y ∷ s) items = second_inserts y [] s items (composition_law [] s items) ∙ on items _ _ (one_step (Ins y) 0 (compose [] s))
composition_law (Ins x ∷ f) (Ins y ∷ s) items = second_inserts y (Ins x ∷ f) s items (composition_law (Ins x ∷ f) s items) ∙ on items _ _ (one_step (Ins y) 0 (compose (Ins x ∷ f) s))
composition_law (Keep w o ∷ f) (Ins y ∷ s) items = second_inserts y (Keep w o ∷ f) s items (composition_law (Keep w o ∷ f) s items) ∙ on items _ _ (one_step (Ins y) 0 (compose (Keep w o ∷ f) s))
composition_law (Ins x ∷ f) (Keep u a ∷ s) items = insert_keep x u a f s items (composition_law f s items) ∙ on items _ _ (tested_step (keeps u a x) (Ins (kept u a x)) 1 (compose f s))
composition_law (Ins x ∷ f) (Del c n ∷ s) items = insert_delete x c n f s items (composition_law f s items) ∙ on items _ _ (dropped_step (fits c n x) 1 (compose f s))
composition_law (Keep w o ∷ f) (Keep u a ∷ s) [] = sym (keep_keep_end w u o a f s) ∙ on [] _ _ (tested_step (follows w u && attributes_follow o a) (Keep (then w u) (attributes_then o a)) 1 (compose f s))
composition_law (Keep w o ∷ f) (Keep u a ∷ s) (i ∷ items) = keep_keep_row w u o a i f s items (composition_law f s items) ∙ on (i ∷ items) _ _ (tested_step (follows w u && attributes_follow o a) (Keep (then w u) (attributes_then o a)) 1 (compose f s))
composition_law (Keep w o ∷ f) (Del c n ∷ s) [] = sym (keep_delete_end w o c n f s) ∙ on [] _ _ (tested_step (can_precede c n w o) (Del (put_content (attributes_back o) c) (names_before n w)) 1 (compose f s))
composition_law (Keep w o ∷ f) (Del c n ∷ s) (i ∷ items) = keep_delete_row w o c n i f s items (composition_law f s items) ∙ on (i ∷ items) _ _ (tested_step (can_precede c n w o) (Del (put_content (attributes_back o) c) (names_before n w)) 1 (compose f s))
composition_law [] [] [] = refl
composition_law [] [] (i ∷ items) = refl
composition_law [] (Keep u a ∷ s) [] = refl
composition_law [] (Keep u a ∷ s) (i ∷ items) = refl
composition_law [] (Del c n ∷ s) [] = refl
composition_law [] (Del c n ∷ s) (i ∷ items) = refl
composition_law (Ins x ∷ f) [] items = ends_short x f items
composition_law (Keep w o ∷ f) [] [] = refl
composition_law (Keep w o ∷ f) [] (i ∷ items) = keep_short w o f i items
