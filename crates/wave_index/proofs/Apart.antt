-- What operations leave of the letters of a document.
--     walked_over      components, one after the other
--     op_apart         an operation that applies
--     both_apart       one operation and then another
--     run_apart        the operations of a delta
use Rattle.std.proofs.Common.{◌⊎◌, inl, inr, arith, ◌≡◌, ℕ, zero, suc, ◌+◌, ◌-◌, ◌<◌, ◌≤◌, Bool, true, false, cond, List, [], ◌∷◌, ◌++◌, length, take, drop, map, replicate, append-nil, refl, sym, ap, subst, ◌∙◌, Option, Some, None, unwrap_or, option_map}
use Rattle.std.proofs.Math.Dec.{leb}
use Rattle.std.proofs.Math.ListN.{drop_of_length-le}
use Rattle.std.proofs.lemmas.Bool.Decides.{leb_tells}
use Rattle.std.proofs.lemmas.List.{append_assoc, drop-append-le, drop-drop, length-append, take-append-le}
use Rattle.doc_items.specs.Changes.{ChangeSet, none_running, change_set}
use Rattle.doc_items.specs.Maps.{Key, same_text}
use Rattle.doc_items.specs.declared.item.Content.{Content}
use Rattle.doc_items.specs.declared.item.Content.TheVariants.{Character, Start, End}
use Rattle.doc_items.specs.declared.item.Item.{Item}
use Rattle.doc_op.specs.Actions.{AttributeChange, Unchanged, Update, Replace, Action, Keep, Ins, Del, Names, keep, insertion, deletion, new_values, old_values, actions, actions_from, running_after}
use Rattle.doc_op.specs.Apply.{apply, keeps, kept, fits, put_content}
use Rattle.doc_op.specs.declared.component.Component.{Component}
use Rattle.doc_op.specs.declared.component.Component.TheVariants.{Retain, Characters, ElementStart, ElementEnd, DeleteCharacters, DeleteElementStart, DeleteElementEnd, ReplaceAttributes, UpdateAttributes, AnnotationBoundary}
use Rattle.doc_op.proofs.Applying.{no_value, same_Some}
use Rattle.document_words.specs.Stretches.{IsSplit}
use Rattle.document_words.specs.Words.{letter_of, letters}
use Rattle.document_words.proofs.Stretching.{Letters, take_twice}
use Rattle.wavelet_op.specs.Acts.{Mutates, meaning, meanings}
use Rattle.wavelet_op.specs.States.{State, document_of, with_document, is_structured, mutate, on_role, role_of, added, removed, role_set, apply_act, run}
use Rattle.wavelet_op.specs.declared.op.WaveletOp.{WaveletOp}
use Rattle.wavelet_op.specs.declared.op.WaveletOp.TheVariants.{NoOp, Add, Remove, Mutate, SetRole}
use Rattle.wavelet_op.specs.declared.role.Role.{Role}
use Rattle.wavelet_op.proofs.Maps.{same_text_is, different}
use Rattle.wavelet_op.proofs.Partial.{and_then_some}
use Rattle.wavelet_op.proofs.Squares.{document_there, document_elsewhere}
use Rattle.wave_index.specs.Edges.{untouched, longer, cut, edges_from, edges_of, smaller, joined, joined_with, both, edges_after, edges_over, edges_in, IsApartAt, IsApart}
use Rattle.wave_index.specs.declared.edges.Edges.{Edges}

-- ---- numbers and lists

smaller_by : (a b : ℕ) → ((leb a b ≡ true) × (a ≤ b)) ⊎ ((leb a b ≡ false) × (b < a)) → (smaller a b ≤ a) × (smaller a b ≤ b)
smaller_by a b (inl t) = subst (λ (c : Bool). (cond c a b ≤ a) × (cond c a b ≤ b)) (sym t.0) (omega arith, t.1)
smaller_by a b (inr t) = subst (λ (c : Bool). (cond c a b ≤ a) × (cond c a b ≤ b)) (sym t.0) (let h = t.1 in omega arith, omega arith)

smaller_than : (a b : ℕ) → (smaller a b ≤ a) × (smaller a b ≤ b)
smaller_than a b = smaller_by a b (leb_tells a b)

-- ---- on the way

abbrev pub IsWalkedAt : Option ℕ → ℕ → Letters → Letters → Type 0
IsWalkedAt None s ls ms = (ls ≡ ms) × (s ≤ length ls)
IsWalkedAt (Some p) s ls ms = IsSplit p s ls ms

abbrev pub IsWalked : Edges → Letters → Letters → Type 0
IsWalked e ls ms = IsWalkedAt e.front e.back ls ms

less_split : (p s q t : ℕ) (ls ms : Letters) → q ≤ p → t ≤ s → IsSplit p s ls ms → IsSplit q t ls ms
less_split p s q t ls ms h g x = record {
  fits = let f = x.fits in omega arith;
  also = let f = x.also in omega arith;
  front = sym (take_twice ls q p h) ∙ ap (take q) x.front ∙ take_twice ms q p h;
  back = last_less ls ms s t g (let f = x.fits in omega arith) (let f = x.also in omega arith) x.back;
}
  where
    part : (n s t : ℕ) → t ≤ s → s ≤ n → (n - s) + (s - t) ≡ n - t
    part n s t g h = omega arith

    last_less : (ls ms : Letters) (s t : ℕ) → t ≤ s → s ≤ length ls → s ≤ length ms → drop (length ls - s) ls ≡ drop (length ms - s) ms → drop (length ls - t) ls ≡ drop (length ms - t) ms
    last_less ls ms s t g a b e =
        ap (λ n. drop n ls) (sym (part (length ls) s t g a)) ∙ sym (drop-drop (s - t) (length ls - s) ls) ∙ ap (drop (s - t)) e ∙ drop-drop (s - t) (length ms - s) ms ∙ ap (λ n. drop n ms) (part (length ms) s t g b)

-- letters that stay
split_more : (p s : ℕ) (ls ms x : Letters) → IsSplit p s ls ms → IsSplit p (s + length x) (ls ++ x) (ms ++ x)
split_more p s ls ms x h = record {
  fits = let f = h.fits in let l = length-append ls x in omega arith;
  also = let f = h.also in let l = length-append ms x in omega arith;
  front = take-append-le p ls x (let f = h.fits in omega arith) ∙ h.front ∙ sym (take-append-le p ms x (let f = h.also in omega arith));
  back = place ls s ∙ drop-append-le (length ls - s) ls x (omega arith) ∙ ap (λ z. z ++ x) h.back ∙ sym (drop-append-le (length ms - s) ms x (omega arith)) ∙ sym (place ms s);
}
  where
    same : (ls x : Letters) (s : ℕ) → length (ls ++ x) - (s + length x) ≡ length ls - s
    same ls x s = let l = length-append ls x in omega arith

    place : (ls : Letters) (s : ℕ) → drop (length (ls ++ x) - (s + length x)) (ls ++ x) ≡ drop (length ls - s) (ls ++ x)
    place ls s = ap (λ n. drop n (ls ++ x)) (same ls x s)

walk_on : (o : Option ℕ) (s n : ℕ) (ls ms x : Letters) → IsWalkedAt o s ls ms → length x ≡ n → IsWalkedAt o (smaller (s + n) 18446744073709551615) (ls ++ x) (ms ++ x)
walk_on None s n ls ms x h e = (ap (λ z. z ++ x) h.0, let l = length-append ls x in let b = (smaller_than (s + n) 18446744073709551615).0 in let f = h.1 in omega arith)
walk_on (Some p) s n ls ms x h e =
    less_split p (s + length x) p (smaller (s + n) 18446744073709551615) (ls ++ x) (ms ++ x) (omega arith)
    (subst (λ k. smaller (s + n) 18446744073709551615 ≤ s + k) (sym e) (smaller_than (s + n) 18446744073709551615).0) (split_more p s ls ms x h)

-- letters that are put in or taken away
split_cut : (p : ℕ) (ls ms x y : Letters) → p ≤ length ls → p ≤ length ms → take p ls ≡ take p ms → IsSplit p 0 (ls ++ x) (ms ++ y)
split_cut p ls ms x y h g e = record {
  fits = let l = length-append ls x in omega arith;
  also = let l = length-append ms y in omega arith;
  front = take-append-le p ls x h ∙ e ∙ sym (take-append-le p ms y g);
  back = drop_of_length-le (ls ++ x) (omega arith) ∙ sym (drop_of_length-le (ms ++ y) (omega arith));
}

walk_cut : (o : Option ℕ) (s : ℕ) (ls ms x y : Letters) → IsWalkedAt o s ls ms → IsSplit (unwrap_or o s) 0 (ls ++ x) (ms ++ y)
walk_cut None s ls ms x y h = split_cut s ls ms x y h.1 (subst (λ (z : Letters). s ≤ length z) h.0 h.1) (ap (take s) h.0)
walk_cut (Some p) s ls ms x y h = split_cut p ls ms x y (let f = h.fits in omega arith) (let f = h.also in omega arith) h.front

-- ---- what actions do to letters

record Passed (rest : List Action) (items out : List Item) : Type 0 where
  old : Letters
  new : Letters
  left : List Item
  made : List Item
  had : letters items ≡ old ++ letters left
  gives : letters out ≡ new ++ letters made
  goes : apply rest left ≡ Some made

same_letter : (a : AttributeChange) (c : Content) → letter_of (put_content a c) ≡ letter_of c
same_letter a (Character x) = refl
same_letter a (Start kind m) = refl
same_letter a End = refl

mapped_some : {A B : Type 0} (f : A → B) (o : Option A) (y : B) → option_map f o ≡ Some y → (x : A) × (o ≡ Some x) × (f x ≡ y)
mapped_some f None y e = no_value e
mapped_some f (Some x) y e = (x, refl, same_Some e)

passes_if : {A : Type 0} (b : Bool) (o : Option A) (y : A) → cond b o None ≡ Some y → o ≡ Some y
passes_if true o y e = e
passes_if false o y e = no_value e

kept_one : (c : ChangeSet) (a : AttributeChange) (rest : List Action) (items out : List Item) → apply (Keep c a ∷ rest) items ≡ Some out
    → (l : Option ℕ) × (left : List Item) × (made : List Item) × (letters items ≡ l ∷ letters left) × (letters out ≡ l ∷ letters made) × (apply rest left ≡ Some made)
kept_one c a rest [] out e = no_value e
kept_one c a rest (i ∷ items) out e =
    let m = mapped_some (λ z. kept c a i ∷ z) (apply rest items) out (passes_if (keeps c a i) _ out e) in
    (letter_of i.content, items, m.0, refl, sym (ap letters m.2) ∙ ap (λ z. z ∷ letters m.0) (same_letter a i.content), m.1)

record Stayed (n : ℕ) (rest : List Action) (items out : List Item) : Type 0 where
  same : Letters
  left : List Item
  made : List Item
  had : letters items ≡ same ++ letters left
  gives : letters out ≡ same ++ letters made
  goes : apply rest left ≡ Some made
  count : length same ≡ n

kept_run : (n : ℕ) (u : ChangeSet) (rest : List Action) (items out : List Item) → apply (replicate n (keep u) ++ rest) items ≡ Some out → Stayed n rest items out
kept_run zero u rest items out e = record { same = []; left = items; made = out; had = refl; gives = refl; goes = e; count = refl }
kept_run (suc n) u rest items out e =
    let m = kept_one u Unchanged (replicate n (keep u) ++ rest) items out e in
    let k = kept_run n u rest m.1 m.2 m.5 in
    record { same = m.0 ∷ k.same; left = k.left; made = k.made; had = m.3 ∙ ap (λ z. m.0 ∷ z) k.had; gives = m.4 ∙ ap (λ z. m.0 ∷ z) k.gives; goes = k.goes; count = ap suc k.count }

inserted_one : (x : Item) (rest : List Action) (items out : List Item) → apply (Ins x ∷ rest) items ≡ Some out → Passed rest items out
inserted_one x rest items out e =
    let m = mapped_some (λ z. x ∷ z) (apply rest items) out e in
    record { old = []; new = letter_of x.content ∷ []; left = items; made = m.0; had = refl; gives = sym (ap letters m.2); goes = m.1 }

deleted_one : (c : Content) (n : Names) (rest : List Action) (items out : List Item) → apply (Del c n ∷ rest) items ≡ Some out → Passed rest items out
deleted_one c n rest [] out e = no_value e
deleted_one c n rest (i ∷ items) out e =
    record { old = letter_of i.content ∷ []; new = []; left = items; made = out; had = refl; gives = refl; goes = passes_if (fits c n i) _ out e }

in_turn : {rest more : List Action} {items out : List Item} (f : Passed more items out) → Passed rest f.left f.made → Passed rest items out
in_turn f g = record {
  old = f.old ++ g.old;
  new = f.new ++ g.new;
  left = g.left;
  made = g.made;
  had = f.had ∙ ap (λ z. f.old ++ z) g.had ∙ sym (append_assoc f.old g.old (letters g.left));
  gives = f.gives ∙ ap (λ z. f.new ++ z) g.gives ∙ sym (append_assoc f.new g.new (letters g.made));
  goes = g.goes;
}

passed_none : (rest : List Action) (items out : List Item) → apply rest items ≡ Some out → Passed rest items out
passed_none rest items out e = record { old = []; new = []; left = items; made = out; had = refl; gives = refl; goes = e }

inserted_run : (u : ChangeSet) (text : List ℕ) (rest : List Action) (items out : List Item) → apply (map (λ c. insertion u (Character c)) text ++ rest) items ≡ Some out → Passed rest items out
inserted_run u [] rest items out e = passed_none rest items out e
inserted_run u (c ∷ text) rest items out e =
    let f = inserted_one (record { content = Character c; notes = new_values u }) (map (λ c. insertion u (Character c)) text ++ rest) items out e in
    in_turn f (inserted_run u text rest f.left f.made f.goes)

deleted_run : (u : ChangeSet) (text : List ℕ) (rest : List Action) (items out : List Item) → apply (map (λ c. deletion u (Character c)) text ++ rest) items ≡ Some out → Passed rest items out
deleted_run u [] rest items out e = passed_none rest items out e
deleted_run u (c ∷ text) rest items out e =
    let f = deleted_one (Character c) (old_values u) (map (λ c. deletion u (Character c)) text ++ rest) items out e in
    in_turn f (deleted_run u text rest f.left f.made f.goes)

-- ---- components

abbrev pub WalksOver : List Component → Type 0
WalksOver cs = (u : ChangeSet) (e : Edges) (ls ms : Letters) (items out : List Item) → IsWalked e ls ms → apply (actions_from u cs) items ≡ Some out → IsWalked (edges_from e cs) (ls ++ letters items) (ms ++ letters out)

over_passed : (rest : List Component) (u : ChangeSet) (e : Edges) (ls ms : Letters) (items out : List Item) → WalksOver rest → IsWalked e ls ms → Passed (actions_from u rest) items out
    → IsWalked (edges_from (cut e) rest) (ls ++ letters items) (ms ++ letters out)
over_passed rest u e ls ms items out again w f =
    let r = again u (cut e) (ls ++ f.old) (ms ++ f.new) f.left f.made (walk_cut e.front e.back ls ms f.old f.new w) f.goes in
    subst (λ (z : Letters). IsWalked (edges_from (cut e) rest) z (ms ++ letters out)) (append_assoc ls f.old (letters f.left) ∙ ap (λ z. ls ++ z) (sym f.had))
    (subst (λ (z : Letters). IsWalked (edges_from (cut e) rest) ((ls ++ f.old) ++ letters f.left) z) (append_assoc ms f.new (letters f.made) ∙ ap (λ z. ms ++ z) (sym f.gives)) r)

over_stayed : (rest : List Component) (u : ChangeSet) (n : ℕ) (e : Edges) (ls ms : Letters) (items out : List Item) → WalksOver rest → IsWalked e ls ms → Stayed n (actions_from u rest) items out
    → IsWalked (edges_from (longer n e) rest) (ls ++ letters items) (ms ++ letters out)
over_stayed rest u n e ls ms items out again w f =
    let r = again u (longer n e) (ls ++ f.same) (ms ++ f.same) f.left f.made (walk_on e.front e.back n ls ms f.same w f.count) f.goes in
    subst (λ (z : Letters). IsWalked (edges_from (longer n e) rest) z (ms ++ letters out)) (append_assoc ls f.same (letters f.left) ∙ ap (λ z. ls ++ z) (sym f.had))
    (subst (λ (z : Letters). IsWalked (edges_from (longer n e) rest) ((ls ++ f.same) ++ letters f.left) z) (append_assoc ms f.same (letters f.made) ∙ ap (λ z. ms ++ z) (sym f.gives)) r)

one_stayed : (c : ChangeSet) (a : AttributeChange) (rest : List Action) (items out : List Item) → apply (Keep c a ∷ rest) items ≡ Some out → Stayed 1 rest items out
one_stayed c a rest items out e =
    let m = kept_one c a rest items out e in
    record { same = m.0 ∷ []; left = m.1; made = m.2; had = m.3; gives = m.4; goes = m.5; count = refl }

nothing_left : (items out : List Item) → apply [] items ≡ Some out → (letters items ≡ []) × (letters out ≡ [])
nothing_left [] out e = (refl, sym (ap letters (same_Some e)))
nothing_left (i ∷ items) out e = no_value e

pub walked_over : (cs : List Component) → WalksOver cs
walked_over [] u e ls ms items out w h =
    let n = nothing_left items out h in
    subst (λ (z : Letters). IsWalked e z (ms ++ letters out)) (sym (append-nil ls) ∙ ap (λ z. ls ++ z) (sym n.0))
    (subst (λ (z : Letters). IsWalked e ls z) (sym (append-nil ms) ∙ ap (λ z. ms ++ z) (sym n.1)) w)
walked_over (Retain n ∷ cs) u e ls ms items out w h = over_stayed cs u n e ls ms items out (walked_over cs) w (kept_run n u (actions_from u cs) items out h)
walked_over (Characters text ∷ cs) u e ls ms items out w h = over_passed cs u e ls ms items out (walked_over cs) w (inserted_run u text (actions_from u cs) items out h)
walked_over (ElementStart kind m ∷ cs) u e ls ms items out w h = over_passed cs u e ls ms items out (walked_over cs) w (inserted_one _ (actions_from u cs) items out h)
walked_over (ElementEnd ∷ cs) u e ls ms items out w h = over_passed cs u e ls ms items out (walked_over cs) w (inserted_one _ (actions_from u cs) items out h)
walked_over (DeleteCharacters text ∷ cs) u e ls ms items out w h = over_passed cs u e ls ms items out (walked_over cs) w (deleted_run u text (actions_from u cs) items out h)
walked_over (DeleteElementStart kind m ∷ cs) u e ls ms items out w h = over_passed cs u e ls ms items out (walked_over cs) w (deleted_one (Start kind m) (old_values u) (actions_from u cs) items out h)
walked_over (DeleteElementEnd ∷ cs) u e ls ms items out w h = over_passed cs u e ls ms items out (walked_over cs) w (deleted_one End (old_values u) (actions_from u cs) items out h)
walked_over (ReplaceAttributes old new ∷ cs) u e ls ms items out w h = over_stayed cs u 1 e ls ms items out (walked_over cs) w (one_stayed u (Replace old new) (actions_from u cs) items out h)
walked_over (UpdateAttributes changes ∷ cs) u e ls ms items out w h = over_stayed cs u 1 e ls ms items out (walked_over cs) w (one_stayed u (Update (change_set changes)) (actions_from u cs) items out h)
walked_over (AnnotationBoundary b ∷ cs) u e ls ms items out w h = walked_over cs (running_after u (AnnotationBoundary b)) e ls ms items out w h

apart_after : (o : Option ℕ) (s : ℕ) (ls ms : Letters) → IsWalkedAt o s ls ms → IsApartAt o s ls ms
apart_after None s ls ms h = h.0
apart_after (Some p) s ls ms h = h

pub op_apart : (cs : List Component) (items out : List Item) → apply (actions cs) items ≡ Some out → IsApart (edges_of cs) (letters items) (letters out)
op_apart cs items out h = apart_after _ _ _ _ (walked_over cs none_running untouched [] [] items out (refl, omega arith) h)

-- ---- operations in turn

split_twice : (p s q t : ℕ) (ls ms ns : Letters) → IsSplit p s ls ms → IsSplit q t ms ns → IsSplit (smaller p q) (smaller s t) ls ns
split_twice p s q t ls ms ns f g =
    let a = less_split p s (smaller p q) (smaller s t) ls ms (smaller_than p q).0 (smaller_than s t).0 f in
    let b = less_split q t (smaller p q) (smaller s t) ms ns (smaller_than p q).1 (smaller_than s t).1 g in
    record { fits = a.fits; also = b.also; front = a.front ∙ b.front; back = a.back ∙ b.back }

joined_apart : (p s : ℕ) (o : Option ℕ) (t : ℕ) (ls ms ns : Letters) → IsSplit p s ls ms → IsApartAt o t ms ns → IsApart (joined p s o t) ls ns
joined_apart p s None t ls ms ns f g = subst (λ (z : Letters). IsSplit p s ls z) g f
joined_apart p s (Some q) t ls ms ns f g = split_twice p s q t ls ms ns f g

both_apart_at : (o : Option ℕ) (s : ℕ) (e : Edges) (ls ms ns : Letters) → IsApartAt o s ls ms → IsApart e ms ns → IsApart (joined_with o s e) ls ns
both_apart_at None s e ls ms ns f g = subst (λ (z : Letters). IsApart e z ns) (sym f) g
both_apart_at (Some p) s e ls ms ns f g = joined_apart p s e.front e.back ls ms ns f g

-- ---- the operations of a delta

role_leaves : (s t : State) (a : Key) (o : Option (Option Role)) → on_role s a o ≡ Some t → (d : Key) → document_of t d ≡ document_of s d
role_leaves s t a None e d = no_value e
role_leaves s t a (Some r) e d = ap (λ (z : State). document_of z d) (sym (same_Some e))

stays_apart : (e : Edges) (d : Key) (ls : Letters) (s t : State) → document_of t d ≡ document_of s d → IsApart e ls (letters (document_of s d)) → IsApart e ls (letters (document_of t d))
stays_apart e d ls s t h f = subst (λ (items : List Item). IsApart e ls (letters items)) (sym h) f

mutated_apart : (e : Edges) (d c : Key) (cs : List Component) (ls : Letters) (s t : State) → apply_act s (Mutates c (actions cs)) ≡ Some t → IsApart e ls (letters (document_of s d))
    → (b : Bool) → same_text c d ≡ b → IsApart (cond b (both e (edges_of cs)) e) ls (letters (document_of t d))
unfolding apply_act
mutated_apart e d c cs ls s t h f true w =
    let m = and_then_some (mutate (actions cs) (document_of s c)) (λ items. Some (with_document s c items)) t h in
    let made = passes_if (is_structured (actions cs)) _ m.0 m.1 in
    let there : document_of t c ≡ m.0 = ap (λ (z : State). document_of z c) (sym (same_Some m.2)) ∙ document_there s c m.0 in
    let op = op_apart cs (document_of s c) m.0 made in
    let is = same_text_is c d w in
    subst (λ (k : Key). IsApart (both e (edges_of cs)) ls (letters (document_of t k))) is
    (subst (λ (items : List Item). IsApart (both e (edges_of cs)) ls (letters items)) (sym there) (both_apart_at e.front e.back (edges_of cs) ls _ _ (subst (λ (k : Key). IsApart e ls (letters (document_of s k))) (sym is) f) op))
mutated_apart e d c cs ls s t h f false w =
    let m = and_then_some (mutate (actions cs) (document_of s c)) (λ items. Some (with_document s c items)) t h in
    stays_apart e d ls s t (ap (λ (z : State). document_of z d) (sym (same_Some m.2)) ∙ document_elsewhere s c d m.0 (λ z. different c d w (sym z))) f

op_after : (e : Edges) (d : Key) (o : WaveletOp) (ls : Letters) (s t : State) → apply_act s (meaning o) ≡ Some t → IsApart e ls (letters (document_of s d)) → IsApart (edges_after e d o) ls (letters (document_of t d))
unfolding apply_act
op_after e d NoOp ls s t h f = stays_apart e d ls s t (ap (λ (z : State). document_of z d) (sym (same_Some h))) f
op_after e d (Add a) ls s t h f = stays_apart e d ls s t (role_leaves s t a (added (role_of s a)) h d) f
op_after e d (Remove a) ls s t h f = stays_apart e d ls s t (role_leaves s t a (removed (role_of s a)) h d) f
op_after e d (Mutate c op) ls s t h f = mutated_apart e d c op ls s t h f (same_text c d) refl
op_after e d (SetRole a old new) ls s t h f = stays_apart e d ls s t (role_leaves s t a (role_set old new (role_of s a)) h d) f

all_apart : (e : Edges) (d : Key) (os : List WaveletOp) (ls : Letters) (s t : State) → run s (meanings os) ≡ Some t → IsApart e ls (letters (document_of s d)) → IsApart (edges_over e d os) ls (letters (document_of t d))
all_apart e d [] ls s t h f = stays_apart e d ls s t (ap (λ (z : State). document_of z d) (sym (same_Some h))) f
all_apart e d (o ∷ os) ls s t h f =
    let m = and_then_some (apply_act s (meaning o)) (λ z. run z (meanings os)) t h in
    all_apart (edges_after e d o) d os ls m.0 t m.2 (op_after e d o ls s m.0 m.1 f)

pub run_apart : (d : Key) (os : List WaveletOp) (s t : State) → run s (meanings os) ≡ Some t → IsApart (edges_in d os) (letters (document_of s d)) (letters (document_of t d))
run_apart d os s t h = all_apart untouched d os (letters (document_of s d)) s t h refl
