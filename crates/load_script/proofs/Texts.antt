-- What a follower of a good world shows has texts for annotations, and so have the edits that are made of it.
--     IsTextState s               each item of each document has texts for annotations
--     shown_texts                 so the screen of a follower
--     typing_text, erasing_text, inviting_text     so the acts of the edits
use Rattle.std.proofs.Common.{◌≡◌, inl, inr, ℕ, zero, suc, Bool, true, false, ◌&&◌, List, [], ◌∷◌, ◌++◌, map, Option, None, Some, slice_get, refl, sym, ap, subst, ◌∙◌, unwrap_or}
use Rattle.std.specs.FinMap.{get, get-empty, empty}
use Rattle.std.specs.Option.{option_map}
use Rattle.std.specs.Ordering.{nat_cmp}
use Rattle.std.specs.Cmp.Lexicographic.{slice_cmp}
use Rattle.std.specs.Str.{is_utf8}
use Rattle.std.proofs.lemmas.Bool.{and_parts, and_from}
use Rattle.doc_items.specs.Changes.{KeyChange, ChangeSet, set_new, put, none_running}
use Rattle.doc_items.specs.Maps.{Key, Map}
use Rattle.doc_items.specs.declared.item.Item.{Item}
use Rattle.doc_items.proofs.Maps.{get-merge, get-each}
use Rattle.change_view.specs.Sets.{fresh}
use Rattle.change_view.specs.Texts.{is_text_value, is_text_at, AreTexts}
use Rattle.doc_op.specs.Actions.{Action, Keep, Ins, Del}
use Rattle.doc_op.specs.Apply.{keeps, kept, fits, apply}
use Rattle.doc_op.specs.Normal.{gone, to_absent}
use Rattle.doc_op.proofs.Applying.{no_value, same_Some, mapped, passed}
use Rattle.op_build.specs.Edits.{range, notes_of, left_notes}
use Rattle.op_build.specs.Plans.{retained, erase_one, typing, erasing}
use Rattle.wavelet_op.specs.Acts.{Act, Idle, Adds, Removes, Sets, Mutates}
use Rattle.wavelet_op.specs.Deltas.{DeltaOf}
use Rattle.wavelet_op.specs.States.{State, empty_state, document_of, with_document, is_structured, mutate, on_role, added, removed, role_set, role_of, apply_act, run}
use Rattle.wavelet_op.specs.declared.delta.Submission.{Submission}
use Rattle.wavelet_op.specs.declared.role.Role.{Role}
use Rattle.wavelet_op.proofs.Maps.{same_text_is, different}
use Rattle.wavelet_op.proofs.Partial.{and_then_some}
use Rattle.wavelet_op.proofs.Squares.{document_there, document_elsewhere}
use Rattle.doc_items.specs.Maps.{same_text}
use Rattle.delta_history.specs.Points.{Point, start, acts_of, next_point, replay}
use Rattle.delta_history.proofs.Points.{after_point}
use Rattle.follower_rules.specs.Followers.{ClientOf, FollowerOf, run_all, pending}
use Rattle.wave_world.specs.Texts.{AreTextsIn, AreText, IsTextAct, AreTextActs, AreTextEntries}
use Rattle.wave_world.specs.Worlds.{Mem}
use Rattle.wave_world.proofs.Clients.{IsFollower}
use Rattle.wave_world.proofs.Members.{mem_left, mem_get, mem_more}
use Rattle.load_script.specs.Edits.{letter}
use Rattle.load_script.specs.Names.{the_document, users}

-- ---- one map

new_text : (k : Key) (c : KeyChange) → is_text_at k (Some c) ≡ true → (is_utf8 k ≡ true) × (is_text_value c.new ≡ true)
new_text k c h =
    let p = and_parts (is_utf8 k) (is_text_value c.old && is_text_value c.new) h in
    (p.0, (and_parts (is_text_value c.old) (is_text_value c.new) p.1).1)

fresh_text : (k : Key) (v : Option Key) → is_utf8 k ≡ true → is_text_value v ≡ true → is_text_at k (option_map fresh v) ≡ true
fresh_text k None a b = refl
fresh_text k (Some x) a b = and_from _ _ a (and_from _ _ refl b)

put_at : (k : Key) (c : Option KeyChange) (v : Option Key) → is_text_at k c ≡ true → is_text_at k (option_map fresh v) ≡ true → is_text_at k (option_map fresh (set_new c v)) ≡ true
put_at k None v h g = g
put_at k (Some c) v h g = (let t = new_text k c h in fresh_text k c.new t.0 t.1)

in_at : (m : Map Key) (k : Key) → AreTextsIn m → is_text_at k (option_map fresh (get m k)) ≡ true
in_at m k t = sym (ap (is_text_at k) (get-each fresh m k)) ∙ t k

in_all : (m : Map Key) → ((k : Key) → is_text_at k (option_map fresh (get m k)) ≡ true) → AreTextsIn m
in_all m h k = ap (is_text_at k) (get-each fresh m k) ∙ h k

texts_put : (c : ChangeSet) (m : Map Key) → AreTexts c → AreTextsIn m → AreTextsIn (put c m)
texts_put c m t s = in_all (put c m) (λ k. ap (λ v. is_text_at k (option_map fresh v)) (get-merge set_new c m k refl) ∙ put_at k (get c k) (get m k) (t k) (in_at m k s))

texts_none : AreTexts none_running
texts_none k = ap (is_text_at k) (get-empty (slice_cmp nat_cmp) k)

texts_empty : AreTextsIn empty
texts_empty = in_all empty (λ k. ap (λ v. is_text_at k (option_map fresh v)) (get-empty (slice_cmp nat_cmp) k))

names_none : AreTexts (to_absent empty)
names_none k = ap (is_text_at k) (get-each gone empty k) ∙ ap (λ v. is_text_at k (option_map gone v)) (get-empty (slice_cmp nat_cmp) k)

-- ---- documents and states

abbrev AreTextItems : List Item → Type 0
AreTextItems items = (i : Item) → Mem i items → AreTextsIn i.notes

abbrev pub IsTextState : State → Type 0
IsTextState s = (d : Key) (i : Item) → Mem i (document_of s d) → AreTextsIn i.notes

apply_texts : (acts : List Action) (items out : List Item) → AreText acts → AreTextItems items → apply acts items ≡ Some out → AreTextItems out
apply_texts [] [] out t h is = subst AreTextItems (same_Some is) h
apply_texts [] (x ∷ items) out t h is = no_value is
apply_texts (Ins x ∷ more) items out t h is =
    let m = mapped (λ (o : List Item). x ∷ o) (apply more items) out is in
    subst AreTextItems m.gives (mem_more (λ (i : Item). AreTextsIn i.notes) x m.value t.0 (apply_texts more items m.value t.1 h m.had))
apply_texts (Keep u a ∷ more) [] out t h is = no_value is
apply_texts (Keep u a ∷ more) (x ∷ items) out t h is =
    let p = passed (keeps u a x) _ out is in
    let m = mapped (λ (o : List Item). kept u a x ∷ o) (apply more items) out p.rest in
    subst AreTextItems m.gives (mem_more (λ (i : Item). AreTextsIn i.notes) (kept u a x) m.value (texts_put u x.notes (t.0).0 (h x (inl refl))) (apply_texts more items m.value t.1 (λ i n. h i (inr n)) m.had))
apply_texts (Del c n ∷ more) [] out t h is = no_value is
apply_texts (Del c n ∷ more) (x ∷ items) out t h is = apply_texts more items out t.1 (λ i m. h i (inr m)) (passed (fits c n x) _ out is).rest

document_texts : (s : State) (d : Key) (items : List Item) → IsTextState s → AreTextItems items → IsTextState (with_document s d items)
document_texts s d items h g q = go (same_text q d) refl
  where
    go : (b : Bool) → same_text q d ≡ b → AreTextItems (document_of (with_document s d items) q)
    go true b = subst AreTextItems (sym (ap (document_of (with_document s d items)) (same_text_is q d b) ∙ document_there s d items)) g
    go false b = subst AreTextItems (sym (document_elsewhere s d q items (different q d b))) (h q)

role_texts : (s t : State) (a : Key) (m : Option (Option Role)) → IsTextState s → on_role s a m ≡ Some t → IsTextState t
role_texts s t a None h e = no_value e
role_texts s t a (Some r) h e = subst IsTextState (same_Some e) (λ d. h d)

act_texts : (s t : State) (a : Act) → IsTextAct a → IsTextState s → apply_act s a ≡ Some t → IsTextState t
unfolding apply_act
act_texts s t Idle x h e = subst IsTextState (same_Some e) h
act_texts s t (Adds a) x h e = role_texts s t a (added (role_of s a)) h e
act_texts s t (Removes a) x h e = role_texts s t a (removed (role_of s a)) h e
act_texts s t (Sets a old new) x h e = role_texts s t a (role_set old new (role_of s a)) h e
act_texts s t (Mutates d acts) x h e =
    let m = and_then_some (mutate acts (document_of s d)) (λ items. Some (with_document s d items)) t e in
    let p = passed (is_structured acts) (apply acts (document_of s d)) m.0 m.1 in
    subst IsTextState (same_Some m.2) (document_texts s d m.0 h (apply_texts acts (document_of s d) m.0 x (h d) p.rest))

run_texts : (s t : State) (acts : List Act) → AreTextActs acts → IsTextState s → run s acts ≡ Some t → IsTextState t
run_texts s t [] x h e = subst IsTextState (same_Some e) h
run_texts s t (a ∷ more) x h e =
    let m = and_then_some (apply_act s a) (λ z. run z more) t e in
    run_texts m.0 t more x.1 (act_texts s m.0 a x.0 h m.1) m.2

entries_texts : (s t : State) (es : List (List Act)) → AreTextEntries es → IsTextState s → run_all s es ≡ Some t → IsTextState t
entries_texts s t [] x h e = subst IsTextState (same_Some e) h
entries_texts s t (acts ∷ rest) x h e =
    let m = and_then_some (run s acts) (λ z. run_all z rest) t e in
    entries_texts m.0 t rest x.1 (run_texts s m.0 acts x.0 h m.1) m.2

replay_texts : (p q : Point) (ds : List DeltaOf) → ((d : DeltaOf) → Mem d ds → AreTextActs (acts_of d)) → IsTextState p.state → replay p ds ≡ Some q → IsTextState q.state
replay_texts p q [] x h e = subst (λ (z : Point). IsTextState z.state) (same_Some e) h
replay_texts p q (d ∷ ds) x h e =
    let m = and_then_some (next_point p d) (λ z. replay z ds) q e in
    let b = after_point p m.0 d m.1 in
    replay_texts m.0 q ds (λ y n. x y (inr n)) (subst IsTextState (sym b.same) (run_texts p.state b.state (acts_of d) (x d (inl refl)) h b.goes)) m.2

empty_texts : IsTextState empty_state
empty_texts d = subst AreTextItems (sym (ap (λ o. unwrap_or o []) (get-empty (slice_cmp nat_cmp) d))) (λ i m. absurd m)

pub shown_texts : (name : Key) (h : List DeltaOf) (subs : List Submission) (k : ClientOf) (f : FollowerOf) → ((d : DeltaOf) → Mem d h → AreTextActs (acts_of d)) → (c : IsFollower name h subs k f) → IsTextState c.sound.shown
shown_texts name h subs k f x c =
    let before : (d : DeltaOf) → Mem d c.here.before → AreTextActs (acts_of d) = λ d m. x d (subst (λ z. Mem d z) c.here.whole (mem_left d c.here.before c.here.behind m)) in
    let here : IsTextState f.here.state = replay_texts (start name) f.here c.here.before before empty_texts c.here.leads in
    entries_texts f.here.state c.sound.shown (pending f) c.text here c.sound.is_shown

-- ---- the edits

append_text : (xs ys : List Action) → AreText xs → AreText ys → AreText (xs ++ ys)
append_text [] ys t s = s
append_text (x ∷ xs) ys t s = (t.0, append_text xs ys t.1 s)

retained_text : (n : ℕ) → AreText (retained n)
retained_text zero = tt
retained_text (suc n) = ((texts_none, tt), retained_text n)

around_text : (before : ℕ) (acts : List Action) (behind : ℕ) → AreText acts → AreText (retained before ++ acts ++ retained behind)
around_text before acts behind t = append_text (retained before ++ acts) (retained behind) (append_text (retained before) acts (retained_text before) t) (retained_text behind)

left_text : (items : List Item) (place : ℕ) → AreTextItems items → AreTextsIn (left_notes items place)
left_text items zero h = texts_empty
left_text items (suc n) h = go (slice_get items n) refl
  where
    go : (o : Option Item) → slice_get items n ≡ o → AreTextsIn (notes_of o)
    go None e = texts_empty
    go (Some i) e = h i (mem_get items n i e)

erased_text : (items : List Item) → AreText (map erase_one items)
erased_text [] = tt
erased_text (i ∷ items) = (names_none, erased_text items)

pub typing_text : (items : List Item) (place n : ℕ) → ((i : Item) → Mem i items → AreTextsIn i.notes) → AreTextActs (Mutates the_document (typing items place (letter n ∷ [])) ∷ [])
typing_text items place n h = (around_text place _ _ (left_text items place h, tt), tt)

pub erasing_text : (items : List Item) (place : ℕ) → AreTextActs (Mutates the_document (erasing items place 1) ∷ [])
erasing_text items place = (around_text place _ _ (erased_text (range items place 1)), tt)

pub inviting_text : AreTextActs (map Adds users)
inviting_text = (tt, (tt, (tt, (tt, tt))))
