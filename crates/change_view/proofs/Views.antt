-- Lists of borrowed changes that stand for a change set.
--     IsViewOf es u      the entries es stand for u
--     viewed, kept       what a view's invariant and value say of its list, and back
--     made_*             what each call makes of such a list
use Rattle.std.proofs.Common.{◌≡◌, ℕ, ◌+◌, ◌<◌, true, List, [], ◌∷◌, ◌++◌, map, length, take, get_or, add-one, refl, sym, ap, subst, ◌∙◌}
use Rattle.std.proofs.Math.Seq.{take-suc}
use Rattle.std.proofs.lemmas.List.{map-append}
use Rattle.std.specs.Ordering.{nat_cmp}
use Rattle.std.specs.Cmp.Lexicographic.{slice_cmp}
use Rattle.std.specs.FinMap.{entries, get-empty}
use Rattle.doc_items.specs.Maps.{Key, Map}
use Rattle.doc_items.specs.Changes.{ChangeSet, none_running, change_set, IsAscending, back}
use Rattle.doc_items.specs.declared.change.Change.{Change}
use Rattle.doc_items.proofs.Maps.{alike}
use Rattle.change_view.specs.declared.entry.ChangeRef.{ChangeRef}
use Rattle.change_view.specs.declared.rule.Rule.{Rule}
use Rattle.change_view.specs.Rules.{combined}
use Rattle.change_view.specs.Sets.{joined, from_absent, as_inserted, as_deleted, one_deleted}
use Rattle.change_view.specs.Texts.{is_text_change, is_text_at, AreTexts}
use Rattle.change_view.specs.Lists.{Entry, value_of, entry_of, of_change, view_of, rises, all_texts, IsView, turned_entry, deleted_entry, fresh_entry, inserted_entries, pairs, made}
use Rattle.change_view.proofs.Rising.{map_of, get_rising}
use Rattle.change_view.proofs.Pairs.{rising_made, made_merge}
use Rattle.change_view.proofs.Single.{rising_mapped, turned_back, deleted_as, rising_inserted, inserted_as, rising_fresh, fresh_from}
use Rattle.change_view.proofs.Sets.{rule_none, texts_joined, texts_back, texts_deleted, texts_inserted}
use Rattle.change_view.proofs.Owned.{rising_ascends, changes_view, texts_view, texts_push}
use Rattle.doc_items.specs.Changes.{turned}

pub record IsViewOf (es : List Entry) (u : ChangeSet) : Type 0 where
  pub rising : rises es ≡ true
  pub texts : AreTexts u
  pub value : map_of es ≡ u

-- the slice of a view's list
pub viewed : (cs ds : List ChangeRef) (u : ChangeSet) → IsView cs → view_of cs ≡ u → ds ≡ cs → IsViewOf (map entry_of ds) u
viewed cs ds u h v s = record {
  rising = ap (λ xs. rises (map entry_of xs)) s ∙ h.0;
  texts = subst AreTexts v h.1;
  value = ap view_of s ∙ v;
}

pub kept : (cs : List ChangeRef) (u : ChangeSet) → IsViewOf (map entry_of cs) u → IsView cs
kept cs u h = (h.rising, subst AreTexts (sym h.value) h.texts)

pub no_entries : map_of [] ≡ none_running
no_entries = alike _ _ (λ q. get_rising [] q refl ∙ sym (get-empty (slice_cmp nat_cmp) q))

pub made_nothing : (cs : List ChangeRef) → cs ≡ [] → IsViewOf (map entry_of cs) none_running
made_nothing cs s = record {
  rising = ap (λ xs. rises (map entry_of xs)) s;
  texts = λ k. ap (is_text_at k) (get-empty (slice_cmp nat_cmp) k);
  value = ap view_of s ∙ no_entries;
}

-- ---- one change more

pub pushed : (xs : List ChangeRef) (r : ChangeRef) (e : Entry) (rest : List Entry) → entry_of r ≡ e → map entry_of (xs ++ r ∷ []) ++ rest ≡ map entry_of xs ++ e ∷ rest
pushed [] r e rest s = ap (λ x. x ∷ rest) s
pushed (x ∷ xs) r e rest s = ap (λ es. entry_of x ∷ es) (pushed xs r e rest s)

pub pushed_texts : (xs : List ChangeRef) (r : ChangeRef) → all_texts (map entry_of xs) ≡ true → is_text_change r.key.now (value_of r) ≡ true → all_texts (map entry_of (xs ++ r ∷ [])) ≡ true
pushed_texts xs r h t = ap all_texts (map-append entry_of xs (r ∷ [])) ∙ texts_push (map entry_of xs) (entry_of r) h t

pub borrowed_next : (cs : List Change) (i : ℕ) (c : Change) → i < length cs → c ≡ get_or cs i c → map of_change (take (i + 1) cs) ≡ map of_change (take i cs) ++ of_change c ∷ []
borrowed_next cs i c lt is = ap (map of_change) (ap (λ n. take n cs) (add-one i) ∙ take-suc cs i c lt) ∙ map-append of_change (take i cs) (get_or cs i c ∷ []) ∙ ap (λ x. map of_change (take i cs) ++ of_change x ∷ []) (sym is)

-- ---- the calls

-- a list in place of an equal one
moved : (ds es : List Entry) (u : ChangeSet) → ds ≡ es → IsViewOf es u → IsViewOf ds u
moved ds es u s h = subst (λ xs. IsViewOf xs u) (sym s) h

pub made_joined : (r : Rule) (ds es fs : List Entry) (u w : ChangeSet) → IsViewOf es u → IsViewOf fs w → ds ≡ made (combined r) (pairs es fs) → IsViewOf ds (joined r u w)
made_joined r ds es fs u w h k s = moved ds _ (joined r u w) s (record {
  rising = rising_made (combined r) es fs h.rising k.rising;
  texts = texts_joined r u w h.texts k.texts;
  value = made_merge (combined r) es fs (rule_none r) h.rising k.rising ∙ (λ i. joined r (h.value i) (k.value i));
})

pub made_turned : (ds es : List Entry) (u : ChangeSet) → IsViewOf es u → ds ≡ map turned_entry es → IsViewOf ds (back u)
made_turned ds es u h s = moved ds _ (back u) s (record {
  rising = rising_mapped (λ e. turned e.1) es ∙ h.rising;
  texts = texts_back u h.texts;
  value = turned_back es h.rising ∙ ap back h.value;
})

pub made_deleted : (ds es : List Entry) (u : ChangeSet) → IsViewOf es u → ds ≡ map deleted_entry es → IsViewOf ds (as_deleted u)
made_deleted ds es u h s = moved ds _ (as_deleted u) s (record {
  rising = rising_mapped (λ e. one_deleted e.1) es ∙ h.rising;
  texts = texts_deleted u h.texts;
  value = deleted_as es h.rising ∙ ap as_deleted h.value;
})

pub made_inserted : (ds es : List Entry) (u : ChangeSet) → IsViewOf es u → ds ≡ inserted_entries es → IsViewOf ds (as_inserted u)
made_inserted ds es u h s = moved ds _ (as_inserted u) s (record {
  rising = rising_inserted es h.rising;
  texts = texts_inserted u h.texts;
  value = inserted_as es h.rising ∙ ap as_inserted h.value;
})

pub made_of : (ds : List Entry) (cs : List Change) → IsAscending cs → ds ≡ map of_change cs → all_texts ds ≡ true → IsViewOf ds (change_set cs)
made_of ds cs h s t =
    let up : rises ds ≡ true = ap rises s ∙ rising_ascends _ cs h in
    let same : map_of ds ≡ change_set cs = ap map_of s ∙ changes_view cs h in
    record { rising = up; texts = subst AreTexts same (texts_view ds up t); value = same }

pub made_from : (ds : List Entry) (m : Map Key) → ds ≡ map fresh_entry (entries m) → all_texts ds ≡ true → IsViewOf ds (from_absent m)
made_from ds m s t =
    let up : rises ds ≡ true = ap rises s ∙ rising_fresh m in
    let same : map_of ds ≡ from_absent m = ap map_of s ∙ fresh_from m in
    record { rising = up; texts = subst AreTexts same (texts_view ds up t); value = same }
