-- Changes that some runs show otherwise than they run.
--     inserted_at, deleted_at     what an insertion and a deletion show at one key
--     others_*                    the others where a change ends, starts, or is noted
--     touches_others              the keys of the others are all that differ
use Rattle.std.proofs.Common.{◌≡◌, ◌≢◌, ℕ, Bool, true, false, cond, List, ◌++◌, Option, None, Some, is_some, option_map, option_and_then, MatchBool, true≢false, Result, Ok, Err, OnOk, OnErr, refl, sym, ap, subst, ◌∙◌}
use Rattle.std.specs.FinMap.{get, insert, remove, get-insert, get-remove, get-empty}
use Rattle.std.specs.Cmp.Lexicographic.{slice_cmp}
use Rattle.std.specs.Ordering.{nat_cmp}
use Rattle.std.proofs.lemmas.Cmp.{nat_list_cmp_total, eq_by_cmp_equiv}
use Rattle.doc_items.specs.Maps.{Key}
use Rattle.std.specs.Str.{encode_utf8_all}
use Rattle.doc_items.specs.Changes.{KeyChange, ChangeSet, none_running, key_change}
use Rattle.doc_items.specs.declared.change.Change.{Change}
use Rattle.doc_items.proofs.Maps.{get-each, get-picked}
use Rattle.doc_items.proofs.ChangeSets.{at, at-is}
use Rattle.change_view.specs.Sets.{one_inserted, one_deleted, as_inserted, as_deleted}
use Rattle.change_view.specs.Texts.{AreTexts, key_list}
use Rattle.change_view.proofs.Boundaries.{among_list}
use Rattle.change_table.specs.Keys.{is_among, Touches}
use Rattle.change_table.specs.Otherwise.{AreOthers, AddsAll, AddsKeysOf}

-- what is shown at one key is made of what runs there
pub record IsByKey (shown : ChangeSet → ChangeSet) (f : Option KeyChange → Option KeyChange) : Type 0 where
  pub here : (u : ChangeSet) (q : Key) → get (shown u) q ≡ f (get u q)
  pub none : f None ≡ None

pub inserted_at : IsByKey as_inserted (option_and_then one_inserted)
inserted_at = record { here = get-picked one_inserted; none = refl }

pub deleted_at : IsByKey as_deleted (option_map one_deleted)
deleted_at = record { here = get-each one_deleted; none = refl }

module _ (shown : ChangeSet → ChangeSet) (f : Option KeyChange → Option KeyChange) (by : IsByKey shown f) where
  -- at a key whose change is shown as it is
  so : (u : ChangeSet) (q : Key) (c : Option KeyChange) → get u q ≡ c → f c ≡ c → get u q ≡ get (shown u) q
  so u q c is same = is ∙ sym same ∙ ap f (sym is) ∙ sym (by.here u q)

  pub others_none : AreOthers shown none_running none_running
  others_none q h = so none_running q None (get-empty (slice_cmp nat_cmp) q) by.none

  -- at another key than the one that changes
  else_where : (u v : ChangeSet) (q : Key) → get v q ≡ get u q → get u q ≡ get (shown u) q → get v q ≡ get (shown v) q
  else_where u v q same h = same ∙ h ∙ by.here u q ∙ ap f (sym same) ∙ sym (by.here v q)

  pub others_removed : (u t : ChangeSet) (k : Key) → AreOthers shown u t → AreOthers shown (remove u k) (remove t k)
  others_removed u t k h q e = go (at q k) refl
    where
      go : (b : Bool) → at q k ≡ b → get (remove u k) q ≡ get (shown (remove u k)) q
      go true i = so (remove u k) q None (get-remove nat_list_cmp_total u k q ∙ ap (λ b. cond b None (get u q)) i) by.none
      go false i =
          else_where u (remove u k) q (get-remove nat_list_cmp_total u k q ∙ ap (λ b. cond b None (get u q)) i)
          (h q (sym (get-remove nat_list_cmp_total t k q ∙ ap (λ b. cond b None (get t q)) i) ∙ e))

  pub others_more : (u t s : ChangeSet) → AreOthers shown u t → ((q : Key) → get s q ≡ None → get t q ≡ None) → AreOthers shown u s
  others_more u t s h more q e = h q (more q e)

  pub others_started : (u t s r : ChangeSet) (k : Key) (c : KeyChange) (b : Bool) → AreOthers shown u t → ((q : Key) → get s q ≡ None → get t q ≡ None) → (b ≡ false → get s k ≢ None)
      → MatchBool b (r ≡ remove s k) (r ≡ s) → (b ≡ true → f (Some c) ≡ Some c) → AreOthers shown (insert u k c) r
  others_started u t s r k c b h more there settled same q e = go b (at q k) there settled same refl
    where
      there_is : get (insert u k c) q ≡ cond (at q k) (Some c) (get u q)
      there_is = get-insert nat_list_cmp_total u k c q

      left : (b : Bool) → MatchBool b (r ≡ remove s k) (r ≡ s) → at q k ≡ false → get s q ≡ None
      left true m i = sym (get-remove nat_list_cmp_total s k q ∙ ap (λ x. cond x None (get s q)) i) ∙ ap (λ x. get x q) (sym m) ∙ e
      left false m i = ap (λ x. get x q) (sym m) ∙ e

      go : (b i : Bool) → (b ≡ false → get s k ≢ None) → MatchBool b (r ≡ remove s k) (r ≡ s) → (b ≡ true → f (Some c) ≡ Some c) → at q k ≡ i → get (insert u k c) q ≡ get (shown (insert u k c)) q
      go true true t m d i = so (insert u k c) q (Some c) (there_is ∙ ap (λ x. cond x (Some c) (get u q)) i) (d refl)
      go false true t m d i = absurd (t refl (ap (get s) (sym (at-is q k i)) ∙ ap (λ x. get x q) (sym m) ∙ e))
      go b false t m d i = else_where u (insert u k c) q (there_is ∙ ap (λ x. cond x (Some c) (get u q)) i) (h q (more q (left b m i)))

  pub touches_others : (u t : ChangeSet) (old new : Option (List (List ℕ))) → AreOthers shown u t → AddsKeysOf t old new → Touches old u new (shown u)
  touches_others u t None new h a = a
  touches_others u t (Some ks) None h a = absurd a
  touches_others u t (Some ks) (Some ls) h a = record { more = a.more; is = a.is; kept = λ q e. h q (a.all q e) }

none_there : {A : Type 0} (o : Option A) → is_some o ≡ false → o ≡ None
none_there None h = refl
none_there (Some x) h = absurd (true≢false h)

-- the keys of changes that are texts
pub keys_added : (t : ChangeSet) (ks more : List (List ℕ)) → AreTexts t → more ≡ key_list t → AddsAll t ks (ks ++ more)
keys_added t ks more texts is = record {
  more = more;
  is = refl;
  all = λ q e. none_there (get t q) (sym (among_list q t texts) ∙ ap (λ l. is_among l q) (sym is) ∙ e);
}

pub keys_of_others : (t v : ChangeSet) (old new : Option (List (List ℕ))) (more : List (List ℕ)) → v ≡ t → AreTexts v → more ≡ key_list v → new ≡ option_map (λ ks. ks ++ more) old → AddsKeysOf t old new
keys_of_others t v None new more is texts keys e = e
keys_of_others t v (Some ks) new more is texts keys e =
    subst (AddsKeysOf t (Some ks)) (sym e) (subst (λ x. AddsAll x ks (ks ++ more)) is (keys_added v ks more texts keys))

-- ---- a key that is noted

pub noted_more : {E : Type 0} (r : Result (Unit {0}) E) (old new : ChangeSet) (k : Key) (c : KeyChange) → OnOk r (new ≡ insert old k c) → OnErr r (new ≡ old) → (q : Key) → get new q ≡ None → get old q ≡ None
noted_more (Ok x) old new k c ok kept q e = go (at q k) (sym (ap (λ u. get u q) ok ∙ get-insert nat_list_cmp_total old k c q) ∙ e)
  where
    go : (b : Bool) → cond b (Some c) (get old q) ≡ None → get old q ≡ None
    go true i = absurd (true≢false (ap is_some i))
    go false i = i
noted_more (Err x) old new k c ok kept q e = ap (λ u. get u q) (sym kept) ∙ e

at_same : (k : Key) → at k k ≡ true
at_same k = (eq_by_cmp_equiv nat_list_cmp_total).refl k

pub noted_there : (old new : ChangeSet) (d e : Change) → d ≡ e → new ≡ insert old (encode_utf8_all d.key) (key_change d) → get new (encode_utf8_all e.key) ≢ None
noted_there old new d e same is none =
    let k = encode_utf8_all e.key in
    let is_e : new ≡ insert old k (key_change e) = is ∙ ap (λ (x : Change). insert old (encode_utf8_all x.key) (key_change x)) same in
    let there : get new k ≡ cond (at k k) (Some (key_change e)) (get old k) = ap (λ u. get u k) is_e ∙ get-insert nat_list_cmp_total old k (key_change e) k in
    true≢false (ap is_some (ap (λ b. cond b (Some (key_change e)) (get old k)) (sym (at_same k)) ∙ sym there ∙ none))
