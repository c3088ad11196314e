-- From written changes to others: what ends and what changes, gathered at the keys at which they may differ.
--     has_none, gathered_next     nothing is gathered at first, and then key by key
--     turned            the boundary of all that ends and changes leads from the ones to the others
--     both_empty, agree_everywhere     two sets that are the same
--     turned_within               the boundary of what is gathered leads from the ones to the others
use Rattle.std.proofs.Common.{◌≡◌, ℕ, ◌+◌, ◌<◌, ◌≤◌, ◌&&◌, ◌||◌, ◌==◌, Bool, true, false, cond, List, [], ◌∷◌, length, take, get_or, add-one, arith, refl, sym, ap, subst, ◌∙◌, true≢false, is_some, Option, None, Some}
use Rattle.std.proofs.Math.Seq.{take-suc}
use Rattle.std.proofs.lemmas.Bool.{eqb-true}
use Rattle.std.proofs.lemmas.List.{take_all}
use Rattle.std.specs.Ordering.{nat_cmp}
use Rattle.std.specs.Cmp.Lexicographic.{slice_cmp}
use Rattle.std.specs.Str.{encode_utf8_all}
use Rattle.std.specs.FinMap.{get, len, entries, find, get-empty, get-insert, get-entries, len-entries, len-empty}
use Rattle.std.proofs.lemmas.Cmp.{nat_list_cmp_total}
use Rattle.doc_items.specs.Maps.{Key, merge}
use Rattle.doc_items.specs.Changes.{KeyChange, ChangeSet, none_running, Fits, after_boundary}
use Rattle.doc_items.specs.declared.change.Boundary.{Boundary}
use Rattle.doc_items.proofs.Maps.{alike, get-merge, matches_all}
use Rattle.doc_items.proofs.ChangeSets.{at, at-is}
use Rattle.change_view.specs.Rules.{one_under, one_unlike, same_change}
use Rattle.change_view.specs.Sets.{same_one, same_changes}
use Rattle.change_view.specs.Texts.{AreTexts, key_list, change_list, boundary_between}
use Rattle.change_view.specs.Lists.{Entry}
use Rattle.change_view.proofs.Sets.{same_change-is, same_change-refl, same_changes-is, same_changes-refl}
use Rattle.change_view.proofs.Boundaries.{after_written, fits_written}
use Rattle.change_table.specs.Keys.{is_among, AgreeBut}
use Rattle.change_table.specs.Turns.{with_change, HasAmong, Between, IsBetween}
use Rattle.change_table.specs.Joints.{IsTurn, IsTurnTo}
use Rattle.change_table.proofs.Agreement.{among_append}

-- ---- key by key

pub has_none : (v w : ChangeSet) → w ≡ none_running → HasAmong [] v w
has_none v w s q = ap (λ x. get x q) s ∙ get-empty (slice_cmp nat_cmp) q

-- at one key more: b says whether it is this key, a whether it was among those before
has_one : (a b : Bool) (c x y : Option KeyChange) → (b ≡ true → c ≡ x) → y ≡ cond a x None → cond b c y ≡ cond (a || (b || false)) x None
has_one true true c x y s e = s refl
has_one false true c x y s e = s refl
has_one true false c x y s e = e
has_one false false c x y s e = e

-- where nothing is added at the key, there was nothing before
has_same : (a b : Bool) (x y : Option KeyChange) → (b ≡ true → x ≡ None) → y ≡ cond a x None → y ≡ cond (a || (b || false)) x None
has_same true b x y s e = e
has_same false true x y s e = e ∙ sym (s refl)
has_same false false x y s e = e

added : (ks : List (List ℕ)) (k : Key) (v w : ChangeSet) (c : Option KeyChange) → c ≡ get v k → HasAmong ks v w → (q : Key)
    → get (with_change w k c) q ≡ cond (is_among ks q || (at q k || false)) (get v q) None
added ks k v w None s h q = has_same (is_among ks q) (at q k) (get v q) (get w q) (λ t. ap (get v) (at-is q k t) ∙ sym s) (h q)
added ks k v w (Some c) s h q =
    get-insert nat_list_cmp_total w k c q
    ∙ has_one (is_among ks q) (at q k) (Some c) (get v q) (get w q) (λ t. s ∙ ap (get v) (sym (at-is q k t))) (h q)

has_next : (ks : List (List ℕ)) (i : ℕ) (k : List ℕ) (v w x : ChangeSet) (c : Option KeyChange) → i < length ks → k ≡ get_or ks i k → x ≡ with_change w (encode_utf8_all k) c → c ≡ get v (encode_utf8_all k)
    → HasAmong (take i ks) v w → HasAmong (take (i + 1) ks) v x
has_next ks i k v w x c lt is n s h q =
    ap (λ m. get m q) n ∙ added (take i ks) (encode_utf8_all k) v w c s h q
    ∙ ap (λ b. cond b (get v q) None) (ap (λ l. is_among (take i ks) q || (at q (encode_utf8_all l) || false)) is ∙ sym (among_append (take i ks) (get_or ks i k ∷ []) q))
    ∙ ap (λ l. cond (is_among l q) (get v q) None) (sym (ap (λ j. take j ks) (add-one i) ∙ take-suc ks i k lt))

pub gathered_next : (f : Option KeyChange → Option KeyChange → Option KeyChange) (ks : List (List ℕ)) (i : ℕ) (k : List ℕ) (bs : Key) (u w m x : ChangeSet) (a b : Option KeyChange) → f None None ≡ None
    → i < length ks → k ≡ get_or ks i k → bs ≡ encode_utf8_all k → a ≡ get u bs → b ≡ get w bs → x ≡ with_change m bs (f a b)
    → HasAmong (take i ks) (merge f u w) m → HasAmong (take (i + 1) ks) (merge f u w) x
gathered_next f ks i k bs u w m x a b z lt is e p r n h = has_next ks i k (merge f u w) m x (f a b) lt is (n ∙ ap (λ q. with_change m q (f a b)) e)
    ((λ j. f (p j) (r j)) ∙ sym (get-merge f u w bs z) ∙ ap (get (merge f u w)) e) h

covered : (b : Bool) (x : Option KeyChange) → (b ≡ false → x ≡ None) → cond b x None ≡ x
covered true x h = refl
covered false x h = sym (h refl)

has_all : (ks : List (List ℕ)) (v w : ChangeSet) → HasAmong ks v w → ((q : Key) → is_among ks q ≡ false → get v q ≡ None) → w ≡ v
has_all ks v w h n = alike _ _ (λ q. h q ∙ covered (is_among ks q) (get v q) (n q))

-- ---- where both have the same

under_same : (u : Option KeyChange) → one_under u u ≡ None
under_same None = refl
under_same (Some c) = refl

unlike_same : (u : Option KeyChange) → one_unlike u u ≡ None
unlike_same None = refl
unlike_same (Some c) = ap (λ b. cond b None (Some c)) (same_change-refl c)

none_under : (ks : List (List ℕ)) (u w : ChangeSet) → AgreeBut ks u w → (q : Key) → is_among ks q ≡ false → get (merge one_under u w) q ≡ None
none_under ks u w h q e = get-merge one_under u w q refl ∙ ap (λ x. one_under x (get w q)) (h q e) ∙ under_same (get w q)

none_unlike : (ks : List (List ℕ)) (u w : ChangeSet) → AgreeBut ks u w → (q : Key) → is_among ks q ≡ false → get (merge one_unlike w u) q ≡ None
none_unlike ks u w h q e = get-merge one_unlike w u q refl ∙ ap (one_unlike (get w q)) (h q e) ∙ unlike_same (get w q)

-- ---- the boundary

none_left : (es : List Entry) → length es ≡ 0 → es ≡ []
none_left [] e = refl
none_left (x ∷ es) e = absurd (omega arith)

empty_of : (m : ChangeSet) → len m ≡ 0 → m ≡ none_running
empty_of m e = alike _ _ (λ q. get-entries m q ∙ ap (find (slice_cmp nat_cmp) q) (none_left (entries m) (sym (len-entries m) ∙ e)) ∙ sym (get-empty (slice_cmp nat_cmp) q))

unlike_none : (b : Bool) (c d : KeyChange) → same_change c d ≡ b → cond b None (Some c) ≡ None → same_change d c ≡ true
unlike_none true c d e h = ap (λ x. same_change d x) (same_change-is c d e) ∙ same_change-refl d
unlike_none false c d e h = absurd (true≢false (ap is_some h))

one_same : (u w : Option KeyChange) → one_under u w ≡ None → one_unlike w u ≡ None → same_one u w ≡ true
one_same None None h g = refl
one_same None (Some w) h g = absurd (true≢false (ap is_some g))
one_same (Some u) None h g = absurd (true≢false (ap is_some h))
one_same (Some u) (Some w) h g = unlike_none (same_change w u) w u refl g

no_turn : (u w e c : ChangeSet) → e ≡ merge one_under u w → c ≡ merge one_unlike w u → len e ≡ 0 → len c ≡ 0 → same_changes u w ≡ true
no_turn u w e c s t p r = matches_all same_one u w (λ q. one_same (get u q) (get w q)
    (sym (get-merge one_under u w q refl) ∙ ap (λ m. get m q) (sym s ∙ empty_of e p) ∙ get-empty (slice_cmp nat_cmp) q)
    (sym (get-merge one_unlike w u q refl) ∙ ap (λ m. get m q) (sym t ∙ empty_of c r) ∙ get-empty (slice_cmp nat_cmp) q))

nothing_left : (m : ChangeSet) → ((q : Key) → get m q ≡ None) → len m ≡ 0
nothing_left m h = ap len (alike m none_running (λ q. h q ∙ sym (get-empty (slice_cmp nat_cmp) q))) ∙ len-empty (slice_cmp nat_cmp) KeyChange

nothing_differs : (u w e c : ChangeSet) → e ≡ merge one_under u w → c ≡ merge one_unlike w u → u ≡ w → (len e == 0 && len c == 0) ≡ true
nothing_differs u w e c s t h =
    let p : len e ≡ 0 = nothing_left e (λ q. ap (λ m. get m q) s ∙ none_under [] u w (λ k x. ap (λ m. get m k) h) q refl) in
    let r : len c ≡ 0 = nothing_left c (λ q. ap (λ m. get m q) t ∙ none_unlike [] u w (λ k x. ap (λ m. get m k) h) q refl) in
    λ i. p i == 0 && r i == 0

differs : (b : Bool) → (b ≡ true → ⊥) → b ≡ false
differs true h = absurd (h refl)
differs false h = refl

-- two sets without changes, and two that have the same at each key
pub both_empty : (u w : ChangeSet) → (len u == 0) ≡ true → (len w == 0) ≡ true → same_changes u w ≡ true
both_empty u w h k =
    ap (same_changes u) (empty_of w (eqb-true (len w) 0 k) ∙ sym (empty_of u (eqb-true (len u) 0 h))) ∙ same_changes-refl u

pub agree_everywhere : (ks : List (List ℕ)) (u w : ChangeSet) → (length ks == 0) ≡ true → AgreeBut ks u w → same_changes u w ≡ true
agree_everywhere ks u w e h = ap (same_changes u) (sym (alike u w (λ q. h q (ap (λ ls. is_among ls q) (no_key ks (eqb-true (length ks) 0 e)))))) ∙ same_changes-refl u
  where
    no_key : (ls : List (List ℕ)) → length ls ≡ 0 → ls ≡ []
    no_key [] z = refl
    no_key (k ∷ ls) z = absurd (omega (arith, z))

turn_to : (u w e c : ChangeSet) (b : Boundary) → e ≡ merge one_under u w → c ≡ merge one_unlike w u → Between b e c → IsTurnTo b u w
turn_to u w e c b s t h =
    let p = subst AreTexts s h.ended in
    let r = subst AreTexts t h.changed in
    let v : b ≡ boundary_between u w = h.value ∙ (λ i. record { end = key_list (s i); change = change_list (t i) }) in
    record {
      differ = differs (same_changes u w) (λ x. true≢false (sym (nothing_differs u w e c s t (same_changes-is u w x)) ∙ h.some));
      value = v;
      fits = subst (Fits u) (sym v) (fits_written u w p r);
      after = ap (after_boundary u) v ∙ after_written u w p r;
    }

pub turned : (t : Option Boundary) (u w e c : ChangeSet) → e ≡ merge one_under u w → c ≡ merge one_unlike w u → IsBetween t e c → IsTurn t u w
turned None u w e c s r h = no_turn u w e c s r h.0 h.1
turned (Some b) u w e c s r h = turn_to u w e c b s r h

pub turned_within : (ks : List (List ℕ)) (i : ℕ) (t : Option Boundary) (u w e c : ChangeSet) → length ks ≤ i → AgreeBut ks u w → HasAmong (take i ks) (merge one_under u w) e × HasAmong (take i ks) (merge one_unlike w u) c
    → IsBetween t e c → IsTurn t u w
turned_within ks i t u w e c le a h b =
    let whole : take i ks ≡ ks = take_all i ks le in
    turned t u w e c
    (has_all ks (merge one_under u w) e (subst (λ ls. HasAmong ls (merge one_under u w) e) whole h.0) (none_under ks u w a))
    (has_all ks (merge one_unlike w u) c (subst (λ ls. HasAmong ls (merge one_unlike w u) c) whole h.1) (none_unlike ks u w a)) b
