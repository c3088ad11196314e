-- One change more, in place of another, or fewer, in a list with ascending keys.
--     found_later, found_here, found_end     the search for a key
--     inserted, replaced, removed, absent    what the list stands for afterwards, and that its keys still ascend
use Rattle.std.proofs.Common.{◌≡◌, ℕ, zero, suc, ◌+◌, ◌<◌, ◌≤◌, Bool, true, false, cond, List, [], ◌∷◌, ◌++◌, length, take, drop, get_or, set, refl, sym, ap, subst, ◌∙◌, arith, add-one, Option, None, Some, is_eq, Less, Equal, Greater, true≢false, drop-cons}
use Rattle.std.proofs.lemmas.List.{take-append-drop, get_or_default}
use Rattle.std.proofs.Math.Seq.{take-suc}
use Rattle.std.specs.Str.{encode_utf8_all}
use Rattle.std.specs.Ordering.{nat_cmp, is_lt, eq_by_cmp, ordering_reverse}
use Rattle.std.specs.Cmp.Lexicographic.{slice_cmp}
use Rattle.std.proofs.lemmas.Cmp.{nat_list_cmp_total, eq_by_cmp_equiv}
use Rattle.std.specs.FinMap.{get, insert, remove, get-insert, get-remove, get-empty}
use Rattle.doc_items.specs.Maps.{Key}
use Rattle.doc_items.specs.Changes.{KeyChange, ChangeSet, key_change, with_changes, change_set, none_running, before, ascends, same_key, AscendsFrom, IsAscending}
use Rattle.doc_items.specs.declared.change.Change.{Change}
use Rattle.doc_items.proofs.Maps.{alike}
use Rattle.doc_items.proofs.ChangeSets.{at, at-is, key, NoKey, before_trans, before_other, after_less, none_behind, get_past, get_unchanged, with_changes-append}
use Rattle.annotation_track.specs.Spots.{AscendsKey}

-- ---- a list in three parts

abbrev first_or : Option KeyChange → Option KeyChange → Option KeyChange
first_or None y = y
first_or (Some x) y = Some x

first_or_assoc : (x y z : Option KeyChange) → first_or x (first_or y z) ≡ first_or (first_or x y) z
first_or_assoc None y z = refl
first_or_assoc (Some x) y z = refl

first_or_cond : (b : Bool) (c : KeyChange) (y : Option KeyChange) → first_or (cond b (Some c) None) y ≡ cond b (Some c) y
first_or_cond true c y = refl
first_or_cond false c y = refl

get_with : (ys : List Change) (u : ChangeSet) (q : Key) → get (with_changes u ys) q ≡ first_or (get (change_set ys) q) (get u q)
get_with [] u q = sym (ap (λ x. first_or x (get u q)) (get-empty (slice_cmp nat_cmp) q))
get_with (y ∷ ys) u q =
    let k = key y in
    let c = key_change y in
    get_with ys (insert u k c) q
    ∙ ap (first_or (get (change_set ys) q)) (get-insert nat_list_cmp_total u k c q ∙ sym (first_or_cond (at q k) c (get u q)))
    ∙ first_or_assoc (get (change_set ys) q) (cond (at q k) (Some c) None) (get u q)
    ∙ ap (λ x. first_or x (get u q)) (sym (get_with ys (insert none_running k c) q
    ∙ ap (first_or (get (change_set ys) q)) (get-insert nat_list_cmp_total none_running k c q ∙ ap (cond (at q k) (Some c)) (get-empty (slice_cmp nat_cmp) q))))

get_parts : (xs ys : List Change) (q : Key) → get (change_set (xs ++ ys)) q ≡ first_or (get (change_set ys) q) (get (change_set xs) q)
get_parts xs ys q = ap (λ u. get u q) (with_changes-append none_running xs ys) ∙ get_with ys (change_set xs) q

get_middle : (xs ys : List Change) (c : Change) (q : Key) → get (change_set (xs ++ c ∷ ys)) q ≡ first_or (get (change_set ys) q) (cond (at q (key c)) (Some (key_change c)) (get (change_set xs) q))
get_middle xs ys c q =
    ap (λ u. get u q) (with_changes-append none_running xs (c ∷ ys)) ∙ get_with ys (insert (change_set xs) (key c) (key_change c)) q
    ∙ ap (first_or (get (change_set ys) q)) (get-insert nat_list_cmp_total (change_set xs) (key c) (key_change c) q)

-- ---- keys before and after

at_symm : (a b : Key) → at a b ≡ at b a
at_symm a b = (eq_by_cmp_equiv nat_list_cmp_total).symm a b

-- a key of the list after p, with k after all
ascends_head : (p : Option (List ℕ)) (x : Change) (xs : List Change) (k : List ℕ) → AscendsKey p (x ∷ xs) k → before x.key k ≡ true
ascends_head p x [] k h = h.1
ascends_head p x (y ∷ xs) k h = before_trans x.key y.key k h.1.0 (ascends_head (Some x.key) y xs k h.1)

none_before : (p : Option (List ℕ)) (xs : List Change) (k : List ℕ) → AscendsKey p xs k → NoKey (encode_utf8_all k) xs
unfolding NoKey
none_before p [] k h = tt
none_before p (x ∷ xs) k h = (at_symm (encode_utf8_all k) (key x) ∙ before_other x.key k (ascends_head p x xs k h), none_before (Some x.key) xs k h.1)

none_in_both : (q : Key) (xs ys : List Change) → NoKey q xs → NoKey q ys → NoKey q (xs ++ ys)
unfolding NoKey
none_in_both q [] ys h k = k
none_in_both q (x ∷ xs) ys h k = (h.0, none_in_both q xs ys h.1 k)

-- ---- lists that ascend in parts

ascends_joined : (p : Option (List ℕ)) (xs : List Change) (c : Change) (ys : List Change) → AscendsKey p xs c.key → AscendsFrom (Some c.key) ys → AscendsFrom p (xs ++ c ∷ ys)
ascends_joined p [] c ys h k = (h, k)
ascends_joined p (x ∷ xs) c ys h k = (h.0, ascends_joined (Some x.key) xs c ys h.1 k)

-- the keys of the first i changes ascend up to the next
ascends_up_to : (p : Option (List ℕ)) (cs : List Change) (i : ℕ) (c : Change) → AscendsFrom p cs → i < length cs → c ≡ get_or cs i c → AscendsKey p (take i cs) c.key
ascends_up_to p [] i c h lt is = absurd (omega (arith, lt))
ascends_up_to p (x ∷ cs) zero c h lt is = ap (λ (d : Change). ascends p d.key) is ∙ h.0
ascends_up_to p (x ∷ cs) (suc i) c h lt is = (h.0, ascends_up_to (Some x.key) cs i c h.1 (omega (arith, lt)) is)

ascends_after : (p : Option (List ℕ)) (cs : List Change) (i : ℕ) (c : Change) → AscendsFrom p cs → i < length cs → c ≡ get_or cs i c → AscendsFrom (Some c.key) (drop (suc i) cs)
ascends_after p [] i c h lt is = absurd (omega (arith, lt))
ascends_after p (x ∷ cs) zero c h lt is = subst (λ (d : Change). AscendsFrom (Some d.key) cs) (sym is) h.1
ascends_after p (x ∷ cs) (suc i) c h lt is = ascends_after (Some x.key) cs i c h.1 (omega (arith, lt)) is

after_last : (p : Option (List ℕ)) (xs : List Change) (a b : List ℕ) → AscendsKey p xs a → ascends (Some a) b ≡ true → AscendsKey p xs b
after_last None [] a b h e = refl
after_last (Some p) [] a b h e = before_trans p a b h e
after_last p (x ∷ xs) a b h e = (h.0, after_last (Some x.key) xs a b h.1 e)

ascends_snoc : (p : Option (List ℕ)) (xs : List Change) (c : Change) (k : List ℕ) → AscendsKey p xs c.key → before c.key k ≡ true → AscendsKey p (xs ++ c ∷ []) k
ascends_snoc p [] c k h e = (h, e)
ascends_snoc p (x ∷ xs) c k h e = (h.0, ascends_snoc (Some x.key) xs c k h.1 e)

ascends_without : (p : Option (List ℕ)) (xs ys : List Change) (k : List ℕ) → AscendsKey p xs k → AscendsFrom (Some k) ys → AscendsFrom p (xs ++ ys)
ascends_without p [] [] k h a = tt
ascends_without None [] (y ∷ ys) k h a = (refl, a.1)
ascends_without (Some p) [] (y ∷ ys) k h a = (before_trans p k y.key h a.0, a.1)
ascends_without p (x ∷ xs) ys k h a = (h.0, ascends_without (Some x.key) xs ys k h.1 a)

-- keys with equal bytes
same_key-is : (a b : List ℕ) → same_key a b ≡ true → encode_utf8_all a ≡ encode_utf8_all b
same_key-is a b e = at-is (encode_utf8_all a) (encode_utf8_all b) e

AscendsKey-same : (p : Option (List ℕ)) (xs : List Change) (a b : List ℕ) → encode_utf8_all a ≡ encode_utf8_all b → AscendsKey p xs a → AscendsKey p xs b
AscendsKey-same None [] a b e h = refl
AscendsKey-same (Some p) [] a b e h = sym (ap (λ k. is_lt (slice_cmp nat_cmp (encode_utf8_all p) k)) e) ∙ h
AscendsKey-same p (x ∷ xs) a b e h = (h.0, AscendsKey-same (Some x.key) xs a b e h.1)

AscendsFrom-same : (cs : List Change) (a b : List ℕ) → encode_utf8_all a ≡ encode_utf8_all b → AscendsFrom (Some a) cs → AscendsFrom (Some b) cs
AscendsFrom-same [] a b e h = tt
AscendsFrom-same (c ∷ cs) a b e h = (sym (ap (λ k. is_lt (slice_cmp nat_cmp k (key c))) e) ∙ h.0, h.1)

-- ---- what the list stands for afterwards

first_or_none : (x : Option KeyChange) → first_or x None ≡ x
first_or_none None = refl
first_or_none (Some x) = refl

or_same : (x : Option KeyChange) (y z : Option KeyChange) → x ≡ None → y ≡ z → first_or x y ≡ z
or_same x y z e f = ap (λ o. first_or o y) e ∙ f

-- a change between those before its key and those after it
pub inserted : (xs ys : List Change) (c : Change) → AscendsKey None xs c.key → AscendsFrom (Some c.key) ys → change_set (xs ++ c ∷ ys) ≡ insert (change_set (xs ++ ys)) (encode_utf8_all c.key) (key_change c)
inserted xs ys c h k = alike _ _ (λ q.
    get_middle xs ys c q
    ∙ elim (at q (key c)) as (λ b. at q (key c) ≡ b → first_or (get (change_set ys) q) (cond b (Some (key_change c)) (get (change_set xs) q)) ≡ cond b (Some (key_change c)) (first_or (get (change_set ys) q) (get (change_set xs) q))) [
      | true ↦ λ t. or_same (get (change_set ys) q) (Some (key_change c)) (Some (key_change c)) (get_unchanged ys q (subst (λ x. NoKey x ys) (sym (at-is q (key c) t)) (none_behind c.key ys k))) refl
      | false ↦ λ t. refl
    ] refl
    ∙ ap (cond (at q (key c)) (Some (key_change c))) (sym (get_parts xs ys q))
    ∙ sym (get-insert nat_list_cmp_total (change_set (xs ++ ys)) (key c) (key_change c) q))

-- a change fewer, and none of its key is left
pub removed : (xs ys : List Change) (d : Change) (k : Key) → key d ≡ k → NoKey k xs → NoKey k ys → change_set (xs ++ ys) ≡ remove (change_set (xs ++ d ∷ ys)) k
removed xs ys d k e h g = alike _ _ (λ q.
    get_parts xs ys q
    ∙ elim (at q k) as (λ b. at q k ≡ b → first_or (get (change_set ys) q) (get (change_set xs) q) ≡ cond b None (first_or (get (change_set ys) q) (cond b (Some (key_change d)) (get (change_set xs) q)))) [
      | true ↦ λ t. or_same _ _ _ (get_unchanged ys q (subst (λ x. NoKey x ys) (sym (at-is q k t)) g)) (get_unchanged xs q (subst (λ x. NoKey x xs) (sym (at-is q k t)) h))
      | false ↦ λ t. refl
    ] refl
    ∙ ap (cond (at q k) None) (ap (λ x. first_or (get (change_set ys) q) (cond (at q x) (Some (key_change d)) (get (change_set xs) q))) (sym e) ∙ sym (get_middle xs ys d q))
    ∙ sym (get-remove nat_list_cmp_total (change_set (xs ++ d ∷ ys)) k q))

pub absent : (cs : List Change) (k : Key) → NoKey k cs → change_set cs ≡ remove (change_set cs) k
absent cs k h = alike _ _ (λ q.
    elim (at q k) as (λ b. at q k ≡ b → get (change_set cs) q ≡ cond b None (get (change_set cs) q)) [
      | true ↦ λ t. get_unchanged cs q (subst (λ x. NoKey x cs) (sym (at-is q k t)) h)
      | false ↦ λ t. refl
    ] refl
    ∙ sym (get-remove nat_list_cmp_total (change_set cs) k q))

-- a change in place of another of its key
pub replaced : (xs ys : List Change) (c d : Change) → key d ≡ key c → NoKey (key c) ys → change_set (xs ++ c ∷ ys) ≡ insert (change_set (xs ++ d ∷ ys)) (encode_utf8_all c.key) (key_change c)
replaced xs ys c d e h = alike _ _ (λ q.
    get_middle xs ys c q
    ∙ elim (at q (key c)) as (λ b. at q (key c) ≡ b → first_or (get (change_set ys) q) (cond b (Some (key_change c)) (get (change_set xs) q)) ≡ cond b (Some (key_change c)) (first_or (get (change_set ys) q) (cond b (Some (key_change d)) (get (change_set xs) q)))) [
      | true ↦ λ t. or_same _ _ _ (get_unchanged ys q (subst (λ x. NoKey x ys) (sym (at-is q (key c) t)) h)) refl
      | false ↦ λ t. refl
    ] refl
    ∙ ap (cond (at q (key c)) (Some (key_change c))) (ap (λ x. first_or (get (change_set ys) q) (cond (at q x) (Some (key_change d)) (get (change_set xs) q))) (sym e) ∙ sym (get_middle xs ys d q))
    ∙ sym (get-insert nat_list_cmp_total (change_set (xs ++ d ∷ ys)) (key c) (key_change c) q))

-- ---- the search

greater : (a b : List ℕ) → slice_cmp nat_cmp (encode_utf8_all a) (encode_utf8_all b) ≡ Greater → before b a ≡ true
greater a b e = ap is_lt (nat_list_cmp_total.antisymm (encode_utf8_all b) (encode_utf8_all a) ∙ ap ordering_reverse e)

pub found_later : (cs : List Change) (i : ℕ) (c : Change) (k : List ℕ) → IsAscending cs → i < length cs → c ≡ get_or cs i c → slice_cmp nat_cmp (encode_utf8_all k) (encode_utf8_all c.key) ≡ Greater → AscendsKey None (take (i + 1) cs) k
found_later cs i c k h lt is e =
    subst (λ (xs : List Change). AscendsKey None xs k) (sym (ap (λ n. take n cs) (add-one i) ∙ take-suc cs i c lt ∙ ap (λ x. take i cs ++ x ∷ []) (sym is)))
    (ascends_snoc None (take i cs) c k (ascends_up_to None cs i c h lt is) (greater k c.key e))

pub found_before : (cs : List Change) (i : ℕ) (c : Change) (k : List ℕ) → IsAscending cs → i < length cs → c ≡ get_or cs i c → slice_cmp nat_cmp (encode_utf8_all k) (encode_utf8_all c.key) ≡ Less → AscendsFrom (Some k) (drop i cs)
found_before cs i c k h lt is e =
    subst (λ (xs : List Change). AscendsFrom (Some k) xs) (sym (drop-cons cs i c lt ∙ ap (λ x. x ∷ drop (suc i) cs) (sym is)))
    (ap is_lt e, ascends_after None cs i c h lt is)

pub found_here : (a b : List ℕ) → slice_cmp nat_cmp (encode_utf8_all a) (encode_utf8_all b) ≡ Equal → same_key b a ≡ true
found_here a b e = at_symm (encode_utf8_all b) (encode_utf8_all a) ∙ ap is_eq e

-- ---- at an index of the list

some_change : Change
some_change = record { key = []; old = None; new = None }

whole_at : (cs : List Change) (i : ℕ) → i < length cs → cs ≡ take i cs ++ get_or cs i some_change ∷ drop (suc i) cs
whole_at cs i lt = sym (take-append-drop i cs) ∙ ap (λ xs. take i cs ++ xs) (drop-cons cs i some_change lt)

pub removed_at : (cs : List Change) (i : ℕ) (k : List ℕ) → IsAscending cs → i < length cs → ((d : Change) → same_key (get_or cs i d).key k ≡ true)
    → IsAscending (take i cs ++ drop (suc i) cs) × (change_set (take i cs ++ drop (suc i) cs) ≡ remove (change_set cs) (encode_utf8_all k))
removed_at cs i k h lt s =
    let d = get_or cs i some_change in
    let same = same_key-is d.key k (s some_change) in
    let up = ascends_up_to None cs i d h lt (get_or_default cs i some_change d lt) in
    let behind = ascends_after None cs i d h lt (get_or_default cs i some_change d lt) in (
      ascends_without None (take i cs) (drop (suc i) cs) d.key up behind,
      removed (take i cs) (drop (suc i) cs) d (encode_utf8_all k) same
          (subst (λ x. NoKey x (take i cs)) same (none_before None (take i cs) d.key up))
          (subst (λ x. NoKey x (drop (suc i) cs)) same (none_behind d.key (drop (suc i) cs) behind))
          ∙ ap (λ xs. remove (change_set xs) (encode_utf8_all k)) (sym (whole_at cs i lt)),
    )

pub absent_at : (cs : List Change) (i : ℕ) (k : List ℕ) → AscendsKey None (take i cs) k → AscendsFrom (Some k) (drop i cs) → change_set cs ≡ remove (change_set cs) (encode_utf8_all k)
absent_at cs i k h a = absent cs (encode_utf8_all k)
    (subst (λ xs. NoKey (encode_utf8_all k) xs) (take-append-drop i cs) (none_in_both (encode_utf8_all k) (take i cs) (drop i cs) (none_before None (take i cs) k h) (none_behind k (drop i cs) a)))

pub inserted_at : (cs : List Change) (i : ℕ) (c : Change) → AscendsKey None (take i cs) c.key → AscendsFrom (Some c.key) (drop i cs)
    → IsAscending (take i cs ++ c ∷ drop i cs) × (change_set (take i cs ++ c ∷ drop i cs) ≡ insert (change_set cs) (encode_utf8_all c.key) (key_change c))
inserted_at cs i c h a = (
  ascends_joined None (take i cs) c (drop i cs) h a,
  inserted (take i cs) (drop i cs) c h a ∙ ap (λ xs. insert (change_set xs) (encode_utf8_all c.key) (key_change c)) (take-append-drop i cs),
)

set_parts : (cs : List Change) (i : ℕ) (c : Change) → i < length cs → set cs i c ≡ take i cs ++ c ∷ drop (suc i) cs
set_parts [] i c lt = absurd (omega (arith, lt))
set_parts (x ∷ cs) zero c lt = refl
set_parts (x ∷ cs) (suc i) c lt = ap (λ xs. x ∷ xs) (set_parts cs i c (omega (arith, lt)))

pub replaced_at : (cs : List Change) (i : ℕ) (c : Change) → IsAscending cs → i < length cs → ((d : Change) → same_key (get_or cs i d).key c.key ≡ true)
    → IsAscending (set cs i c) × (change_set (set cs i c) ≡ insert (change_set cs) (encode_utf8_all c.key) (key_change c))
replaced_at cs i c h lt s =
    let d = get_or cs i some_change in
    let same = same_key-is d.key c.key (s some_change) in
    let up = AscendsKey-same None (take i cs) d.key c.key same (ascends_up_to None cs i d h lt (get_or_default cs i some_change d lt)) in
    let behind = AscendsFrom-same (drop (suc i) cs) d.key c.key same (ascends_after None cs i d h lt (get_or_default cs i some_change d lt)) in
    let parts = set_parts cs i c lt in (
      subst (λ (xs : List Change). IsAscending xs) (sym parts) (ascends_joined None (take i cs) c (drop (suc i) cs) up behind),
      ap change_set parts ∙ replaced (take i cs) (drop (suc i) cs) c d same (none_behind c.key (drop (suc i) cs) behind)
          ∙ ap (λ xs. insert (change_set xs) (encode_utf8_all c.key) (key_change c)) (sym (whole_at cs i lt)),
    )
