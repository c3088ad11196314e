-- The transform makes no update without a key, which has no spelling.
--     IsFull, AreFull     each update has a key
--     are_full            so it is of both results, where it is of both operations
use Rattle.std.proofs.Common.{◌≡◌, ◌≢◌, ℕ, zero, suc, ◌&&◌, true, false, cond, List, [], ◌∷◌, refl, sym, ap, subst, ◌∙◌, Option, None, Some, Ok}
use Rattle.std.specs.FinMap.{get, get-empty}
use Rattle.std.specs.Ordering.{nat_cmp}
use Rattle.std.specs.Cmp.Lexicographic.{slice_cmp}
use Rattle.doc_items.specs.Balance.{level}
use Rattle.doc_items.specs.Changes.{KeyChange, ChangeSet, none_running}
use Rattle.doc_items.specs.Maps.{Key, Map}
use Rattle.doc_items.specs.declared.item.Item.{Item}
use Rattle.doc_items.proofs.Maps.{get-merge, alike}
use Rattle.change_view.specs.Rules.{one_over}
use Rattle.change_view.specs.Sets.{one_from, start_at}
use Rattle.doc_op.specs.Actions.{AttributeChange, Unchanged, Update, Replace, Action, Keep, Ins, Del}
use Rattle.doc_op.specs.Apply.{put_content}
use Rattle.doc_op.proofs.Applying.{no_value}
use Rattle.op_transform.specs.Crossing.{cross, over, under, is_empty, update_if_any, attributes_cross, attributes_over, attributes_under, names_after, can_follow, delete_alike, delete_all, keep_all}
use Rattle.op_transform.specs.Transform.{Both, front, later_inserts, earlier_inserts, transform_from, transform}
use Rattle.op_transform.proofs.Keys.{not_empty}
use Rattle.op_transform.proofs.Outcomes.{no_ok, same_Ok, fronted, passed_ok}

abbrev pub IsFullChange : AttributeChange → Type 0
IsFullChange Unchanged = Unit {0}
IsFullChange (Update c) = c ≢ none_running
IsFullChange (Replace m n) = Unit {0}

abbrev pub IsFull : Action → Type 0
IsFull (Keep u a) = IsFullChange a
IsFull (Ins x) = Unit {0}
IsFull (Del c n) = Unit {0}

abbrev pub AreFull : List Action → Type 0
AreFull [] = Unit {0}
AreFull (a ∷ acts) = IsFull a × AreFull acts

-- ---- attribute changes

at_none : (c : ChangeSet) (q : Key) → c ≡ none_running → get c q ≡ None
at_none c q e = ap (λ x. get x q) e ∙ get-empty (slice_cmp nat_cmp) q

none_over : (u w : Option KeyChange) → one_over u w ≡ None → u ≡ None
none_over None w e = refl
none_over (Some u) None e = no_value (sym e)
none_over (Some u) (Some w) e = no_value (sym e)

none_from : (u : Option KeyChange) (v : Option Key) → one_from u v ≡ None → u ≡ None
none_from None v e = refl
none_from (Some u) v e = no_value (sym e)

all_absent : (c : ChangeSet) → ((q : Key) → get c q ≡ None) → c ≡ none_running
all_absent c h = alike c none_running (λ q. h q ∙ sym (get-empty (slice_cmp nat_cmp) q))

over_full : (u w : ChangeSet) → u ≢ none_running → over u w ≢ none_running
over_full u w h e = h (all_absent u (λ q. none_over (get u q) (get w q) (sym (get-merge one_over u w q refl) ∙ at_none (over u w) q e)))

start_full : (u : ChangeSet) (m : Map Key) → u ≢ none_running → start_at u m ≢ none_running
start_full u m h e = h (all_absent u (λ q. none_from (get u q) (get m q) (sym (get-merge one_from u m q refl) ∙ at_none (start_at u m) q e)))

any_full : (c : ChangeSet) → IsFullChange (update_if_any c)
unfolding is_empty
any_full c = elim (is_empty c) as (λ b. is_empty c ≡ b → IsFullChange (cond b Unchanged (Update c))) [
  | true ↦ λ e. tt
  | false ↦ λ e. not_empty c e
] refl

change_over_full : (a b : AttributeChange) → IsFullChange a → IsFullChange (attributes_over a b)
change_over_full Unchanged b h = tt
change_over_full (Update u) Unchanged h = h
change_over_full (Update u) (Update w) h = over_full u w h
change_over_full (Update u) (Replace m n) h = start_full u n h
change_over_full (Replace m n) b h = tt

change_under_full : (b a : AttributeChange) → IsFullChange b → IsFullChange (attributes_under b a)
change_under_full Unchanged Unchanged h = tt
change_under_full Unchanged (Update u) h = tt
change_under_full Unchanged (Replace m n) h = tt
change_under_full (Update w) Unchanged h = h
change_under_full (Update w) (Update u) h = any_full (under w u)
change_under_full (Update w) (Replace m n) h = tt
change_under_full (Replace m n) Unchanged h = tt
change_under_full (Replace m n) (Update u) h = tt
change_under_full (Replace m n) (Replace o p) h = tt

-- ---- the walk

abbrev pub BothFull : Both → Type 0
BothFull p = AreFull p.0 × AreFull p.1

later_full : (d : ℕ) (x : Item) (k b : ℕ) (ls es : List Action) (p : Both) → later_inserts d x (transform_from k b ls d es) ≡ Ok p
    → ((q : Both) → transform_from k b ls d es ≡ Ok q → BothFull q) → BothFull p
later_full zero x k b ls es p is rest =
    let m = fronted (Ins x ∷ []) (keep_all ∷ []) (transform_from k b ls 0 es) p is in
    let r = rest m.value m.had in subst BothFull m.gives ((tt, r.0), (tt, r.1))
later_full (suc d) x k b ls es p is rest =
    let m = fronted [] (delete_all x ∷ []) (transform_from k b ls (suc d) es) p is in
    let r = rest m.value m.had in subst BothFull m.gives (r.0, (tt, r.1))

earlier_full : (b : ℕ) (y : Item) (k d : ℕ) (ls es : List Action) (p : Both) → earlier_inserts b y (transform_from k b ls d es) ≡ Ok p
    → ((q : Both) → transform_from k b ls d es ≡ Ok q → BothFull q) → BothFull p
earlier_full zero y k d ls es p is rest =
    let m = fronted (keep_all ∷ []) (Ins y ∷ []) (transform_from k 0 ls d es) p is in
    let r = rest m.value m.had in subst BothFull m.gives ((tt, r.0), (tt, r.1))
earlier_full (suc b) y k d ls es p is rest =
    let m = fronted (delete_all y ∷ []) [] (transform_from k (suc b) ls d es) p is in
    let r = rest m.value m.had in subst BothFull m.gives ((tt, r.0), r.1)

full_from : (k b : ℕ) (ls : List Action) (d : ℕ) (es : List Action) (p : Both) → AreFull ls → AreFull es → transform_from k b ls d es ≡ Ok p → BothFull p
full_from k b (Ins x ∷ ls) d es p f g is = later_full d x k b ls es p is (λ q. full_from k b ls d es q f.1 g)
full_from k b [] d [] p f g is = subst BothFull (same_Ok is) (tt, tt)
full_from k b [] d (Ins y ∷ es) p f g is = earlier_full b y k d [] es p is (λ q. full_from k b [] d es q f g.1)
full_from k b (Keep u a ∷ ls) d (Ins y ∷ es) p f g is = earlier_full b y k d (Keep u a ∷ ls) es p is (λ q. full_from k b (Keep u a ∷ ls) d es q f g.1)
full_from k b (Del c n ∷ ls) d (Ins y ∷ es) p f g is = earlier_full b y k d (Del c n ∷ ls) es p is (λ q. full_from k b (Del c n ∷ ls) d es q f g.1)
full_from k b (Keep u a ∷ ls) d (Keep w o ∷ es) p f g is =
    let x : Action = Keep (over u w) (attributes_over a o) in
    let y : Action = Keep (under w u) (attributes_under o a) in
    let t = passed_ok k (cross u w && attributes_cross a o) (front (x ∷ []) (y ∷ []) (transform_from (suc k) b ls d es)) p is in
    let m = fronted (x ∷ []) (y ∷ []) (transform_from (suc k) b ls d es) p t.rest in
    let r = full_from (suc k) b ls d es m.value f.1 g.1 m.had in
    subst BothFull m.gives ((change_over_full a o f.0, r.0), (change_under_full o a g.0, r.1))
full_from k b (Keep u a ∷ ls) d (Del c n ∷ es) p f g is =
    let y : Action = Del (put_content a c) (names_after n u) in
    let t = passed_ok k (can_follow c n u a) (front [] (y ∷ []) (transform_from (suc k) b ls (level c d) es)) p is in
    let m = fronted [] (y ∷ []) (transform_from (suc k) b ls (level c d) es) p t.rest in
    let r = full_from (suc k) b ls (level c d) es m.value f.1 g.1 m.had in
    subst BothFull m.gives (r.0, (tt, r.1))
full_from k b (Del c n ∷ ls) d (Keep w o ∷ es) p f g is =
    let x : Action = Del (put_content o c) (names_after n w) in
    let t = passed_ok k (can_follow c n w o) (front (x ∷ []) [] (transform_from (suc k) (level c b) ls d es)) p is in
    let m = fronted (x ∷ []) [] (transform_from (suc k) (level c b) ls d es) p t.rest in
    let r = full_from (suc k) (level c b) ls d es m.value f.1 g.1 m.had in
    subst BothFull m.gives ((tt, r.0), r.1)
full_from k b (Del c n ∷ ls) d (Del e m ∷ es) p f g is =
    let t = passed_ok k (delete_alike c n e m) (transform_from (suc k) (level c b) ls (level e d) es) p is in
    full_from (suc k) (level c b) ls (level e d) es p f.1 g.1 t.rest
full_from k b [] d (Keep w o ∷ es) p f g is = no_ok is
full_from k b [] d (Del c n ∷ es) p f g is = no_ok is
full_from k b (Keep u a ∷ ls) d [] p f g is = no_ok is
full_from k b (Del c n ∷ ls) d [] p f g is = no_ok is

pub are_full : (l e : List Action) (p : Both) → AreFull l → AreFull e → transform l e ≡ Ok p → BothFull p
are_full l e p f g is = full_from 0 0 l 0 e p f g is
