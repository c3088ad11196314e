-- Neither the transform nor the composition inserts more items than the operations that they are of.
use Rattle.std.proofs.Common.{◌≡◌, ℕ, zero, suc, ◌+◌, ◌≤◌, ◌&&◌, Bool, cond, List, [], ◌∷◌, Ok, Err, refl, subst, arith}
use Rattle.doc_items.specs.Balance.{level}
use Rattle.doc_items.specs.declared.item.Item.{Item}
use Rattle.doc_op.specs.Actions.{Action, Keep, Ins, Del}
use Rattle.doc_op.specs.Apply.{put_content, keeps, kept, fits}
use Rattle.doc_op.specs.Lengths.{inserted_len}
use Rattle.doc_op.proofs.Lengths.{inserted_len-append}
use Rattle.op_compose.specs.Chains.{follows, then, attributes_back, attributes_follow, attributes_then, names_before, can_precede}
use Rattle.op_compose.specs.Compose.{Composed, ahead, compose}
use Rattle.op_transform.specs.Crossing.{cross, over, under, attributes_cross, attributes_over, attributes_under, names_after, can_follow, delete_alike, delete_all, keep_all}
use Rattle.op_transform.specs.Transform.{Both, Outcome, front, later_inserts, earlier_inserts, transform_from, transform}
use Rattle.op_transform.proofs.Outcomes.{no_ok, same_Ok, fronted, passed_ok}

-- ---- the transform

-- whatever the walk gives inserts so many at most
abbrev pub AtMost : ℕ → ℕ → Outcome → Type 0
AtMost m n r = (p : Both) → r ≡ Ok p → (inserted_len p.0 ≤ m) × (inserted_len p.1 ≤ n)

after_front : (f g : List Action) (r : Outcome) (a b m n : ℕ) → AtMost a b r → inserted_len f + a ≤ m → inserted_len g + b ≤ n → AtMost m n (front f g r)
after_front f g r a b m n rest h k p is =
    let w = fronted f g r p is in
    let s = rest w.value w.had in
    let i = inserted_len-append f w.value.0 in
    let j = inserted_len-append g w.value.1 in
    subst (λ (q : Both). (inserted_len q.0 ≤ m) × (inserted_len q.1 ≤ n)) w.gives (omega (arith, i, s.0, h), omega (arith, j, s.1, k))

after_test : (k : ℕ) (b : Bool) (r : Outcome) (m n : ℕ) → AtMost m n r → AtMost m n (cond b r (Err k))
after_test k b r m n rest p is = rest p (passed_ok k b r p is).rest

later_row : (d : ℕ) (x : Item) (r : Outcome) (a b : ℕ) → AtMost a b r → AtMost (a + 1) b (later_inserts d x r)
later_row zero x r a b rest = after_front (Ins x ∷ []) (keep_all ∷ []) r a b (a + 1) b rest (omega arith) (omega arith)
later_row (suc d) x r a b rest = after_front [] (delete_all x ∷ []) r a b (a + 1) b rest (omega arith) (omega arith)

earlier_row : (b : ℕ) (y : Item) (r : Outcome) (m n : ℕ) → AtMost m n r → AtMost m (n + 1) (earlier_inserts b y r)
earlier_row zero y r m n rest = after_front (keep_all ∷ []) (Ins y ∷ []) r m n m (n + 1) rest (omega arith) (omega arith)
earlier_row (suc b) y r m n rest = after_front (delete_all y ∷ []) [] r m n m (n + 1) rest (omega arith) (omega arith)

small_from : (k b : ℕ) (l : List Action) (d : ℕ) (e : List Action) → AtMost (inserted_len l) (inserted_len e) (transform_from k b l d e)
small_from k b (Ins x ∷ ls) d es = later_row d x _ (inserted_len ls) (inserted_len es) (small_from k b ls d es)
small_from k b [] d [] = λ p is. subst (λ (q : Both). (inserted_len q.0 ≤ 0) × (inserted_len q.1 ≤ 0)) (same_Ok is) (omega arith, omega arith)
small_from k b [] d (Ins y ∷ es) = earlier_row b y _ 0 (inserted_len es) (small_from k b [] d es)
small_from k b (Keep u a ∷ ls) d (Ins y ∷ es) = earlier_row b y _ (inserted_len ls) (inserted_len es) (small_from k b (Keep u a ∷ ls) d es)
small_from k b (Del c n ∷ ls) d (Ins y ∷ es) = earlier_row b y _ (inserted_len ls) (inserted_len es) (small_from k b (Del c n ∷ ls) d es)
small_from k b (Keep u a ∷ ls) d (Keep w o ∷ es) =
    after_test k (cross u w && attributes_cross a o) _ (inserted_len ls) (inserted_len es)
    (after_front (Keep (over u w) (attributes_over a o) ∷ []) (Keep (under w u) (attributes_under o a) ∷ []) (transform_from (suc k) b ls d es) (inserted_len ls) (inserted_len es) (inserted_len ls) (inserted_len es) (small_from (suc k) b ls d es) (omega arith) (omega arith))
small_from k b (Keep u a ∷ ls) d (Del c n ∷ es) =
    after_test k (can_follow c n u a) _ (inserted_len ls) (inserted_len es)
    (after_front [] (Del (put_content a c) (names_after n u) ∷ []) (transform_from (suc k) b ls (level c d) es) (inserted_len ls) (inserted_len es) (inserted_len ls) (inserted_len es) (small_from (suc k) b ls (level c d) es) (omega arith) (omega arith))
small_from k b (Del c n ∷ ls) d (Keep w o ∷ es) =
    after_test k (can_follow c n w o) _ (inserted_len ls) (inserted_len es)
    (after_front (Del (put_content o c) (names_after n w) ∷ []) [] (transform_from (suc k) (level c b) ls d es) (inserted_len ls) (inserted_len es) (inserted_len ls) (inserted_len es) (small_from (suc k) (level c b) ls d es) (omega arith) (omega arith))
small_from k b (Del c n ∷ ls) d (Del p m ∷ es) = after_test k (delete_alike c n p m) _ (inserted_len ls) (inserted_len es) (small_from (suc k) (level c b) ls (level p d) es)
small_from k b [] d (Keep w o ∷ es) = λ p is. no_ok is
small_from k b [] d (Del c m ∷ es) = λ p is. no_ok is
small_from k b (Keep u a ∷ ls) d [] = λ p is. no_ok is
small_from k b (Del c n ∷ ls) d [] = λ p is. no_ok is

pub transform_small : (l e : List Action) (p : Both) → transform l e ≡ Ok p → (inserted_len p.0 ≤ inserted_len l) × (inserted_len p.1 ≤ inserted_len e)
transform_small l e = small_from 0 0 l 0 e

-- ---- the composition

abbrev pub HasAtMost : ℕ → Composed → Type 0
HasAtMost m r = (c : List Action) → r ≡ Ok c → inserted_len c ≤ m

after_ahead : (acts : List Action) (n : ℕ) (r : Composed) (a m : ℕ) → HasAtMost a r → inserted_len acts + a ≤ m → HasAtMost m (ahead acts n r)
after_ahead acts n (Ok more) a m rest h c is = let s = rest more refl in let i = inserted_len-append acts more in subst (λ x. inserted_len x ≤ m) (same_Ok is) (omega (arith, i, s, h))
after_ahead acts n (Err place) a m rest h c is = no_ok is

after_fit : (b : Bool) (r : Composed) (m : ℕ) → HasAtMost m r → HasAtMost m (cond b r (Err 0))
after_fit b r m rest c is = rest c (passed_ok 0 b r c is).rest

pub composed_small : (f s : List Action) → HasAtMost (inserted_len f + inserted_len s) (compose f s)
composed_small (Del c n ∷ f) s = after_ahead (Del c n ∷ []) 0 (compose f s) (inserted_len f + inserted_len s) _ (composed_small f s) (omega arith)
composed_small [] (Ins y ∷ s) = after_ahead (Ins y ∷ []) 0 (compose [] s) (inserted_len s) _ (λ c is. let h = composed_small [] s c is in omega (arith, h)) (omega arith)
composed_small (Ins x ∷ f) (Ins y ∷ s) = after_ahead (Ins y ∷ []) 0 (compose (Ins x ∷ f) s) (inserted_len (Ins x ∷ f) + inserted_len s) _ (composed_small (Ins x ∷ f) s) (omega arith)
composed_small (Keep w o ∷ f) (Ins y ∷ s) = after_ahead (Ins y ∷ []) 0 (compose (Keep w o ∷ f) s) (inserted_len f + inserted_len s) _ (composed_small (Keep w o ∷ f) s) (omega arith)
composed_small (Ins x ∷ f) (Keep u a ∷ s) = after_fit (keeps u a x) _ _ (after_ahead (Ins (kept u a x) ∷ []) 1 (compose f s) (inserted_len f + inserted_len s) _ (composed_small f s) (omega arith))
composed_small (Ins x ∷ f) (Del c n ∷ s) = after_fit (fits c n x) _ _ (after_ahead [] 1 (compose f s) (inserted_len f + inserted_len s) _ (composed_small f s) (omega arith))
composed_small (Keep w o ∷ f) (Keep u a ∷ s) = after_fit (follows w u && attributes_follow o a) _ _ (after_ahead (Keep (then w u) (attributes_then o a) ∷ []) 1 (compose f s) (inserted_len f + inserted_len s) _ (composed_small f s) (omega arith))
composed_small (Keep w o ∷ f) (Del c n ∷ s) = after_fit (can_precede c n w o) _ _ (after_ahead (Del (put_content (attributes_back o) c) (names_before n w) ∷ []) 1 (compose f s) (inserted_len f + inserted_len s) _ (composed_small f s) (omega arith))
composed_small [] [] = λ c is. subst (λ x. inserted_len x ≤ 0 + 0) (same_Ok is) (omega arith)
composed_small [] (Keep u a ∷ s) = λ c is. no_ok is
composed_small [] (Del k n ∷ s) = λ c is. no_ok is
composed_small (Ins x ∷ f) [] = λ c is. no_ok is
composed_small (Keep w o ∷ f) [] = λ c is. no_ok is
