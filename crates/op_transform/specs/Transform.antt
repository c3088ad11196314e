-- The transform of a later and an earlier operation on one document: the later one for the document that the earlier one
-- gives, and the earlier one for the document that the later one gives.
--     Both                   the later operation's result and the earlier one's
--     Outcome                both results, or the number of common items that were passed before the conflict
--     front l e r            the actions l and e stand in front of the results
--     later_inserts d x r    the later operation inserts x where the earlier one has d deleted elements open: x is deleted with
--                            them
--     earlier_inserts b y r      the same for the earlier operation, where the later one has b deleted elements open
--     transform_from k b ls d es     after k common items, where the operations have b and d deleted elements open; where
--                            both insert, the later one comes first
--     transform later earlier    both results, from the start of both operations on
use Rattle.std.specs.Prelude.{ℕ, zero, suc, cond, ◌&&◌, List, [], ◌∷◌, ◌++◌, Result, Ok, Err}
use Rattle.doc_items.specs.Balance.{level}
use Rattle.doc_items.specs.declared.item.Item.{Item}
use Rattle.doc_op.specs.Actions.{Action, Keep, Ins, Del}
use Rattle.doc_op.specs.Apply.{put_content}
use Rattle.op_transform.specs.Crossing.{cross, over, under, attributes_cross, attributes_over, attributes_under, names_after, can_follow, delete_alike, delete_all, keep_all}

abbrev pub Both : Type 0
Both = List Action × List Action

abbrev pub Outcome : Type 0
Outcome = Result Both ℕ

abbrev pub front : List Action → List Action → Outcome → Outcome
front l e (Ok p) = Ok (l ++ p.0, e ++ p.1)
front l e (Err k) = Err k

abbrev pub later_inserts : ℕ → Item → Outcome → Outcome
later_inserts zero x r = front (Ins x ∷ []) (keep_all ∷ []) r
later_inserts (suc d) x r = front [] (delete_all x ∷ []) r

abbrev pub earlier_inserts : ℕ → Item → Outcome → Outcome
earlier_inserts zero y r = front (keep_all ∷ []) (Ins y ∷ []) r
earlier_inserts (suc b) y r = front (delete_all y ∷ []) [] r

abbrev pub transform_from : ℕ → ℕ → List Action → ℕ → List Action → Outcome
transform_from k b (Ins x ∷ ls) d es = later_inserts d x (transform_from k b ls d es)
transform_from k b [] d [] = Ok ([], [])
transform_from k b [] d (Ins y ∷ es) = earlier_inserts b y (transform_from k b [] d es)
transform_from k b (Keep u a ∷ ls) d (Ins y ∷ es) = earlier_inserts b y (transform_from k b (Keep u a ∷ ls) d es)
transform_from k b (Del c n ∷ ls) d (Ins y ∷ es) = earlier_inserts b y (transform_from k b (Del c n ∷ ls) d es)
transform_from k b (Keep u a ∷ ls) d (Keep w o ∷ es) = cond (cross u w && attributes_cross a o)
    (front (Keep (over u w) (attributes_over a o) ∷ []) (Keep (under w u) (attributes_under o a) ∷ []) (transform_from (suc k) b ls d es))
    (Err k)
transform_from k b (Keep u a ∷ ls) d (Del c n ∷ es) = cond (can_follow c n u a)
    (front [] (Del (put_content a c) (names_after n u) ∷ []) (transform_from (suc k) b ls (level c d) es)) (Err k)
transform_from k b (Del c n ∷ ls) d (Keep w o ∷ es) = cond (can_follow c n w o)
    (front (Del (put_content o c) (names_after n w) ∷ []) [] (transform_from (suc k) (level c b) ls d es)) (Err k)
transform_from k b (Del c n ∷ ls) d (Del p m ∷ es) = cond (delete_alike c n p m) (transform_from (suc k) (level c b) ls (level p d) es)
    (Err k)
transform_from k b [] d (Keep w o ∷ es) = Err k
transform_from k b [] d (Del p m ∷ es) = Err k
transform_from k b (Keep u a ∷ ls) d [] = Err k
transform_from k b (Del c n ∷ ls) d [] = Err k

abbrev pub transform : List Action → List Action → Outcome
transform later earlier = transform_from 0 0 later 0 earlier
