-- What runs over the last of some actions.
--     shown_more       of actions in a row
--     shown_mapped     of actions over each of which the same is shown
--     shown_copies     of one action, so many times
--     shown_kept       of items that are kept
use Rattle.std.proofs.Common.{◌≡◌, ℕ, zero, suc, ◌<◌, List, [], ◌∷◌, ◌++◌, length, map, replicate, refl, ◌∙◌, arith}
use Rattle.doc_items.specs.Changes.{ChangeSet, none_running}
use Rattle.doc_op.specs.Actions.{AttributeChange, Action, Keep}
use Rattle.doc_op.specs.Normal.{shown, shown_after, shown_last}

pub shown_more : (u : ChangeSet) (xs ys : List Action) → shown_after u (xs ++ ys) ≡ shown_after (shown_after u xs) ys
shown_more u [] ys = refl
shown_more u (x ∷ xs) ys = shown_more (shown x) xs ys

-- where the same is shown over each
pub shown_mapped : {X : Type 0} (f : X → Action) (xs : List X) (w : ChangeSet) → ((x : X) → shown (f x) ≡ w) → 0 < length xs → (u : ChangeSet) → shown_after u (map f xs) ≡ w
shown_mapped f [] w e h u = absurd (omega (arith, h))
shown_mapped f (x ∷ []) w e h u = e x
shown_mapped f (x ∷ y ∷ xs) w e h u = shown_mapped f (y ∷ xs) w e (omega arith) (shown (f x))

pub shown_copies : (n : ℕ) (w : ChangeSet) (a : AttributeChange) → 0 < n → (u : ChangeSet) → shown_after u (replicate n (Keep w a)) ≡ w
shown_copies zero w a h u = absurd (omega (arith, h))
shown_copies (suc zero) w a h u = refl
shown_copies (suc (suc n)) w a h u = shown_copies (suc n) w a (omega arith) w

pub shown_kept : (acts : List Action) (n : ℕ) (u : ChangeSet) (a : AttributeChange) → 0 < n → shown_last (acts ++ replicate n (Keep u a)) ≡ u
shown_kept acts n u a h = shown_more none_running acts (replicate n (Keep u a)) ∙ shown_copies n u a h (shown_last acts)
