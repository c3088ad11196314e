-- The composition of two operations, the second on what the first gives.
--     Composed            the actions, or else the place where it isn't defined: the number of items that the first gives and
--                         the second takes before it
--     ahead acts n r      these actions in front of what the rest gives, and n such items passed
--     compose f s         f and then s, action by action
--     defined r           the actions, where it is defined
use Rattle.std.specs.Prelude.{ℕ, ◌+◌, cond, ◌&&◌, List, [], ◌∷◌, ◌++◌, Option, None, Some, Result, Ok, Err}
use Rattle.doc_op.specs.Actions.{Action, Keep, Ins, Del}
use Rattle.doc_op.specs.Apply.{put_content, keeps, kept, fits}
use Rattle.op_compose.specs.Chains.{follows, then, attributes_back, attributes_follow, attributes_then, names_before, can_precede}

abbrev pub Composed : Type 0
Composed = Result (List Action) ℕ

abbrev pub ahead : List Action → ℕ → Composed → Composed
ahead acts n (Ok more) = Ok (acts ++ more)
ahead acts n (Err place) = Err (n + place)

abbrev pub compose : List Action → List Action → Composed
compose (Del c n ∷ f) s = ahead (Del c n ∷ []) 0 (compose f s)
compose [] (Ins y ∷ s) = ahead (Ins y ∷ []) 0 (compose [] s)
compose (Ins x ∷ f) (Ins y ∷ s) = ahead (Ins y ∷ []) 0 (compose (Ins x ∷ f) s)
compose (Keep w o ∷ f) (Ins y ∷ s) = ahead (Ins y ∷ []) 0 (compose (Keep w o ∷ f) s)
compose (Ins x ∷ f) (Keep u a ∷ s) = cond (keeps u a x) (ahead (Ins (kept u a x) ∷ []) 1 (compose f s)) (Err 0)
compose (Ins x ∷ f) (Del c n ∷ s) = cond (fits c n x) (ahead [] 1 (compose f s)) (Err 0)
compose (Keep w o ∷ f) (Keep u a ∷ s) = cond (follows w u && attributes_follow o a)
    (ahead (Keep (then w u) (attributes_then o a) ∷ []) 1 (compose f s)) (Err 0)
compose (Keep w o ∷ f) (Del c n ∷ s) = cond (can_precede c n w o)
    (ahead (Del (put_content (attributes_back o) c) (names_before n w) ∷ []) 1 (compose f s)) (Err 0)
compose [] [] = Ok []
compose [] (Keep u a ∷ s) = Err 0
compose [] (Del c n ∷ s) = Err 0
compose (Ins x ∷ f) [] = Err 0
compose (Keep w o ∷ f) [] = Err 0

abbrev pub defined : Composed → Option (List Action)
defined (Ok acts) = Some acts
defined (Err place) = None
