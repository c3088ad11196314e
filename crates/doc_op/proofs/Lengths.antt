-- The lengths of operations, component by component.
--     component_lengths     of one component's actions, whatever runs
--     added_lengths         of an operation with one more component
--     input_room, output_room, input_left, output_left     what has room after other actions
use Rattle.std.proofs.Common.{◌≡◌, ℕ, zero, suc, ◌+◌, ◌≤◌, List, [], ◌∷◌, ◌++◌, length, map, replicate, refl, ap, sym, ◌∙◌, arith, append_assoc, add-zero}
use Rattle.doc_items.specs.Changes.{ChangeSet, none_running}
use Rattle.doc_items.specs.Limits.{max_count}
use Rattle.doc_items.specs.declared.item.Content.{Content}
use Rattle.doc_items.specs.declared.item.Content.TheVariants.{Character}
use Rattle.doc_op.specs.declared.component.Component.{Component}
use Rattle.doc_op.specs.Actions.{Action, Keep, Ins, Del, AttributeChange, insertion, deletion, component_actions, running_after, running_from, running, actions_from, actions}
use Rattle.doc_op.specs.Lengths.{input_len, output_len, inserted_len}

pub actions_from-append : (u : ChangeSet) (cs ds : List Component) → actions_from u (cs ++ ds) ≡ actions_from u cs ++ actions_from (running_from u cs) ds
actions_from-append u [] ds = refl
actions_from-append u (c ∷ cs) ds =
    ap (λ xs. component_actions u c ++ xs) (actions_from-append (running_after u c) cs ds)
    ∙ sym (append_assoc (component_actions u c) (actions_from (running_after u c) cs) (actions_from (running_from (running_after u c) cs) ds))

pub running_from-append : (u : ChangeSet) (cs ds : List Component) → running_from u (cs ++ ds) ≡ running_from (running_from u cs) ds
running_from-append u [] ds = refl
running_from-append u (c ∷ cs) ds = running_from-append (running_after u c) cs ds

pub running-add : (cs : List Component) (c : Component) → running (cs ++ c ∷ []) ≡ running_after (running cs) c
running-add cs c = running_from-append none_running cs (c ∷ [])

pub actions-add : (cs : List Component) (c : Component) → actions (cs ++ c ∷ []) ≡ actions cs ++ (component_actions (running cs) c ++ [])
actions-add cs c = actions_from-append none_running cs (c ∷ [])

pub input_len-append : (rest bs : List Action) → input_len (rest ++ bs) ≡ input_len rest + input_len bs
input_len-append [] bs = omega arith
input_len-append (Keep u a ∷ rest) bs = omega (arith, input_len-append rest bs)
input_len-append (Ins i ∷ rest) bs = input_len-append rest bs
input_len-append (Del c n ∷ rest) bs = omega (arith, input_len-append rest bs)

pub output_len-append : (rest bs : List Action) → output_len (rest ++ bs) ≡ output_len rest + output_len bs
output_len-append [] bs = omega arith
output_len-append (Keep u a ∷ rest) bs = omega (arith, output_len-append rest bs)
output_len-append (Ins i ∷ rest) bs = omega (arith, output_len-append rest bs)
output_len-append (Del c n ∷ rest) bs = output_len-append rest bs

pub inserted_len-append : (rest bs : List Action) → inserted_len (rest ++ bs) ≡ inserted_len rest + inserted_len bs
inserted_len-append [] bs = omega arith
inserted_len-append (Keep u a ∷ rest) bs = inserted_len-append rest bs
inserted_len-append (Ins i ∷ rest) bs = omega (arith, inserted_len-append rest bs)
inserted_len-append (Del c n ∷ rest) bs = inserted_len-append rest bs

-- ---- components of one kind

pub input_len-kept : (n : ℕ) (u : ChangeSet) (a : AttributeChange) → input_len (replicate n (Keep u a)) ≡ n
input_len-kept zero u a = refl
input_len-kept (suc n) u a = omega (arith, input_len-kept n u a)

pub output_len-kept : (n : ℕ) (u : ChangeSet) (a : AttributeChange) → output_len (replicate n (Keep u a)) ≡ n
output_len-kept zero u a = refl
output_len-kept (suc n) u a = omega (arith, output_len-kept n u a)

pub inserted_len-kept : (n : ℕ) (u : ChangeSet) (a : AttributeChange) → inserted_len (replicate n (Keep u a)) ≡ 0
inserted_len-kept zero u a = refl
inserted_len-kept (suc n) u a = inserted_len-kept n u a

pub input_len-inserted : (u : ChangeSet) (t : List ℕ) → input_len (map (λ c. insertion u (Character c)) t) ≡ 0
input_len-inserted u [] = refl
input_len-inserted u (c ∷ t) = input_len-inserted u t

pub output_len-inserted : (u : ChangeSet) (t : List ℕ) → output_len (map (λ c. insertion u (Character c)) t) ≡ length t
output_len-inserted u [] = refl
output_len-inserted u (c ∷ t) = omega (arith, output_len-inserted u t)

pub inserted_len-inserted : (u : ChangeSet) (t : List ℕ) → inserted_len (map (λ c. insertion u (Character c)) t) ≡ length t
inserted_len-inserted u [] = refl
inserted_len-inserted u (c ∷ t) = omega (arith, inserted_len-inserted u t)

pub input_len-deleted : (u : ChangeSet) (t : List ℕ) → input_len (map (λ c. deletion u (Character c)) t) ≡ length t
input_len-deleted u [] = refl
input_len-deleted u (c ∷ t) = omega (arith, input_len-deleted u t)

pub output_len-deleted : (u : ChangeSet) (t : List ℕ) → output_len (map (λ c. deletion u (Character c)) t) ≡ 0
output_len-deleted u [] = refl
output_len-deleted u (c ∷ t) = output_len-deleted u t

pub inserted_len-deleted : (u : ChangeSet) (t : List ℕ) → inserted_len (map (λ c. deletion u (Character c)) t) ≡ 0
inserted_len-deleted u [] = refl
inserted_len-deleted u (c ∷ t) = inserted_len-deleted u t

-- ---- with one more component

with_one : (f : List Action → ℕ) → ((xs ys : List Action) → f (xs ++ ys) ≡ f xs + f ys) → f [] ≡ 0
    → (cs : List Component) (c : Component) → f (actions (cs ++ c ∷ [])) ≡ f (actions cs) + f (component_actions (running cs) c)
with_one f adds none cs c =
    let a = component_actions (running cs) c in
    ap f (actions-add cs c) ∙ adds (actions cs) (a ++ []) ∙ ap (λ n. f (actions cs) + n) (adds a [] ∙ ap (λ n. f a + n) none ∙ add-zero (f a))

pub input_len-add : (cs : List Component) (c : Component) → input_len (actions (cs ++ c ∷ [])) ≡ input_len (actions cs) + input_len (component_actions (running cs) c)
input_len-add = with_one input_len input_len-append refl

pub output_len-add : (cs : List Component) (c : Component) → output_len (actions (cs ++ c ∷ [])) ≡ output_len (actions cs) + output_len (component_actions (running cs) c)
output_len-add = with_one output_len output_len-append refl

pub inserted_len-add : (cs : List Component) (c : Component) → inserted_len (actions (cs ++ c ∷ [])) ≡ inserted_len (actions cs) + inserted_len (component_actions (running cs) c)
inserted_len-add = with_one inserted_len inserted_len-append refl

pub ruleset component_lengths = (input_len-kept, output_len-kept, inserted_len-kept, input_len-inserted, output_len-inserted, inserted_len-inserted, input_len-deleted, output_len-deleted, inserted_len-deleted)

pub ruleset added_lengths = (input_len-add, output_len-add, inserted_len-add)

-- ---- runs of any contents

pub input_len-insertions : (u : ChangeSet) (cs : List Content) → input_len (map (insertion u) cs) ≡ 0
input_len-insertions u [] = refl
input_len-insertions u (c ∷ cs) = input_len-insertions u cs

pub output_len-insertions : (u : ChangeSet) (cs : List Content) → output_len (map (insertion u) cs) ≡ length cs
output_len-insertions u [] = refl
output_len-insertions u (c ∷ cs) = omega (arith, output_len-insertions u cs)

pub input_len-deletions : (u : ChangeSet) (cs : List Content) → input_len (map (deletion u) cs) ≡ length cs
input_len-deletions u [] = refl
input_len-deletions u (c ∷ cs) = omega (arith, input_len-deletions u cs)

pub output_len-deletions : (u : ChangeSet) (cs : List Content) → output_len (map (deletion u) cs) ≡ 0
output_len-deletions u [] = refl
output_len-deletions u (c ∷ cs) = output_len-deletions u cs

-- ---- after other actions

pub input_room : (acts before more : List Action) (n : ℕ) → acts ≡ before → input_len more ≡ n → input_len before + n ≤ max_count → input_len (acts ++ more) ≤ max_count
input_room acts before more n e f h = omega (arith, input_len-append acts more, ap input_len e, f, h)

pub output_room : (acts before more : List Action) (n : ℕ) → acts ≡ before → output_len more ≡ n → output_len before + n ≤ max_count → output_len (acts ++ more) ≤ max_count
output_room acts before more n e f h = omega (arith, output_len-append acts more, ap output_len e, f, h)

-- and of what is left, the first actions have
pub input_left : (acts front behind all : List Action) → acts ++ (front ++ behind) ≡ all → input_len all ≤ max_count → input_len acts + input_len front ≤ max_count
input_left acts front behind all e h = omega (arith, input_len-append acts (front ++ behind), input_len-append front behind, ap input_len e, h)

pub output_left : (acts front behind all : List Action) → acts ++ (front ++ behind) ≡ all → output_len all ≤ max_count → output_len acts + output_len front ≤ max_count
output_left acts front behind all e h = omega (arith, output_len-append acts (front ++ behind), output_len-append front behind, ap output_len e, h)
