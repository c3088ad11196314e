-- The lengths of what is written.
use Rattle.std.proofs.Common.{◌≡◌, ℕ, suc, ◌+◌, ◌≤◌, List, [], ◌∷◌, ◌++◌, length, map, replicate, drop, ap, ◌∙◌, zero, refl, arith}
use Rattle.doc_items.specs.Changes.{ChangeSet}
use Rattle.doc_items.specs.declared.item.Content.{Content}
use Rattle.doc_op.specs.Actions.{AttributeChange, Action, Keep, Ins, Del, insertion, deletion}
use Rattle.doc_op.specs.Lengths.{input_len, output_len, inserted_len}
use Rattle.doc_op.proofs.Lengths.{input_len-append, output_len-append, input_len-kept, output_len-kept}

-- an output with actions more, of n items at most
pub record IsLonger (old new : List Action) (n : ℕ) : Type 0 where
  pub input : input_len new ≤ input_len old + n
  pub output : output_len new ≤ output_len old + n

longer : (old new more : List Action) (n : ℕ) → new ≡ old ++ more → input_len more ≤ n → output_len more ≤ n → IsLonger old new n
longer old new more n e i o = record {
  input = let a = ap input_len e ∙ input_len-append old more in omega (arith, a, i);
  output = let a = ap output_len e ∙ output_len-append old more in omega (arith, a, o);
}

insertions_in : (cs : List Content) (u : ChangeSet) → input_len (map (insertion u) cs) ≡ 0
insertions_in [] u = refl
insertions_in (c ∷ cs) u = insertions_in cs u

insertions_out : (cs : List Content) (u : ChangeSet) → output_len (map (insertion u) cs) ≡ length cs
insertions_out [] u = refl
insertions_out (c ∷ cs) u = omega (arith, insertions_out cs u)

deletions_in : (cs : List Content) (u : ChangeSet) → input_len (map (deletion u) cs) ≡ length cs
deletions_in [] u = refl
deletions_in (c ∷ cs) u = omega (arith, deletions_in cs u)

deletions_out : (cs : List Content) (u : ChangeSet) → output_len (map (deletion u) cs) ≡ 0
deletions_out [] u = refl
deletions_out (c ∷ cs) u = deletions_out cs u

pub inserted_longer : (old new : List Action) (u : ChangeSet) (cs : List Content) (n : ℕ) → new ≡ old ++ map (insertion u) cs → n ≡ length cs → IsLonger old new n
inserted_longer old new u cs n e l = longer old new (map (insertion u) cs) n e (omega (arith, insertions_in cs u)) (omega (arith, insertions_out cs u, l))

pub deleted_longer : (old new : List Action) (u : ChangeSet) (cs : List Content) (n : ℕ) → new ≡ old ++ map (deletion u) cs → n ≡ length cs → IsLonger old new n
deleted_longer old new u cs n e l = longer old new (map (deletion u) cs) n e (omega (arith, deletions_in cs u, l)) (omega (arith, deletions_out cs u))

pub kept_longer : (old new : List Action) (u : ChangeSet) (a : AttributeChange) (n : ℕ) → new ≡ old ++ replicate n (Keep u a) → IsLonger old new n
kept_longer old new u a n e = longer old new (replicate n (Keep u a)) n e (omega (arith, input_len-kept n u a)) (omega (arith, output_len-kept n u a))

-- ---- what is left

pub inserted_len-insertions : (cs : List Content) (u : ChangeSet) → inserted_len (map (insertion u) cs) ≡ length cs
inserted_len-insertions [] u = refl
inserted_len-insertions (c ∷ cs) u = omega (arith, inserted_len-insertions cs u)

pub inserted_len-drop : (n : ℕ) (acts : List Action) → inserted_len (drop n acts) ≤ inserted_len acts
inserted_len-drop zero acts = omega arith
inserted_len-drop (suc n) [] = omega arith
inserted_len-drop (suc n) (Keep u a ∷ acts) = inserted_len-drop n acts
inserted_len-drop (suc n) (Ins x ∷ acts) = let h = inserted_len-drop n acts in omega (arith, h)
inserted_len-drop (suc n) (Del c m ∷ acts) = inserted_len-drop n acts

-- each action takes an item or inserts one
pub both_lengths : (acts : List Action) → input_len acts + inserted_len acts ≡ length acts
both_lengths [] = refl
both_lengths (Keep u a ∷ acts) = omega (arith, both_lengths acts)
both_lengths (Ins x ∷ acts) = omega (arith, both_lengths acts)
both_lengths (Del c n ∷ acts) = omega (arith, both_lengths acts)
