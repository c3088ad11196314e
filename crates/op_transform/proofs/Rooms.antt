-- The lengths of what is written, and the depths.
use Rattle.std.proofs.Common.{◌≡◌, ℕ, zero, suc, ◌+◌, ◌<◌, ◌≤◌, ◌⊎◌, inl, inr, Bool, true, List, [], ◌∷◌, ◌++◌, length, map, replicate, refl, sym, ap, subst, ◌∙◌, arith}
use Rattle.std.proofs.lemmas.List.{length-map}
use Rattle.doc_items.specs.Balance.{level}
use Rattle.doc_items.specs.Changes.{ChangeSet, back}
use Rattle.doc_items.specs.Maps.{merge}
use Rattle.doc_items.specs.declared.item.Content.{Content}
use Rattle.doc_items.specs.declared.item.Content.TheVariants.{Character, Start, End}
use Rattle.change_view.specs.Rules.{one_second_turned}
use Rattle.change_view.specs.Sets.{as_inserted}
use Rattle.doc_op.specs.Actions.{AttributeChange, Action, Keep, insertion, deletion}
use Rattle.doc_op.specs.Apply.{put_content}
use Rattle.doc_op.specs.Lengths.{input_len, output_len}
use Rattle.doc_op.proofs.Lengths.{input_len-append, output_len-append, input_len-kept, output_len-kept, input_len-insertions, output_len-insertions, input_len-deletions, output_len-deletions}
use Rattle.op_transform.specs.Crossing.{keep_all}
use Rattle.op_transform.specs.Walks.{levels, IsInserted, IsDeleted, IsDeletedBehind, IsSideWithin, IsWithin, IsKept, AreKept}
use Rattle.op_transform.specs.declared.side.Side.{Side}
use Rattle.op_runs.specs.declared.kept.Kept.{Kept}
use Rattle.op_transform.specs.declared.walk.Walk.{Walk}

pub zero_or_more : (n : ℕ) → (n ≡ 0) ⊎ (0 < n)
zero_or_more zero = inl refl
zero_or_more (suc n) = inr (omega arith)

-- ---- so much is written after an output

abbrev pub IsShort : List Action → ℕ → Type 0
IsShort acts n = (input_len acts ≤ n) × (output_len acts ≤ n)

short_kept : (n : ℕ) (u : ChangeSet) (a : AttributeChange) → IsShort (replicate n (Keep u a)) n
short_kept n u a = (omega (arith, input_len-kept n u a), omega (arith, output_len-kept n u a))

short_inserted : (cs : List Content) (u : ChangeSet) → IsShort (map (insertion u) cs) (length cs)
short_inserted cs u = (omega (arith, input_len-insertions u cs), omega (arith, output_len-insertions u cs))

short_deleted : (cs : List Content) (u : ChangeSet) → IsShort (map (deletion u) cs) (length cs)
short_deleted cs u = (omega (arith, input_len-deletions u cs), omega (arith, output_len-deletions u cs))

longer : (out acts more : List Action) (l n : ℕ) → out ≡ acts ++ more → IsShort acts l → IsShort more n → IsShort out (l + n)
longer out acts more l n e s t =
    let i = ap input_len e ∙ input_len-append acts more in
    let o = ap output_len e ∙ output_len-append acts more in
    (omega (arith, i, s.0, t.0), omega (arith, o, s.1, t.1))

kept_within : (n : ℕ) (u : ChangeSet) (a : AttributeChange) (s s' : Side) (place l : ℕ) → IsKept n u a s s' → IsSideWithin s place l → IsSideWithin s' (place + n) (l + n)
kept_within n u a s s' place l h p =
    let k = longer s'.out s.out (replicate n (Keep u a)) l n h.out (p.0, p.1) (short_kept n u a) in
    let d = h.depth in
    (omega (arith, k.0), omega (arith, k.1), omega (arith, d, p.2))

pub both_kept_within : (x y : Kept) (u w : ChangeSet) (done after : Walk) (t : Bool) → t ≡ true → AreKept t x u y w done after → x.count ≡ y.count → IsWithin done
    → (IsSideWithin after.later (after.place + x.count) (after.length + x.count) × IsSideWithin after.earlier (after.place + x.count) (after.length + x.count) × (after.place + x.count ≤ after.length + x.count)) × (after.length + x.count ≡ done.length + x.count)
both_kept_within x y u w done after t is h same p =
    let k = subst (λ b. AreKept b x u y w done after) is h in
    let l = kept_within x.count _ _ done.later after.later done.place done.length k.later p.0 in
    let e = kept_within y.count _ _ done.earlier after.earlier done.place done.length k.earlier p.1 in
    let at = k.place in let n = k.length in
    (((omega (arith, l.0, n), omega (arith, l.1, n), omega (arith, l.2, at)), (omega (arith, e.0, n, same), omega (arith, e.1, n, same), omega (arith, e.2, at, same)), omega (arith, p.2, n, at)), omega (arith, n))

pub inserted_within : (u : ChangeSet) (cs : List Content) (mine other mine' other' : Side) (place l n : ℕ) → IsInserted u cs mine other mine' other' → n ≡ length cs → IsSideWithin mine place l → IsSideWithin other place l
    → IsSideWithin mine' place (l + n) × IsSideWithin other' place (l + n)
inserted_within u cs mine other mine' other' place l n h same p q =
    elim (zero_or_more other.depth) [
      | inl z ↦ by (longer mine'.out mine.out (map (insertion u) cs) l (length cs) (h.free z).0 (p.0, p.1) (short_inserted cs u))
          (longer other'.out other.out (replicate (length cs) keep_all) l (length cs) (h.free z).1 (q.0, q.1) (short_kept (length cs) _ _))
      | inr s ↦ by (subst (λ x. IsShort x (l + length cs)) (sym (h.under s).0) (omega (arith, p.0), omega (arith, p.1)))
          (longer other'.out other.out (map (deletion (back (as_inserted u))) cs) l (length cs) (h.under s).1 (q.0, q.1) (short_deleted cs (back (as_inserted u))))
    ]
  where
    by : IsShort mine'.out (l + length cs) → IsShort other'.out (l + length cs) → IsSideWithin mine' place (l + n) × IsSideWithin other' place (l + n)
    by a b = let d = h.depth in let e = h.other_depth in
        ((omega (arith, a.0, same), omega (arith, a.1, same), omega (arith, d, p.2)), (omega (arith, b.0, same), omega (arith, b.1, same), omega (arith, e, q.2)))

-- ---- depths

level_less : (c : Content) (n : ℕ) → level c n ≤ n + 1
level_less (Character x) n = omega arith
level_less (Start k m) n = omega arith
level_less End n = omega arith

pub levels_less : (cs : List Content) (n : ℕ) → levels cs n ≤ n + length cs
levels_less [] n = omega arith
levels_less (c ∷ cs) n = omega (arith, levels_less cs (level c n), level_less c n)

level-put : (a : AttributeChange) (c : Content) (n : ℕ) → level (put_content a c) n ≡ level c n
level-put a (Character x) n = refl
level-put a (Start k m) n = refl
level-put a End n = refl

pub levels-put : (a : AttributeChange) (cs : List Content) (n : ℕ) → levels (map (put_content a) cs) n ≡ levels cs n
levels-put a [] n = refl
levels-put a (c ∷ cs) n = ap (levels (map (put_content a) cs)) (level-put a c n) ∙ levels-put a cs (level c n)

pub deleted_within : (w : ChangeSet) (cs : List Content) (s s' : Side) (place l n : ℕ) → IsDeleted w cs s s' → n ≡ length cs → IsSideWithin s place l → IsSideWithin s' (place + n) (l + n)
deleted_within w cs s s' place l n h same p =
    let k = longer s'.out s.out (map (deletion w) cs) l (length cs) h.out (p.0, p.1) (short_deleted cs w) in
    let d = h.depth in
    (omega (arith, k.0, same), omega (arith, k.1, same), omega (arith, d, levels_less cs s.depth, p.2, same))

pub after_within : (t : Bool) (v u : ChangeSet) (a : AttributeChange) (cs : List Content) (s s' : Side) (place l n : ℕ) → t ≡ true → IsDeletedBehind t v u a cs s s' → n ≡ length cs → IsSideWithin s place l → IsSideWithin s' (place + n) (l + n)
after_within t v u a cs s s' place l n e h same p =
    let d = subst (λ x. IsDeletedBehind x v u a cs s s') e h in
    deleted_within (merge one_second_turned v u) (map (put_content a) cs) s s' place l n d.1 (same ∙ sym (length-map cs (put_content a))) p
