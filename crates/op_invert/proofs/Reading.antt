-- Items read in a row.
--     rest_is_run      all that is left is a run
--     take_whole       so many at most
--     run_next         the first items of a run are the next ones
use Rattle.std.proofs.Common.{◌≡◌, ℕ, ◌+◌, ◌-◌, ◌<◌, ◌≤◌, List, ◌++◌, length, take, drop, sym, ap, ◌∙◌, arith, length-drop}
use Rattle.std.proofs.lemmas.List.{take_all, take-take, take-append-drop, drop-drop, drop-take, length-take, take_min}
use Rattle.doc_items.specs.declared.item.Item.{Item}
use Rattle.doc_rope.specs.Runs.{IsRun}

pub rest_is_run : (items run : List Item) (p : ℕ) → run ≡ drop p items → p ≤ length items → IsRun items p run
rest_is_run items run p e h =
    let n = ap length e ∙ length-drop p items in (
      take_all (length run) (drop p items) (omega (arith, ap length e)) ∙ sym e,
      λ z. omega (arith, n, z, h),
    )

pub take_whole : {X : Type 0} (n : ℕ) (xs : List X) → length xs ≤ n → xs ≡ take n xs
take_whole n xs h = sym (take_all n xs h)

-- the items next, with which a run at p begins, are the first of the n items there
pub record IsNext (items next : List Item) (p n : ℕ) : Type 0 where
  pub all : take n (drop p items) ≡ next ++ take (n - length next) (drop (p + length next) items)
  pub some : 0 < length next
  pub fits : length next ≤ n

front_of : (items : List Item) (n k : ℕ) → k ≤ n → take n items ≡ take k items ++ take (n - k) (drop k items)
front_of items n k h =
    let m = n - k in
    let whole : k + m ≡ n = omega (arith, h) in
    sym (take-append-drop k (take n items))
    ∙ (λ i. take-take k n items h i ++ drop k (take (sym whole i) items))
    ∙ ap (λ w. take k items ++ w) (drop-take k m items)

-- a list that is taken from the front of another begins it
own_front : (run next : List Item) (n : ℕ) → next ≡ take n run → take (length next) run ≡ next
own_front run next n e = ap (λ (w : List Item). take (length w) run) e ∙ ap (λ m. take m run) (length-take n run) ∙ take_min n run ∙ sym e

pub run_next : (items run next : List Item) (p n : ℕ) → IsRun items p run → next ≡ take n run → p + n ≤ length items → 0 < n → IsNext items next p n
run_next items run next p n h e fits some =
    let k = length next in
    let left = length-drop p items in
    let len = ap length e ∙ length-take n run in
    let filled : length run ≡ 0 → ⊥ = λ z. let none = h.1 z in absurd (omega (arith, none, fits, some)) in
    let fits_n : k ≤ n = omega (arith, len) in
    let fits_run : k ≤ length run = omega (arith, len) in
    let first : take k (drop p items) ≡ next =
    sym (take-take k (length run) (drop p items) fits_run) ∙ ap (take k) (h.0) ∙ own_front run next n e in
    record {
      all = front_of (drop p items) n k fits_n ∙ (λ i. first i ++ take (n - k) (drop-drop k p items i));
      some = omega (arith, len, filled, some);
      fits = fits_n;
    }
