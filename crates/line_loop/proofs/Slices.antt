-- Slices from a place on, as the code takes them.
use Rattle.std.proofs.Common.{◌≡◌, ℕ, ◌+◌, ◌-◌, ◌≤◌, length, arith, List, take, drop, ap}
use Rattle.std.proofs.lemmas.List.{take_all, length-drop}

pub slice_end : (at : ℕ) (bytes : List ℕ) → take (length bytes - at) (drop at bytes) ≡ drop at bytes
slice_end at bytes = take_all (length bytes - at) (drop at bytes) (omega (arith, length-drop at bytes))

pub length-slice_end : (at n : ℕ) (bytes : List ℕ) → at ≤ length bytes → n ≤ length (take (length bytes - at) (drop at bytes)) → at + n ≤ length bytes
length-slice_end at n bytes h k =
    let e : n ≤ length (drop at bytes) = rw slice_end at k in
    omega (arith, length-drop at bytes)

pub slice_until : (from n : ℕ) (xs : List ℕ) → take (from + n - from) xs ≡ take n xs
slice_until from n xs =
    let same : from + n - from ≡ n = omega arith in
    ap (λ k. take k xs) same
