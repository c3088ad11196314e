-- What is left of an operation, and what a step makes of it.
--     front_split     the first actions of a run, and what is left after them
--     fewer_left      less is left after a step
use Rattle.std.proofs.Common.{◌≡◌, ℕ, zero, suc, ◌+◌, ◌<◌, ◌≤◌, Option, List, [], ◌∷◌, ◌++◌, length, take, drop, refl, sym, ap, ◌∙◌, arith, length-append, length-drop}
use Rattle.std.proofs.lemmas.List.{take-append-drop}
use Rattle.doc_op.specs.Actions.{Action}
use Rattle.doc_op.specs.Cursors.{Way, left}
use Rattle.op_runs.specs.Passages.{ArePast}

take_front : (x rest : List Action) (n : ℕ) → n ≤ length x → take n (x ++ rest) ≡ take n x
take_front x rest zero h = refl
take_front [] rest (suc n) h = absurd (omega (arith, h))
take_front (a ∷ x) rest (suc n) h = ap (λ l. a ∷ l) (take_front x rest n (omega (arith, h)))

pub front_split : (l : Way) (n : ℕ) → n ≤ length l.front → left l ≡ take n l.front ++ drop n (left l)
front_split l n h = sym (take-append-drop n (left l)) ∙ ap (λ x. x ++ drop n (left l)) (take_front l.front l.behind n h)

fewer : (l m : Way) (n : ℕ) → n ≤ length l.front → left m ≡ drop n (left l) → length (left m) + n ≡ length (left l)
fewer l m n fits e =
    let rest = ap length e ∙ length-drop n (left l) in
    let all = length-append l.front l.behind in
    omega (arith, rest, all, fits)

pub fewer_left : (n m : ℕ) (f s g t : Way) (touched last : Option (List (List ℕ))) → 0 < n + m → n ≤ length f.front → m ≤ length s.front → ArePast n m f s touched g t last
    → length (left g) + length (left t) < length (left f) + length (left s)
fewer_left n m f s g t touched last some first_fits second_fits past =
    let first = fewer f g n first_fits past.first in
    let second = fewer s t m second_fits past.second in
    omega (arith, first, second, some)
