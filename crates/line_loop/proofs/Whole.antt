-- What is so of the bytes of a run, where both ends tell theirs.
use Rattle.std.proofs.Common.{◌≡◌, ℕ, List, Option, Some, None, refl, ap}
use Rattle.std.specs.Io.KnownBytes.{Appends, Consumes}
use Rattle.line_loop.specs.Told.{WhereTold}

pub told_of : (a b h i : Option (List ℕ)) (P : List ℕ → List ℕ → List ℕ → Type 0) (bs w : List ℕ)
    → Consumes a b bs → Appends h i w → ((left : List ℕ) → b ≡ Some left → P bs left w) → WhereTold a b h i P
told_of None b h i P bs w c p f = tt
told_of (Some x) None h i P bs w c p f = absurd c
told_of (Some x) (Some y) None i P bs w c p f = tt
told_of (Some x) (Some y) (Some u) None P bs w c p f = absurd p
told_of (Some x) (Some y) (Some u) (Some v) P bs w c p f = (bs, y, w, c, refl, ap (λ k. Some k) p, f y refl)
