-- What one more message takes.
use Rattle.std.proofs.Common.{arith, ◌≡◌, ℕ, ◌+◌, List, [], ◌∷◌, ◌++◌, map}
use Rattle.ws_link.specs.Costs.{cost, waiting}

pub waiting_more : {V : Type 0} (f : V → List ℕ) (vs : List V) (v : V) → waiting (map f (vs ++ v ∷ [])) ≡ waiting (map f vs) + cost (f v)
waiting_more f [] v = omega arith
waiting_more f (w ∷ vs) v = let e : waiting (map f (vs ++ v ∷ [])) ≡ waiting (map f vs) + cost (f v) = waiting_more f vs v in omega (arith, e)
