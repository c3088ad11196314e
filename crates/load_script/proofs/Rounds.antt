-- Each follower in turn.
--     rounds     four turns, one after the other
use Rattle.std.proofs.Common.{◌≡◌, Result, Ok, Err, OnOk, ap, ◌∙◌}
use Rattle.load_script.specs.Exchanges.{Meeting}
use Rattle.load_script.specs.Loads.{Load, on, each}

pub rounds : {A E : Type 0} (r : Result A E) (g : Meeting → Meeting) (l l1 l2 l3 l4 : Load) → l1 ≡ on 0 g l → l2 ≡ on 1 g l1 → l3 ≡ on 2 g l2 → OnOk r (l4 ≡ on 3 g l3) → OnOk r (l4 ≡ each g l)
unfolding each
rounds (Ok a) g l l1 l2 l3 l4 e f h k = k ∙ ap (on 3 g) (h ∙ ap (on 2 g) (f ∙ ap (on 1 g) e))
rounds (Err x) g l l1 l2 l3 l4 e f h k = tt
