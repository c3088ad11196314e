use Rattle.std.proofs.Common.{◌≡◌, ◌++◌, take, map}
use Rattle.change_table.proofs.touched.Touched.add.Given as goal

abbrev pub invariant-loop-key : goal.invariant-loop-key
invariant-loop-key l = l.keys.items ≡ l.initial.keys.items ++ take l.key-index l.boundary.end

abbrev pub invariant-loop-change : goal.invariant-loop-change
invariant-loop-change l = l.keys.items ≡ l.initial.keys.items ++ map (λ c. c.key) (take l.change-index l.boundary.change)
