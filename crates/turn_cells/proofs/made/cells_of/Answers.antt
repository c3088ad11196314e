use Rattle.std.proofs.Common.{rules, ◌≡◌, [], ◌∷◌, ◌++◌}
use Rattle.turn_cells.proofs.Making.{made_push}
use Rattle.turn_cells.proofs.made.cells_of.Goals as goal

pub loop-value-preserved : goal.loop-value-preserved
loop-value-preserved g c =
    let cells : c.push.new.self.items ≡ c.loop-value.cells.items ++ c.in_ok-cell.cell ∷ [] = search rules in
    let passes : c.push-in-loop-value.new.self.items ≡ c.loop-value.passes.items ++ c.in_ok-cell.pass ∷ [] = search rules in
    let counts = c.in_ok-cell.ensures.counts in
    rw (cells, passes) (made_push g.T.Logged.entries _ _ _ c.in-Some.value c.in_ok-cell.cell c.in_ok-cell.pass c.loop-value.invariant
    (record { own = c.in_ok-cell.ensures.own; seen = c.in_ok-cell.ensures.seen; unused = record { loads = counts.0; added = counts.1; ticket = counts.2 } }))
