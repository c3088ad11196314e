use Rattle.std.proofs.Common.{rules, ◌≡◌, List, [], ◌∷◌, ◌++◌, length, subst, sym, arith}
use Rattle.turn_lock.specs.declared.cell.Pass.{Pass}
use Rattle.turn_lock.specs.declared.cell.TurnCell.{TurnCell}
use Rattle.turn_cells.proofs.Closing.{IsClosing, begins, last_pair, closes, closed, later_at, no_items}
use Rattle.turn_cells.proofs.cells.Cells.close.Goals as goal

pub loop-cell-init : goal.loop-cell-init
loop-cell-init g c =
    let none : length c.args.self.room.items ≡ 0 = search rules in
    (begins g.T.Logged.entries c.args.passes.list.items c.args.self.list.items c.args.self.sixteen c.requires.0 c.requires.1 c.args.self.room.items (no_items c.args.self.room.items none), c.args.self.roomy.1)

pub close_last-requires-clause-own : goal.close_last-requires-clause-own
close_last-requires-clause-own g c =
    let cells : c.loop-cell.list.items ≡ c.pop.new.self.items ++ c.in-Some.cell ∷ [] = search rules in
    let passes : c.loop-cell.passes.items ≡ c.pop-in-Some.new.self.items ++ c.in_ok-pass.pass ∷ [] = search rules in
    let inv = subst (λ (z : List (TurnCell g.row.T.Denot g.row.T-Entry.Denot) × List (Pass g.row.T.Denot g.row.T-Entry.Denot)). IsClosing g.T.Logged.entries c.args.passes.list.items z.0 z.1 c.loop-cell.room.items) (λ i. (cells i, passes i)) c.loop-cell.invariant.0 in
    last_pair g.T.Logged.entries c.pop.new.self.items c.pop-in-Some.new.self.items c.in-Some.cell c.in_ok-pass.pass inv.even inv.pairs

pub loop-cell-preserved : goal.loop-cell-preserved
loop-cell-preserved g c =
    let cells : c.loop-cell.list.items ≡ c.pop.new.self.items ++ c.in-Some.cell ∷ [] = search rules in
    let passes : c.loop-cell.passes.items ≡ c.pop-in-Some.new.self.items ++ c.in_ok-pass.pass ∷ [] = search rules in
    let inv = subst (λ (z : List (TurnCell g.row.T.Denot g.row.T-Entry.Denot) × List (Pass g.row.T.Denot g.row.T-Entry.Denot)). IsClosing g.T.Logged.entries c.args.passes.list.items z.0 z.1 c.loop-cell.room.items) (λ i. (cells i, passes i)) c.loop-cell.invariant.0 in
    let made = c.in_ok-close_last.ensures.closed in (
      subst (IsClosing g.T.Logged.entries c.args.passes.list.items c.pop.new.self.items c.pop-in-Some.new.self.items) (sym made.1)
          (closes g.T.Logged.entries c.args.passes.list.items c.pop.new.self.items c.pop-in-Some.new.self.items c.loop-cell.room.items c.in-Some.cell c.in_ok-pass.pass made.0 inv made.2),
      omega (arith, c.close_last.ensures.room, c.loop-cell.invariant.1),
    )

pub returns-clause-seen : goal.returns-clause-seen
returns-clause-seen g c =
    let none : length c.loop-cell.list.items ≡ 0 = search rules in
    λ k v e. later_at g.T.Logged.entries c.args.passes.list.items c.loop-cell.room.items (closed g.T.Logged.entries c.args.passes.list.items c.loop-cell.list.items c.loop-cell.passes.items c.loop-cell.room.items c.loop-cell.invariant.0 none) k v e
