use Rattle.std.proofs.Common.{◌∙◌, arith}
use Rattle.turn_cells.proofs.Making.{made_lengths, made_at, made_seen, made_unused}
use Rattle.turn_cells.proofs.cells.Cells.new.Goals as goal

pub invariant_of-result : goal.invariant_of-result
invariant_of-result g c = record {
  sixteen = (made_lengths g.T.Logged.entries _ _ _ c.in_ok-list.ensures).0 ∙ c.requires;
  roomy = (c.in_ok-room.ensures.empty, c.in_ok-room.ensures.room);
}

pub returns-clause-own : goal.returns-clause-own
returns-clause-own g c = (
  (made_lengths g.T.Logged.entries _ _ _ c.in_ok-list.ensures).1 ∙ c.requires,
  λ k l. made_at g.T.Logged.entries _ _ _ c.in_ok-list.ensures k (omega (arith, c.requires)),
)

pub returns-clause-seen : goal.returns-clause-seen
returns-clause-seen g c = λ k v e. made_seen g.T.Logged.entries _ _ _ c.in_ok-list.ensures k v e

pub returns-clause-unused : goal.returns-clause-unused
returns-clause-unused g c = λ k l. made_unused g.T.Logged.entries _ _ _ c.in_ok-list.ensures k (omega (arith, c.requires))
