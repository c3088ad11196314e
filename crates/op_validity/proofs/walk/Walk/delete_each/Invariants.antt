use Rattle.std.proofs.Common.{◌+◌, ◌≤◌, List, ◌++◌, length, map, drop}
use Rattle.doc_items.specs.Limits.{max_count}
use Rattle.doc_items.specs.Changes.{change_set}
use Rattle.doc_items.specs.declared.item.Content.TheVariants.{Character}
use Rattle.doc_op.specs.Actions.{Action, deletion}
use Rattle.op_validity.specs.Sources.{ahead}
use Rattle.op_validity.specs.Walks.{Same}
use Rattle.op_validity.proofs.walk.Walk.delete_each.Given as goal

abbrev pub invariant-loop-c : goal.invariant-loop-c
invariant-loop-c l = record {
  same : (more : List Action) → Same l.fn.self.place (ahead l.fn.self.rest) (map (λ c. deletion (change_set l.fn.running) (Character c)) l.chars ++ more) l.self.place (ahead l.self.rest) (map (λ c. deletion (change_set l.fn.running) (Character c)) (drop l.c-index l.chars) ++ more);
  bound : l.self.place + length (ahead l.self.rest) ≤ max_count;
}
